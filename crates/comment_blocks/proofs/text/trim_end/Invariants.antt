use Rattle.std.proofs.Common.{◌≡◌, ℕ, ◌<◌, ◌≤◌, length, get_or, true}
use Rattle.comment_blocks.specs.Texts.{is_trailing}
use Rattle.comment_blocks.proofs.text.trim_end.Given as goal

-- what stands after the place goes
abbrev pub invariant-loop-end : goal.invariant-loop-end
invariant-loop-end l = record {
  within : l.end ≤ length l.line;
  behind : (k : ℕ) → l.end ≤ k → k < length l.line → is_trailing (get_or l.line k 0) ≡ true;
}

abbrev pub decreases-loop-end : goal.decreases-loop-end
decreases-loop-end l = l.end
