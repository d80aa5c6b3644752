use Rattle.std.proofs.Common.{◌≡◌, ℕ, ◌-◌, ◌<◌, ◌≤◌, length, get_or, false}
use Rattle.comment_links.specs.InlineSteps.{may_begin}
use Rattle.comment_links.proofs.reading.next_begin.Given as goal

-- no mark may begin before the place
abbrev pub invariant-loop-place : goal.invariant-loop-place
invariant-loop-place l = record {
  behind : l.from ≤ l.place;
  within : l.place ≤ length l.text;
  none : (k : ℕ) → l.from ≤ k → k < l.place → may_begin (get_or l.text k 0) ≡ false;
}

abbrev pub decreases-loop-place : goal.decreases-loop-place
decreases-loop-place l = length l.text - l.place
