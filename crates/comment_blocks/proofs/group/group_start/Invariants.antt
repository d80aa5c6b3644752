use Rattle.std.proofs.Common.{◌≡◌, ℕ, ◌<◌, ◌≤◌, true}
use Rattle.comment_blocks.specs.Groups.{goes_on_at}
use Rattle.comment_blocks.proofs.group.group_start.Given as goal

-- the comments after the place so far go on a group
abbrev pub invariant-loop-start : goal.invariant-loop-start
invariant-loop-start l = record {
  within : l.start ≤ l.place;
  together : (k : ℕ) → l.start < k → k ≤ l.place → goes_on_at l.scanned k ≡ true;
}

abbrev pub decreases-loop-start : goal.decreases-loop-start
decreases-loop-start l = l.start
