use Rattle.std.proofs.Common.{◌≡◌, ◌+◌, length}
use Rattle.comment_blocks.specs.Lists.{common_front}
use Rattle.comment_blocks.proofs.list.common_len.Given as goal

-- what is common so far and at the front of the rests
abbrev pub invariant-loop-left : goal.invariant-loop-left
invariant-loop-left l = record {
  within : l.len + length l.left ≡ length l.first;
  front : l.len + length (common_front l.left l.right) ≡ length (common_front l.first l.second);
}

abbrev pub decreases-loop-left : goal.decreases-loop-left
decreases-loop-left l = length l.left
