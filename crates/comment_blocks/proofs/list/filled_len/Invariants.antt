use Rattle.std.proofs.Common.{◌≡◌, ◌+◌, length}
use Rattle.std.specs.List.{prefix_len}
use Rattle.comment_blocks.specs.LineSteps.{is_filled, texts}
use Rattle.comment_blocks.proofs.list.filled_len.Given as goal

-- the lines so far and those at the front of the rest
abbrev pub invariant-loop-rest : goal.invariant-loop-rest
invariant-loop-rest l = record {
  left : l.len + length l.rest ≡ length l.lines;
  front : l.len + prefix_len is_filled (texts l.rest) ≡ prefix_len is_filled (texts l.lines);
}

abbrev pub decreases-loop-rest : goal.decreases-loop-rest
decreases-loop-rest l = length l.rest
