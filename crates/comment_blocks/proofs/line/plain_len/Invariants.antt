use Rattle.std.proofs.Common.{◌≡◌, ◌+◌, length}
use Rattle.std.specs.List.{prefix_len}
use Rattle.comment_blocks.specs.Spans.{is_plain}
use Rattle.comment_blocks.specs.LineSteps.{texts}
use Rattle.comment_blocks.proofs.line.plain_len.Given as goal

-- the lines so far and the plain ones at the front of the rest
abbrev pub invariant-loop-rest : goal.invariant-loop-rest
invariant-loop-rest l = record {
  left : l.len + length l.rest ≡ length l.lines;
  plain : l.len + prefix_len is_plain (texts l.rest) ≡ prefix_len is_plain (texts l.lines);
}

abbrev pub decreases-loop-rest : goal.decreases-loop-rest
decreases-loop-rest l = length l.rest
