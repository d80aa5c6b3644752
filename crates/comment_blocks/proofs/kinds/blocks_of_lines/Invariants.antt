use Rattle.std.proofs.Common.{◌≡◌, ◌++◌, length, true, false}
use Rattle.comment_blocks.specs.Spans.{pieces_of}
use Rattle.comment_blocks.specs.LineSteps.{blocks_from, texts}
use Rattle.comment_blocks.proofs.kinds.blocks_of_lines.Given as goal

-- the blocks so far and those of the rest are all
abbrev pub invariant-loop-rest : goal.invariant-loop-rest
invariant-loop-rest l =
    l.blocks ++ blocks_from l.free l.plain (pieces_of (texts l.rest))
    ≡ blocks_from true false (pieces_of (texts l.lines))

abbrev pub decreases-loop-rest : goal.decreases-loop-rest
decreases-loop-rest l = length l.rest
