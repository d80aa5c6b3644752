use Rattle.std.proofs.Common.{◌≡◌, length}
use Rattle.comment_blocks.specs.Blocks.{plain_beyond}
use Rattle.comment_blocks.specs.Spans.{pieces_of}
use Rattle.comment_blocks.specs.LineSteps.{texts}
use Rattle.comment_blocks.proofs.kinds.plain_beyond.Given as goal

-- the rest says the same
abbrev pub invariant-loop-rest : goal.invariant-loop-rest
invariant-loop-rest l = plain_beyond (pieces_of (texts l.rest))
    ≡ plain_beyond (pieces_of (texts l.lines))

abbrev pub decreases-loop-rest : goal.decreases-loop-rest
decreases-loop-rest l = length l.rest
