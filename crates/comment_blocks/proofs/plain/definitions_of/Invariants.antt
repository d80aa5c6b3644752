use Rattle.std.proofs.Common.{◌≡◌, length}
use Rattle.comment_blocks.specs.Kinds.{definitions_of}
use Rattle.comment_blocks.specs.LineSteps.{with_done, texts}
use Rattle.comment_blocks.proofs.plain.definitions_of.Given as goal

-- the definitions so far and those of the rest are all
abbrev pub invariant-loop-rest : goal.invariant-loop-rest
invariant-loop-rest l = with_done l.definitions (definitions_of (texts l.rest))
    ≡ definitions_of (texts l.lines)

abbrev pub decreases-loop-rest : goal.decreases-loop-rest
decreases-loop-rest l = length l.rest
