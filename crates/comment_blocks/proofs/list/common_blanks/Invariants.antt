use Rattle.std.proofs.Common.{◌≡◌, length}
use Rattle.comment_blocks.specs.Lists.{common_blanks, common_run}
use Rattle.comment_blocks.specs.LineSteps.{texts}
use Rattle.comment_blocks.proofs.list.common_blanks.Given as goal

-- the rest leaves of the run what all lines do
abbrev pub invariant-loop-rest : goal.invariant-loop-rest
invariant-loop-rest l = common_run l.run (texts l.rest) ≡ common_blanks (texts l.lines)

abbrev pub decreases-loop-rest : goal.decreases-loop-rest
decreases-loop-rest l = length l.rest
