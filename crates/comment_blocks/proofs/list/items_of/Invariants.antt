use Rattle.std.proofs.Common.{◌≡◌, ◌++◌, length}
use Rattle.comment_blocks.specs.Lists.{items_of}
use Rattle.comment_blocks.specs.LineSteps.{texts}
use Rattle.comment_blocks.proofs.list.items_of.Given as goal

-- the items so far and those of the rest are all
abbrev pub invariant-loop-rest : goal.invariant-loop-rest
invariant-loop-rest l = l.items ++ items_of (texts l.rest) ≡ items_of (texts l.lines)

abbrev pub decreases-loop-rest : goal.decreases-loop-rest
decreases-loop-rest l = length l.rest
