use Rattle.std.proofs.Common.{◌≡◌, ◌++◌, length}
use Rattle.comment_blocks.specs.Lists.{item_paragraphs}
use Rattle.comment_blocks.specs.LineSteps.{texts}
use Rattle.comment_blocks.proofs.list.item_paragraphs.Given as goal

-- the paragraphs so far and those of the rest are all
abbrev pub invariant-loop-rest : goal.invariant-loop-rest
invariant-loop-rest l = l.paragraphs ++ item_paragraphs (texts l.rest)
    ≡ item_paragraphs (texts l.lines)

abbrev pub decreases-loop-rest : goal.decreases-loop-rest
decreases-loop-rest l = length l.rest
