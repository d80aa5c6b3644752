use Rattle.std.proofs.Common.{◌≡◌, ◌++◌, length, string_bytes}
use Rattle.comment_blocks.specs.Lists.{item_paragraph}
use Rattle.comment_blocks.specs.LineSteps.{texts}
use Rattle.comment_blocks.proofs.list.item_paragraph.Given as goal

-- the text so far and that of the rest are all
abbrev pub invariant-loop-rest : goal.invariant-loop-rest
invariant-loop-rest l = string_bytes l.text ++ item_paragraph (texts l.rest)
    ≡ item_paragraph (texts l.lines)

abbrev pub decreases-loop-rest : goal.decreases-loop-rest
decreases-loop-rest l = length l.rest
