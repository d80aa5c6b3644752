use Rattle.std.proofs.Common.{◌≡◌, true, false, [], sym, ◌∙◌, ap, subst, IfOk}
use Rattle.comment_blocks.specs.Texts.{lines_of}
use Rattle.comment_blocks.specs.Spans.{pieces_of}
use Rattle.comment_blocks.specs.LineSteps.{blocks_from, texts}
use Rattle.comment_blocks.proofs.BlockSteps.{from_behind}
use Rattle.comment_blocks.proofs.kinds.blocks.Goals as goal

pub returns : goal.returns
returns c =
    subst (λ s. IfOk c.blocks_of_lines.result (λ blocks. blocks ≡ s))
    (ap (λ ls. blocks_from true false (pieces_of (texts ls))) c.as_slice.ensures.value
    ∙ ap (λ ls. blocks_from true false (pieces_of ls)) c.in_ok-lines.ensures
    ∙ sym (from_behind [] (pieces_of (lines_of c.args.text.now)))) c.blocks_of_lines.ensures
