use Rattle.std.proofs.Common.{◌≡◌, max, ◌∙◌, ap, rules, refl}
use Rattle.comment_blocks.proofs.BlockSteps.{first_and_rest}
use Rattle.comment_blocks.proofs.Loops.{paragraphs_loop}
use Rattle.comment_blocks.proofs.list.item_paragraphs.Goals as goal

pub loop-rest-preserved : goal.loop-rest-preserved
loop-rest-preserved c =
    let most : c.max-len.result ≡ max c.filled_len.result 1 = search rules in
    paragraphs_loop c.loop-rest.rest.now _ _ _ _ c.max-len.result c.loop-rest.paragraphs _ _
    (first_and_rest c.loop-rest.rest.now _ c.in-len1-up.len_at_least)
    (most ∙ ap (λ n. max n 1) c.filled_len.ensures.len)
    refl c.skip-rest.ensures c.in_ok-push_paragraph.ensures c.loop-rest.invariant
