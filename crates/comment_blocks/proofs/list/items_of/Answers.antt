use Rattle.std.proofs.Common.{refl}
use Rattle.comment_blocks.proofs.BlockSteps.{first_and_rest}
use Rattle.comment_blocks.proofs.Loops.{items_loop}
use Rattle.comment_blocks.proofs.list.items_of.Goals as goal

pub loop-rest-preserved : goal.loop-rest-preserved
loop-rest-preserved c =
    items_loop c.loop-rest.rest.now _ _ _ _ c.unmarked_len-len.result c.loop-rest.items _ _
    (first_and_rest c.loop-rest.rest.now _ c.in-len1-up.len_at_least) c.unmarked_len-len.ensures.len
    refl c.skip-rest.ensures c.in_ok-push_item.ensures c.loop-rest.invariant
