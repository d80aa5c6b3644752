use Rattle.std.proofs.Common.{refl, ◌∙◌}
use Rattle.comment_blocks.proofs.BlockSteps.{first_and_rest}
use Rattle.comment_blocks.proofs.Loops.{blocks_loop, no_length}
use Rattle.comment_blocks.proofs.kinds.blocks_of_lines.Goals as goal

pub loop-rest-preserved : goal.loop-rest-preserved
loop-rest-preserved c =
    blocks_loop c.loop-rest.rest.now _ _ _ _ c.piece_len-len.result c.loop-rest.blocks _ _
    c.loop-rest.free c.loop-rest.plain _ _
    (first_and_rest c.loop-rest.rest.now _ c.in-len1-up.len_at_least) c.piece_len-len.ensures.len
    refl c.skip-behind.ensures c.in_ok-push_block.ensures (c.is_empty-free.ensures ∙ no_length _)
    c.is_plain_so_far-plain.ensures c.loop-rest.invariant
