use Rattle.std.proofs.Common.{◌≡◌, ◌++◌, take}
use Rattle.std.specs.List.{flat_map}
use Rattle.comment_html.specs.Html.{block_html}
use Rattle.comment_html.proofs.whole.push_blocks.Given as goal

-- what the ones so far add is added
abbrev pub invariant-loop-block : goal.invariant-loop-block
invariant-loop-block g l = l.html ≡ l.initial.html
    ++ flat_map (block_html l.definitions (g.N.Names.address_of l.names))
    (take l.block-index l.blocks)
