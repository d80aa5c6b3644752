use Rattle.std.proofs.Common.{◌≡◌, take}
use Rattle.std.specs.List.{flat_map}
use Rattle.comment_html.specs.Html.{definitions_in}
use Rattle.comment_html.proofs.whole.definitions_of.Given as goal

-- the definitions in the blocks so far
abbrev pub invariant-loop-block : goal.invariant-loop-block
invariant-loop-block l = l.all ≡ flat_map definitions_in (take l.block-index l.blocks)
