use Rattle.std.proofs.Common.{◌≡◌, ◌++◌, take}
use Rattle.std.specs.List.{flat_map}
use Rattle.comment_html.specs.Html.{item_html}
use Rattle.comment_html.proofs.item.push_items.Given as goal

-- what the ones so far add is added
abbrev pub invariant-loop-item : goal.invariant-loop-item
invariant-loop-item g l = l.html ≡ l.initial.html
    ++ flat_map (item_html l.definitions (g.N.Names.address_of l.names) l.numbered)
    (take l.item-index l.items)
