use Rattle.std.proofs.Common.{◌≡◌, ◌++◌, take}
use Rattle.std.specs.List.{flat_map}
use Rattle.comment_html.specs.Html.{paragraph_html}
use Rattle.comment_html.proofs.item.push_each.Given as goal

-- what the ones so far add is added
abbrev pub invariant-loop-text : goal.invariant-loop-text
invariant-loop-text g l = l.html ≡ l.initial.html
    ++ flat_map (paragraph_html l.definitions (g.N.Names.address_of l.names))
    (take l.text-index l.paragraphs)
