use Rattle.std.proofs.Common.{◌≡◌, ◌++◌, take}
use Rattle.std.specs.List.{flat_map}
use Rattle.comment_html.specs.Html.{inline_html}
use Rattle.comment_html.proofs.line.push_parts.Given as goal

-- what the ones so far add is added
abbrev pub invariant-loop-inline : goal.invariant-loop-inline
invariant-loop-inline l = l.html ≡ l.initial.html
    ++ flat_map inline_html (take l.inline-index l.inlines)
