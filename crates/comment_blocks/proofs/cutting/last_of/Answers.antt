use Rattle.std.proofs.Common.{◌≡◌, sym, ◌∙◌, ap, None}
use Rattle.std.specs.List.{last_or}
use Rattle.std.specs.Str.{chars}
use Rattle.std.proofs.lemmas.Str.{Chars-Drains, encodes-chars}
use Rattle.comment_blocks.proofs.cutting.last_of.Goals as goal

pub returns : goal.returns
returns c =
    let text = c.args.text.now in
    let ran = c.last.ensures.ran in
    let same : ran.0 ≡ chars text =
    Chars-Drains (chars text) ran.0 c.chars.result
    (encodes-chars text c.utf8.text ∙ sym c.chars.ensures.rest) ran.1 in
    ran.2 ∙ ap (last_or None) same
