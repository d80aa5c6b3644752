use Rattle.std.proofs.Common.{◌≡◌, sym, subst, arith}
use Rattle.std.proofs.lemmas.Grind.{common_steps}
use Rattle.comment_html.specs.Html.{html_of}
use Rattle.comment_html.specs.Parts.{IsMarkup}
use Rattle.comment_html.proofs.Markup.{is_markup}
use Rattle.comment_html.proofs.whole.html.Goals as goal

pub returns-clause-markup : goal.returns-clause-markup
returns-clause-markup g c =
    let names = g.N.Names.address_of c.args.names.now in
    let same : c.text_of.result ≡ html_of c.args.blocks.now names = grind (arith, common_steps) in
    subst (λ html. IsMarkup c.args.blocks.now names html) (sym same)
    (is_markup c.args.blocks.now names)
