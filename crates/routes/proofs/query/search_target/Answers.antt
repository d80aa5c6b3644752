use Rattle.std.proofs.Common.{ap, sym, ◌∙◌}
use Rattle.go_chars.specs.Identifiers.{is_name}
use Rattle.routes.proofs.TextLemmas.{search_refused}
use Rattle.routes.proofs.query.search_target.Goals as goal

pub returns-then-not-is_name : goal.returns-then-not-is_name
returns-then-not-is_name c =
    search_refused c.args.query.now c.in-Some.name (sym c.in-Some.is ∙ c.in_ok-name.ensures)
    (ap is_name (sym c.as_str.ensures.text) ∙ sym c.is_name.ensures ∙ c.if-not-is_name.true)
