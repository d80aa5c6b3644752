use Rattle.std.proofs.Common.{false, [], sym, ◌∙◌, ap, subst}
use Rattle.std.specs.Prelude.{option_and_then}
use Rattle.std.specs.Str.{chars}
use Rattle.build_lines.specs.declared.symbol.Place.TheVariants.{Between}
use Rattle.build_lines.specs.Judging.{IsValue}
use Rattle.build_lines.specs.Reading.{cut, evaluate, evaluating, no_values}
use Rattle.build_lines.specs.Tags.{holds}
use Rattle.build_lines.proofs.ExpressionValues.{value_of_symbols}
use Rattle.build_lines.proofs.CommentPlaces.{if_ok}
use Rattle.build_lines.proofs.expression.expression_value.Goals as goal

pub returns-in-None : goal.returns-in-None
returns-in-None c =
    let config = holds c.args.config.now in
    let found = c.in_ok-symbols_of.ensures
    ∙ ap (λ bytes. cut config (chars bytes) Between [] []) c.in-Ok.ensures.cases.0 in
    subst (λ o. IsValue config c.args.text.now
    (option_and_then (λ symbols. evaluate symbols (evaluating [] no_values false)) o))
    c.in-None.is (value_of_symbols config c.args.text.now c.in_ok-symbols_of.field-0
    c.in-Ok.ensures.cases.1 found)

pub returns-in-Some : goal.returns-in-Some
returns-in-Some c =
    let config = holds c.args.config.now in
    let found = c.in_ok-symbols_of.ensures
    ∙ ap (λ bytes. cut config (chars bytes) Between [] []) c.in-Ok.ensures.cases.0 in
    let value = subst (λ o. IsValue config c.args.text.now
    (option_and_then (λ symbols. evaluate symbols (evaluating [] no_values false)) o))
    c.in-Some.is (value_of_symbols config c.args.text.now c.in_ok-symbols_of.field-0
    c.in-Ok.ensures.cases.1 found) in
    if_ok c.value_of.result _ _
    (λ v same. subst (IsValue config c.args.text.now)
    (sym (same ∙ ap (λ symbols. evaluate symbols (evaluating [] no_values false))
    c.as_slice.ensures)) value)
    c.value_of.ensures
