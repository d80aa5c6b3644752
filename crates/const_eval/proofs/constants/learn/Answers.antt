use Rattle.std.proofs.Common.{rules, ◌∙◌, refl, sym, subst}
use Rattle.std.specs.Prelude.{Some}
use Rattle.std.specs.BTreeMap.{Updates}
use Rattle.std.specs.String.{string_cmp}
use Rattle.std.specs.Int.{w128}
use Rattle.std.proofs.lemmas.Int.{to_z-of_z}
use Rattle.const_eval.proofs.Finding.{none_learned, one_learned, one_less}
use Rattle.const_eval.proofs.constants.learn.Goals as goal

pub returns-in_ok-insert-in-Some-clause-known : goal.returns-in_ok-insert-in-Some-clause-known
returns-in_ok-insert-in-Some-clause-known c =
    one_learned c.args.facts.now c.args.values.now c.args.counts.now c.args.place
    c.index-facts-place.result c.requires.within
    c.index-facts-place.is c.requires.counted c.insert.new.self c.in_ok-name-in-Some.name
    c.in-Some.number
    (sym c.in-Some.is ∙ c.in_ok-number.ensures) (c.in_ok-name-in-Some.ensures.ok
    ∙ c.as_str.ensures.text)
    (subst (λ z. Updates string_cmp c.args.values.now c.insert.new.self c.in_ok-name-in-Some.name
    (Some z)) (to_z-of_z w128 c.in-Some.number (search rules))
    c.in_ok-insert-in-Some.ensures.updates) c.requires.known

pub returns-in_ok-insert-in-Some-clause-attempt : goal.returns-in_ok-insert-in-Some-clause-attempt
returns-in_ok-insert-in-Some-clause-attempt c =
    one_less c.args.facts.now c.args.values.now c.args.counts.now c.args.place
    c.index-facts-place.result c.requires.within
    c.index-facts-place.is c.requires.counted c.insert.new.self c.in_ok-name-in-Some.name
    c.in-Some.number
    (sym c.in-Some.is ∙ c.in_ok-number.ensures) (c.in_ok-name-in-Some.ensures.ok
    ∙ c.as_str.ensures.text)
    (subst (λ z. Updates string_cmp c.args.values.now c.insert.new.self c.in_ok-name-in-Some.name
    (Some z)) (to_z-of_z w128 c.in-Some.number (search rules))
    c.in_ok-insert-in-Some.ensures.updates)

pub returns-in-None-clause-attempt : goal.returns-in-None-clause-attempt
returns-in-None-clause-attempt c = (
  refl,
  none_learned c.args.facts.now c.args.values.now c.args.counts.now c.args.place
      c.index-facts-place.result c.requires.within
      c.index-facts-place.is c.requires.counted (sym c.in-None.is ∙ c.in_ok-number.ensures),
)
