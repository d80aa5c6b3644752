use Rattle.std.proofs.Common.{rules, ◌≡◌, ◌≢◌, ◌∙◌, sym, ap, length, filter, find, None, Some}
use Rattle.std.proofs.Common.{arith}
use Rattle.std.specs.List.{list_any}
use Rattle.std.proofs.lemmas.List.Sums.{length-filter}
use Rattle.doc_order.specs.Documentation.{is_exported_name, only, exported_specs, first_name}
use Rattle.doc_order.proofs.ListLemmas.{only-other, only-find}
use Rattle.doc_order.proofs.values.name_of_specs.Goals as goal

pub returns-then-count_exported-ne1 : goal.returns-then-count_exported-ne1
returns-then-count_exported-ne1 c =
    let e : only (exported_specs c.args.specs.now) ≡ None =
    only-other (exported_specs c.args.specs.now)
    (λ h. c.if-count_exported-ne1.true (c.count_exported.ensures
    ∙ sym (length-filter _ c.args.specs.now) ∙ h)) in
    rw e

pub returns-in-Some : goal.returns-in-Some
returns-in-Some c =
    let e : only (exported_specs c.args.specs.now) ≡ Some c.in-Some.spec.now =
    only-find _ c.args.specs.now (length-filter _ c.args.specs.now ∙ sym c.count_exported.ensures
    ∙ c.if-count_exported-ne1.false) ∙ sym c.in-Some.ensures in
    rw e (c.first_name.ensures ∙ ap first_name c.as_slice.ensures)

pub returns-in-None : goal.returns-in-None
returns-in-None c =
    let e : only (exported_specs c.args.specs.now) ≡ None =
    only-find _ c.args.specs.now (length-filter _ c.args.specs.now ∙ sym c.count_exported.ensures
    ∙ c.if-count_exported-ne1.false) ∙ sym c.in-None.ensures in
    rw e
