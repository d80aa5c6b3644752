use Rattle.std.proofs.Common.{◌≡◌, ◌∙◌, ap, map, subst, sym, true, List, ℕ}
use Rattle.std.proofs.lemmas.Result.{IfOk-weaker}
use Rattle.doc_order.specs.Documentation.{IsSortedFilter}
use Rattle.doc_order.proofs.OrderLemmas.{Entry, numbers_sorted}
use Rattle.doc_order.proofs.listing.sorted_numbers.Goals as goal

pub returns : goal.returns
returns c =
    let sorted : IsSortedFilter (λ _. true) c.args.members.now
    (map (λ (entry : Entry). entry.1) c.sort.new.self.items) =
    numbers_sorted c.args.members.now c.in_ok-entries.entries.items c.sort.new.self.items
    c.in_ok-entries.ensures
    c.in_ok-sort.ensures.permutation c.in_ok-sort.ensures.sorted in
    IfOk-weaker c.numbers_of.result _ _
    (λ numbers e. subst (IsSortedFilter (λ _. true) c.args.members.now)
    (sym (e ∙ ap (map (λ (entry : Entry). entry.1)) c.as_slice.ensures.value)) sorted)
    c.numbers_of.ensures
