use Rattle.std.proofs.Common.{◌≡◌, ◌∙◌, ap, map, filter, fold, subst, sym, true, false, [], List, ℕ}
use Rattle.std.proofs.Common.{IsSorted}
use Rattle.std.specs.Cmp.Lexicographic.{slice_cmp}
use Rattle.std.specs.Ordering.{nat_cmp}
use denote.Ref.{Bor}
use Rattle.doc_order.specs.Documentation.{Name, at_number, key_of, IsDocOf}
use Rattle.doc_order.specs.Slots.{Lists, bare_type, is_exported_type, slot_of, with_member_at}
use Rattle.doc_order.proofs.TypeLemmas.{names_sorted, types_rise}
use Rattle.doc_order.proofs.PlaceLemmas.{documented, filled_doc, start}
use Rattle.doc_order.proofs.listing.order.Goals as goal

pub fill-requires : goal.fill-requires
fill-requires c =
    let members = c.args.members.now in
    let typed : c.in_ok-types.types.items ≡ filter (at_number is_exported_type false members)
    c.in_ok-numbers.numbers.items =
    c.in_ok-types.ensures ∙ ap (filter (at_number is_exported_type false members))
    c.as_slice.ensures.value in
    let named : map (λ (it : Bor Name). it.now) c.in_ok-names.names.items ≡ map
    (at_number key_of [] members) c.in_ok-types.types.items =
    c.in_ok-names.ensures ∙ ap (map (at_number key_of [] members)) c.as_slice-2.ensures.value in
    let rise = types_rise members c.in_ok-numbers.numbers.items c.in_ok-types.types.items
    (map (λ (it : Bor Name). it.now) c.in_ok-names.names.items)
    c.in_ok-numbers.ensures typed named in
    subst (IsSorted (λ a b. slice_cmp nat_cmp a.now b.now)) (sym c.as_slice-4.ensures.value)
    (names_sorted members c.in_ok-types.types.items c.in_ok-names.names.items named rise)

pub returns : goal.returns
returns c =
    let members = c.args.members.now in
    let typed : c.in_ok-types.types.items ≡ filter (at_number is_exported_type false members)
    c.in_ok-numbers.numbers.items =
    c.in_ok-types.ensures ∙ ap (filter (at_number is_exported_type false members))
    c.as_slice.ensures.value in
    let named : map (λ (it : Bor Name). it.now) c.in_ok-names.names.items ≡ map
    (at_number key_of [] members) c.in_ok-types.types.items =
    c.in_ok-names.ensures ∙ ap (map (at_number key_of [] members)) c.as_slice-2.ensures.value in
    let done : IsDocOf members
    (filled_doc (fold
    (with_member_at members
    (slot_of (map (λ (it : Bor Name). it.now) c.in_ok-names.names.items)))
    (start c.in_ok-types.types.items) c.in_ok-numbers.numbers.items)) =
    documented members c.in_ok-numbers.numbers.items c.in_ok-types.types.items
    (map (λ (it : Bor Name). it.now) c.in_ok-names.names.items)
    c.in_ok-numbers.ensures typed named in
    let put : List Name → Lists → ℕ → Lists = λ names. with_member_at members (slot_of names) in
    let now : List (Bor Name) → List Name = map (λ (it : Bor Name). it.now) in
    let filled : c.fill.new.self ≡ fold (put (now c.in_ok-names.names.items))
    (start c.in_ok-types.types.items) c.in_ok-numbers.numbers.items =
    c.in_ok-fill.ensures
    ∙ ap (λ names. fold (put (now names)) c.in_ok-lists.lists c.as_slice-5.result.now)
    c.as_slice-4.ensures.value
    ∙ ap (λ lists. fold (put (now c.in_ok-names.names.items)) lists c.as_slice-5.result.now)
    (c.in_ok-lists.ensures ∙ ap start c.as_slice-3.ensures.value)
    ∙ ap (fold (put (now c.in_ok-names.names.items)) (start c.in_ok-types.types.items))
    c.as_slice-5.ensures.value in
    subst (IsDocOf members) (sym (c.into_package.ensures ∙ ap filled_doc filled)) done
