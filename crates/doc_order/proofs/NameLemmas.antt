-- Sorted names, and where a search by binary search ends in them.
use Rattle.std.proofs.Common.{◌≡◌, ◌<◌, ◌≤◌, ℕ, Bool, true, false, List, length, map, get_or, refl}
use Rattle.std.proofs.Common.{sym, ap, ◌∙◌, subst, arith, position, Option, Some, None, IsSorted}
use Rattle.std.proofs.Common.{inl, inr}
use Rattle.std.specs.Ordering.{nat_cmp, is_lt, is_eq, ordering_index}
use Rattle.std.specs.declared.cmp.Ordering.{Ordering}
use Rattle.std.specs.declared.cmp.Ordering.TheVariants.{Less, Equal, Greater}
use Rattle.std.specs.Cmp.Lexicographic.{slice_cmp, texts_ties}
use Rattle.std.specs.Str.{bytes_eq}
use Rattle.std.specs.List.Sorted.{IsPartitionedBy, IsPartitionPoint, IsNonDecreasingBy}
use Rattle.std.proofs.lemmas.Cmp.{nat_list_cmp_total}
use Rattle.std.proofs.lemmas.List.Sorted.{searchable_from_sorted}
use denote.Ref.{Bor}
use Rattle.doc_order.specs.Slots.{slot_of}
use Rattle.std.proofs.lemmas.Bool.{cases_lt}
use Rattle.std.proofs.lemmas.List.{get_or_default}
use Rattle.std.specs.List.{AllWithin}
use Rattle.doc_order.specs.Documentation.{Name}
use Rattle.doc_order.proofs.ListLemmas.{position-at, position-none, position-map}

abbrev pub below : Name → Bor Name → Bool
below name other = is_lt (slice_cmp nat_cmp other.now name)

less_falls : (a b : Ordering) → ordering_index a ≤ ordering_index b → is_lt b ≡ true
    → is_lt a ≡ true
less_falls Less b h e = refl
less_falls Equal Less h e = absurd (omega arith)
less_falls Equal Equal h e = e
less_falls Equal Greater h e = e
less_falls Greater Less h e = absurd (omega arith)
less_falls Greater Equal h e = absurd (omega arith)
less_falls Greater Greater h e = e

pub names_parted : (name : Name) (names : List (Bor Name))
    → IsSorted (λ a b. slice_cmp nat_cmp a.now b.now) names
    → IsPartitionedBy (below name) names
names_parted name names sorted i j d h k e =
    let rising = searchable_from_sorted nat_list_cmp_total (λ y. y.now) names name sorted in
    less_falls _ _ (rising i j d h k) e

less_unlike : (o : Ordering) (same : Bool) → same ≡ is_eq o → is_lt o ≡ true → same ≡ false
less_unlike Less same e h = e
less_unlike Equal same e h = cc
less_unlike Greater same e h = cc

greater_stays : (a b : Ordering) → ordering_index a ≤ ordering_index b → is_lt a ≡ false
    → is_eq a ≡ false → is_eq b ≡ false
greater_stays Less b h l e = cc
greater_stays Equal b h l e = cc
greater_stays Greater Less h l e = refl
greater_stays Greater Equal h l e = absurd (omega arith)
greater_stays Greater Greater h l e = refl

module _ (name : Name) (names : List (Bor Name)) (place : ℕ) where
  below_unlike : AllWithin (λ y. below name y ≡ true) names 0 place
      → (k : ℕ) (d : Bor Name) → k < place → bytes_eq (get_or names k d).now name ≡ false
  below_unlike less k d h =
      less_unlike _ _ (texts_ties (get_or names k d).now name) (less k d (omega arith) h)

  pub slot-found : (d : Bor Name) → place < length names → bytes_eq (get_or names place d).now name
      ≡ true
      → AllWithin (λ y. below name y ≡ true) names 0 place → slot_of (map (λ it. it.now) names) name
      ≡ Some place
  slot-found d h same less =
      position-map (λ other. bytes_eq other name) (λ it. it.now) names
      ∙ position-at _ names place d h same (λ k l. below_unlike less k d l)

  pub slot-past : length names ≤ place → AllWithin (λ y. below name y ≡ true) names 0 place
      → slot_of (map (λ it. it.now) names) name ≡ None
  slot-past h less =
      position-map (λ other. bytes_eq other name) (λ it. it.now) names
      ∙ position-none _ names (λ k d l. below_unlike less k d (omega arith))

  greater_unlike : IsSorted (λ a b. slice_cmp nat_cmp a.now b.now) names
      → (d : Bor Name) → below name (get_or names place d) ≡ false
      → bytes_eq (get_or names place d).now name ≡ false
      → (k : ℕ) → place ≤ k → k < length names → bytes_eq (get_or names k d).now name ≡ false
  greater_unlike sorted d from unlike k h l =
      let rising = searchable_from_sorted nat_list_cmp_total (λ y. y.now) names name sorted in
      texts_ties (get_or names k d).now name
      ∙ greater_stays _ _ (rising place k d h l) from
      (sym (texts_ties (get_or names place d).now name) ∙ unlike)

  pub slot-none : IsSorted (λ a b. slice_cmp nat_cmp a.now b.now) names → (d : Bor Name)
      → place < length names
      → bytes_eq (get_or names place d).now name ≡ false
      → IsPartitionPoint (λ y. below name y ≡ true) (λ y. below name y ≡ false) names place
      → slot_of (map (λ it. it.now) names) name ≡ None
  slot-none sorted d h unlike point =
      position-map (λ other. bytes_eq other name) (λ it. it.now) names
      ∙ position-none _ names (λ k e l. elim (cases_lt k place) [
        | inl less ↦ below_unlike point.0 k e less
        | inr more ↦ rw (get_or_default names k e d l) (greater_unlike sorted d
            (point.1 place d (omega arith) h) unlike k more l)
      ])
