-- The slots of the sorted names are those of the first types with these names.
use Rattle.std.proofs.Common.{◌≡◌, ◌<◌, ◌≤◌, ◌+◌, ℕ, zero, suc, Bool, true, false, cond, ◌&&◌, List}
use Rattle.std.proofs.Common.{[], ◌∷◌, Option, Some, None, length, map, filter, get_or, refl, sym}
use Rattle.std.proofs.Common.{ap, ◌∙◌, subst, arith, AllPairs, Contains, IsSorted, position, eqb}
use Rattle.std.proofs.Common.{eqb-true, inl, inr}
use Rattle.std.specs.List.{position_or_len}
use Rattle.std.specs.Option.{option_map}
use Rattle.std.specs.Ordering.{nat_cmp, is_lt, ordering_then, ordering_reverse}
use Rattle.std.specs.Cmp.Lexicographic.{slice_cmp}
use Rattle.std.specs.declared.cmp.Ordering.{Ordering}
use Rattle.std.specs.declared.cmp.Ordering.TheVariants.{Less, Equal, Greater}
use Rattle.std.specs.Str.{bytes_eq}
use Rattle.std.proofs.lemmas.Bool.{cases_lt, lt-ltb}
use Rattle.std.proofs.lemmas.Cmp.{nat_list_cmp_total, nat_cmp_total, tied_itself, ranked}
use Rattle.std.proofs.lemmas.List.Elements.{filter_passes, All-contains, Contains-get_or}
use Rattle.std.proofs.lemmas.List.{get_or_default}
use Rattle.std.proofs.lemmas.List.Kept.{AllPairs-filter}
use Rattle.std.proofs.lemmas.List.Quantifiers.{position-Some}
use Rattle.doc_order.specs.declared.members.Member.{Member}
use Rattle.doc_order.specs.declared.members.Member.TheVariants.{Value, TypeDef, Func, Method}
use denote.Ref.{Bor}
use Rattle.doc_order.specs.Documentation.{Name, at_number, key_of, is_type_named, type_of, IsBefore}
use Rattle.doc_order.specs.Documentation.{IsSortedFilter}
use Rattle.doc_order.specs.Slots.{is_exported_type, slot_of}
use Rattle.doc_order.proofs.ListLemmas.{position-at, position-none}
use Rattle.doc_order.proofs.OrderLemmas.{element_at, mapped_at, mapped_length, at_number-true}
use Rattle.doc_order.proofs.OrderLemmas.{at_number-within, within-at_number}

pub both : (a b : Bool) → (a && b) ≡ true → (a ≡ true) × (b ≡ true)
both true true e = (refl, refl)
both true false e = cc
both false b e = cc

-- elements of a filter

filter_keeps : {X : Type 0} (p : X → Bool) (x : X) (xs : List X) (b : Bool) → b ≡ true
    → Contains (cond b (x ∷ filter p xs) (filter p xs)) x
filter_keeps p x xs true e = (0, omega arith, refl)
filter_keeps p x xs false e = cc

filter_shifts : {X : Type 0} (p : X → Bool) (x y : X) (xs : List X) (b : Bool)
    → Contains (filter p xs) y → Contains (cond b (x ∷ filter p xs) (filter p xs)) y
filter_shifts p x y xs true h = (suc h.0, omega (arith, h.1), h.2)
filter_shifts p x y xs false h = h

kept_at : {X : Type 0} (p : X → Bool) (xs : List X) (y : X) (k : ℕ) → k < length xs
    → get_or xs k y ≡ y → p y ≡ true → Contains (filter p xs) y
kept_at p [] y k h e passes = absurd (omega arith)
kept_at p (x ∷ xs) y zero h e passes =
    subst (λ z. Contains (filter p (x ∷ xs)) z) e (filter_keeps p x xs (p x) (ap p e ∙ passes))
kept_at p (x ∷ xs) y (suc k) h e passes = filter_shifts p x y xs (p x)
    (kept_at p xs y k (omega arith) e passes)

pub Contains-filter : {X : Type 0} (p : X → Bool) (xs : List X) (y : X) → Contains xs y → p y ≡ true
    → Contains (filter p xs) y
Contains-filter p xs y h passes = kept_at p xs y h.0 h.1 h.2 passes

-- a filter of all numbers in order
pub sorted_filter : (wanted : Member → Bool) (members : List Member) (numbers : List ℕ)
    → IsSortedFilter (λ _. true) members numbers
    → IsSortedFilter wanted members (filter (at_number wanted false members) numbers)
sorted_filter wanted members numbers all = record {
  exactly = λ n. (
    λ h. All-contains (λ m. at_number wanted false members m ≡ true) _ n
        (filter_passes (at_number wanted false members) numbers) h,
    λ e. Contains-filter (at_number wanted false members) numbers n
        ((all.exactly n).1 (at_number-true members n (within-at_number wanted members n e))) e,
  );
  rising = AllPairs-filter (IsBefore members) (at_number wanted false members) numbers all.rising;
}

-- order of numbers

before_itself : (members : List Member) (n : ℕ) → IsBefore members n n → ⊥
before_itself members n h =
    let key = at_number key_of [] members n in
    let tied : ordering_then (slice_cmp nat_cmp key key) (nat_cmp n n) ≡ Equal =
    ap (λ o. ordering_then o (nat_cmp n n)) (tied_itself nat_list_cmp_total key)
    ∙ tied_itself nat_cmp_total n in
    let clash : Less ≡ Equal = sym h ∙ tied in
    cc

first_less : (o p : Ordering) → ordering_then o p ≡ Less → is_lt (ordering_reverse o) ≡ false
first_less Less p e = refl
first_less Equal p e = refl
first_less Greater p e = cc

-- names of members in order are sorted
module _ (members : List Member) (types : List ℕ) (names : List Name)
    (named : names ≡ map (at_number key_of [] members) types) where
  pub name_count : length names ≡ length types
  name_count = ap length named ∙ mapped_length (at_number key_of [] members) types

  pub named_at : (s : ℕ) (d : Name) → s < length types
      → get_or names s d ≡ at_number key_of [] members (get_or types s 0)
  named_at s d h =
      let x = element_at types s h in
      ap (λ l. get_or l s d) named ∙ mapped_at (at_number key_of [] members) types s d x.0 h
      (x.1 x.0)
      ∙ ap (at_number key_of [] members) (sym (x.1 0))

pub names_sorted : (members : List Member) (types : List ℕ) (names : List (Bor Name))
    → map (λ it. it.now) names ≡ map (at_number key_of [] members) types
    → AllPairs (IsBefore members) types
    → IsSorted (λ a b. slice_cmp nat_cmp a.now b.now) names
names_sorted members types names named rising k d l h =
    let now : Bor Name → Name = λ it. it.now in
    let key : ℕ → Name = at_number key_of [] members in
    let count : length names ≡ length types = sym (mapped_length now names)
    ∙ name_count members types (map now names) named in
    let inside : k + 1 < length types = omega arith in
    let x = element_at names k (omega arith) in
    let y = element_at names (k + 1) h in
    let first : (get_or names k d).now ≡ key (get_or types k 0) =
    ap now (x.1 d) ∙ sym (mapped_at now names k [] x.0 (omega arith) (x.1 x.0))
    ∙ named_at members types (map now names) named k [] (omega arith) in
    let second : (get_or names (k + 1) d).now ≡ key (get_or types (k + 1) 0) =
    ap now (y.1 d) ∙ sym (mapped_at now names (k + 1) [] y.0 h (y.1 y.0))
    ∙ named_at members types (map now names) named (k + 1) [] inside in
    let before : IsBefore members (get_or types k 0) (get_or types (k + 1) 0) =
    rising k (k + 1) 0 (omega arith) inside in
    let falls : is_lt (slice_cmp nat_cmp (key (get_or types (k + 1) 0)) (key (get_or types k 0))) ≡
    false =
    ap is_lt (nat_list_cmp_total.antisymm (key (get_or types (k + 1) 0)) (key (get_or types k 0)))
    ∙ first_less (slice_cmp nat_cmp (key (get_or types k 0)) (key (get_or types (k + 1) 0)))
    (nat_cmp (get_or types k 0) (get_or types (k + 1) 0)) before in
    ap (λ n. is_lt (slice_cmp nat_cmp n (get_or names k d).now)) second
    ∙ ap (λ n. is_lt (slice_cmp nat_cmp (key (get_or types (k + 1) 0)) n)) first ∙ falls

-- types by their names

pub named_parts : (name : Name) (m : Member)
    → is_type_named name m ≡ (is_exported_type m && bytes_eq (key_of m) name)
named_parts name (Value constant specs) = refl
named_parts name (TypeDef own) = refl
named_parts name (Func own results) = refl
named_parts name (Method own base) = refl

not_true : (b : Bool) → (b ≡ true → ⊥) → b ≡ false
not_true true h = absurd (h refl)
not_true false h = refl

pub ands : (a b : Bool) → a ≡ true → b ≡ true → (a && b) ≡ true
ands true b e f = f
ands false b e f = cc

same_bytes : (xs ys : List ℕ) → bytes_eq xs ys ≡ true → xs ≡ ys
same_bytes [] [] e = refl
same_bytes [] (y ∷ ys) e = cc
same_bytes (x ∷ xs) [] e = cc
same_bytes (x ∷ xs) (y ∷ ys) e =
    let parts = both (eqb x y) (bytes_eq xs ys) e in
    let head : x ≡ y = eqb-true x y parts.0 in
    let rest : xs ≡ ys = same_bytes xs ys parts.1 in
    ap (λ z. z ∷ xs) head ∙ ap (λ zs. y ∷ zs) rest

none_step : {X : Type 0} (p : X → Bool) (x : X) (xs : List X) (b : Bool) → p x ≡ b
    → length (x ∷ xs) ≤ position_or_len p (x ∷ xs)
    → (length xs ≤ position_or_len p xs → (k : ℕ) (d : X) → k < length xs
    → p (get_or xs k d) ≡ false)
    → (k : ℕ) (d : X) → k < length (x ∷ xs) → p (get_or (x ∷ xs) k d) ≡ false
none_step p x xs true e h rest k d l =
    let none : position_or_len p (x ∷ xs) ≡ 0 = rw e in
    absurd (omega arith)
none_step p x xs false e h rest zero d l = e
none_step p x xs false e h rest (suc k) d l =
    let more : position_or_len p (x ∷ xs) ≡ 1 + position_or_len p xs = rw e in
    rest (omega arith) k d (omega arith)

none_below : {X : Type 0} (p : X → Bool) (xs : List X) → length xs ≤ position_or_len p xs
    → (k : ℕ) (d : X) → k < length xs → p (get_or xs k d) ≡ false
none_below p [] h k d l = absurd (omega arith)
none_below p (x ∷ xs) h k d l = none_step p x xs (p x) refl h (none_below p xs) k d l

pub none_at : {X : Type 0} (p : X → Bool) (xs : List X) → position p xs ≡ None → (k : ℕ) (d : X)
    → k < length xs → p (get_or xs k d) ≡ false
none_at p xs e = elim (cases_lt (position_or_len p xs) (length xs)) [
  | inl less ↦ absurd (let some : position p xs ≡ Some (position_or_len p xs) =
      rw (lt-ltb (position_or_len p xs) (length xs) less) in cc)
  | inr more ↦ none_below p xs more
]

module _ (members : List Member) (numbers types : List ℕ) (names : List Name)
    (all : IsSortedFilter (λ _. true) members numbers)
    (typed : types ≡ filter (at_number is_exported_type false members) numbers)
    (named : names ≡ map (at_number key_of [] members) types) where
  is_typed : (n : ℕ) → Contains types n → at_number is_exported_type false members n ≡ true
  is_typed n h =
      All-contains (λ m. at_number is_exported_type false members m ≡ true) _ n
      (filter_passes (at_number is_exported_type false members) numbers)
      (subst (λ l. Contains l n) typed h)

  has_slot : (n : ℕ) → at_number is_exported_type false members n ≡ true → Contains types n
  has_slot n e =
      subst (λ l. Contains l n) (sym typed)
      (Contains-filter (at_number is_exported_type false members) numbers n
      ((all.exactly n).1 (at_number-true members n (within-at_number is_exported_type members n e)))
      e)

  pub types_rise : AllPairs (IsBefore members) types
  types_rise = subst (AllPairs (IsBefore members)) (sym typed)
      (AllPairs-filter (IsBefore members) (at_number is_exported_type false members) numbers
      all.rising)

  named_test : (name : Name) (j : ℕ) (d : Member) → j < length members
      → is_type_named name (get_or members j d) ≡ (at_number is_exported_type false members j
      && bytes_eq (at_number key_of [] members j) name)
  named_test name j d h =
      named_parts name (get_or members j d)
      ∙ ap (λ b. b && bytes_eq (key_of (get_or members j d)) name)
      (sym (at_number-within is_exported_type false members j d h))
      ∙ ap (λ k. at_number is_exported_type false members j && bytes_eq k name)
      (sym (at_number-within key_of [] members j d h))

  -- a type of a name stands in a slot of that name
  slot_named : (name : Name) (j : ℕ) (d : Member) → j < length members
      → is_type_named name (get_or members j d) ≡ true
      → (k : ℕ) × (k < length types) × (get_or types k 0 ≡ j)
      × (bytes_eq (get_or names k []) name ≡ true)
  slot_named name j d h e =
      let parts = both (at_number is_exported_type false members j)
      (bytes_eq (at_number key_of [] members j) name) (sym (named_test name j d h) ∙ e) in
      let slot = has_slot j parts.0 in
      let is : get_or types slot.0 0 ≡ j = get_or_default types slot.0 0 j slot.1 ∙ slot.2 in (
        slot.0,
        slot.1,
        is,
        ap (λ own. bytes_eq own name) (named_at members types names named slot.0 [] slot.1
            ∙ ap (at_number key_of [] members) is) ∙ parts.1,
      )

  no_type : (name : Name) → slot_of names name ≡ None → type_of members name ≡ None
  no_type name e = position-none (is_type_named name) members (λ j d h. not_true _ (λ f.
      let slot = slot_named name j d h f in
      let within : slot.0 < length names = rw (name_count members types names named) slot.1 in
      let unlike : bytes_eq (get_or names slot.0 []) name ≡ false =
      none_at (λ other. bytes_eq other name) names e slot.0 [] within in
      let alike : bytes_eq (get_or names slot.0 []) name ≡ true = slot.3 in
      cc))

  apart : (name : Name) (n i : ℕ) → IsBefore members n i → bytes_eq (at_number key_of [] members n)
      name ≡ true
      → bytes_eq (at_number key_of [] members i) name ≡ true → n < i
  apart name n i before e f =
      let same : at_number key_of [] members n ≡ at_number key_of [] members i =
      same_bytes (at_number key_of [] members n) name e
      ∙ sym (same_bytes (at_number key_of [] members i) name f) in
      let tied : slice_cmp nat_cmp (at_number key_of [] members n) (at_number key_of [] members i) ≡
      Equal =
      ap (λ k. slice_cmp nat_cmp k (at_number key_of [] members i)) same
      ∙ tied_itself nat_list_cmp_total (at_number key_of [] members i) in
      let less : nat_cmp n i ≡ Less = sym (ap (λ o. ordering_then o (nat_cmp n i)) tied) ∙ before in
      ranked n i Less (sym less)

  first_type : (name : Name) (s : ℕ) → slot_of names name ≡ Some s
      → type_of members name ≡ Some (get_or types s 0)
  first_type name s e =
      let first = position-Some (λ other. bytes_eq other name) names s [] e in
      let n = get_or types s 0 in
      let inside : s < length types = rw (← (name_count members types names named)) first.0 in
      let exported : at_number is_exported_type false members n ≡ true =
      is_typed n (Contains-get_or types s 0 inside) in
      let within : n < length members = within-at_number is_exported_type members n exported in
      let alike : bytes_eq (at_number key_of [] members n) name ≡ true =
      ap (λ own. bytes_eq own name) (sym (named_at members types names named s [] inside))
      ∙ first.1 in
      let m = element_at members n within in
      position-at (is_type_named name) members n m.0 within
      (named_test name n m.0 within ∙ ands (at_number is_exported_type false members n)
      (bytes_eq (at_number key_of [] members n) name) exported alike)
      (λ i l. not_true _ (λ f.
      let slot = slot_named name i m.0 (omega arith) f in
      let k : ℕ = slot.0 in
      let is : get_or types k 0 ≡ i = slot.2 in
      let same : bytes_eq (get_or names k []) name ≡ true = slot.3 in
      let own : bytes_eq (at_number key_of [] members i) name ≡ true =
      ap (λ o. bytes_eq o name) (ap (at_number key_of [] members) (sym is)
      ∙ sym (named_at members types names named k [] slot.1)) ∙ same in
      elim (cases_lt k s) [
        | inl less ↦ (let unlike : bytes_eq (get_or names k []) name ≡ false = first.2 k less in cc)
        | inr more ↦ elim (cases_lt s k) [
          | inl later ↦ (let rises : IsBefore members n (get_or types k 0) =
              types_rise s k 0 later slot.1 in
              let after : n < i = apart name n i (subst (λ j. IsBefore members n j) is rises) alike
              own in omega arith)
          | inr no_later ↦ (let at : k ≡ s = omega arith in
              let here : n ≡ i = ap (λ j. get_or types j 0) (sym at) ∙ is in omega arith)
        ]
      ]))

  same_case : (name : Name) (o : Option ℕ) → slot_of names name ≡ o
      → type_of members name ≡ option_map (λ s. get_or types s 0) o
  same_case name None e = no_type name e
  same_case name (Some s) e = first_type name s e

  pub same_slot : (name : Name) → type_of members name ≡ option_map (λ s. get_or types s 0)
      (slot_of names name)
  same_slot name = same_case name (slot_of names name) refl

  pub slot_within : (name : Name) (s : ℕ) → slot_of names name ≡ Some s → s < length types
  slot_within name s e =
      let first = position-Some (λ other. bytes_eq other name) names s [] e in
      rw (← (name_count members types names named)) first.0

  pub slots_apart : (s t : ℕ) → s < length types → t < length types
      → get_or types s 0 ≡ get_or types t 0 → s ≡ t
  slots_apart s t h g e = elim (cases_lt s t) [
    | inl less ↦ absurd
        (before_itself members (get_or types t 0)
        (subst (λ n. IsBefore members n (get_or types t 0)) e (types_rise s t 0 less g)))
    | inr more ↦ elim (cases_lt t s) [
      | inl later ↦ absurd
          (before_itself members (get_or types s 0)
          (subst (λ n. IsBefore members n (get_or types s 0)) (sym e) (types_rise t s 0 later h)))
      | inr no_later ↦ omega arith
    ]
  ]
