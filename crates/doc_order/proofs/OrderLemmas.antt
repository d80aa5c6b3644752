-- The numbers of all members in order, from entries of names and numbers that were sorted.
use Rattle.std.proofs.Common.{◌≡◌, ◌≢◌, ◌<◌, ◌≤◌, ◌+◌, ℕ, zero, suc, Bool, true, false, List, []}
use Rattle.std.proofs.Common.{◌∷◌, length, map, get_or, refl, sym, ap, ◌∙◌, subst, arith, All}
use Rattle.std.proofs.Common.{AllPairs, Contains, IsSorted, eqb, eq-eqb, IsPermutation}
use Rattle.std.specs.List.{enumerate_from, IsDistinct, AllByRecursion}
use Rattle.std.specs.Ordering.{nat_cmp, is_lt, is_eq, ordering_then, ordering_reverse}
use Rattle.std.specs.Cmp.{IsTotalOrder, then_total, on_total}
use Rattle.std.specs.Cmp.Lexicographic.{slice_cmp}
use Rattle.std.specs.declared.cmp.Ordering.{Ordering}
use Rattle.std.specs.declared.cmp.Ordering.TheVariants.{Less, Equal, Greater}
use Rattle.std.proofs.lemmas.Cmp.{nat_list_cmp_total, nat_cmp_total, nat_eq_equiv, ranked}
use Rattle.std.proofs.lemmas.List.FromFn.{length-enumerate_from, get_or-enumerate_from}
use Rattle.std.proofs.lemmas.List.Elements.{All-from_recursion, All-contains, All-map, All-weaker}
use Rattle.std.proofs.lemmas.List.Sorted.{All-permutation, sorted_far, ranks_by, IsPermutation-map}
use Rattle.std.proofs.lemmas.List.Sorted.{Contains-permutation, length_permutation}
use Rattle.std.proofs.lemmas.Map.Keys.{IsDistinct-IsPermutation}
use denote.Ref.{Bor}
use Rattle.doc_order.specs.declared.members.Member.{Member}
use Rattle.doc_order.specs.Documentation.{Name, at_number, key_of, IsBefore, IsSortedFilter}

-- the element of a place
pub element_at : {X : Type 0} (xs : List X) (i : ℕ) → i < length xs → (x : X)
    × ((d : X) → get_or xs i d ≡ x)
element_at [] i h = absurd (omega arith)
element_at (x ∷ xs) zero h = (x, λ d. refl)
element_at (x ∷ xs) (suc i) h = element_at xs i (omega arith)

pub mapped_at : {X Y : Type 0} (f : X → Y) (xs : List X) (i : ℕ) (d : Y) (x : X) → i < length xs
    → get_or xs i x ≡ x → get_or (map f xs) i d ≡ f x
mapped_at f [] i d x h e = absurd (omega arith)
mapped_at f (y ∷ xs) zero d x h e = ap f e
mapped_at f (y ∷ xs) (suc i) d x h e = mapped_at f xs i d x (omega arith) e

pub mapped_length : {X Y : Type 0} (f : X → Y) (xs : List X) → length (map f xs) ≡ length xs
mapped_length f [] = refl
mapped_length f (x ∷ xs) = ap suc (mapped_length f xs)

-- what a function gives of the member with a number
pub at_number-within : {X : Type 0} (f : Member → X) (default : X) (members : List Member) (n : ℕ)
    (d : Member) → n < length members
    → at_number f default members n ≡ f (get_or members n d)
at_number-within f default [] n d h = absurd (omega arith)
at_number-within f default (m ∷ members) zero d h = refl
at_number-within f default (m ∷ members) (suc n) d h = at_number-within f default members n d
    (omega arith)

pub within-at_number : (test : Member → Bool) (members : List Member) (n : ℕ)
    → at_number test false members n ≡ true → n < length members
within-at_number test [] n h = cc
within-at_number test (m ∷ members) zero h = omega arith
within-at_number test (m ∷ members) (suc n) h = let rest : n < length members =
    within-at_number test members n h in omega arith

at_number-key : (members : List Member) (n : ℕ) (d : Name) → n < length members
    → at_number key_of [] members n ≡ get_or (map key_of members) n d
at_number-key [] n d h = absurd (omega arith)
at_number-key (m ∷ members) zero d h = refl
at_number-key (m ∷ members) (suc n) d h = at_number-key members n d (omega arith)

pub at_number-true : (members : List Member) (n : ℕ) → n < length members
    → at_number (λ _. true) false members n ≡ true
at_number-true [] n h = absurd (omega arith)
at_number-true (m ∷ members) zero h = refl
at_number-true (m ∷ members) (suc n) h = at_number-true members n (omega arith)

-- entries

abbrev pub Entry : Type 0
Entry = Bor Name × ℕ

abbrev pub entry_cmp : Entry → Entry → Ordering
entry_cmp x y = ordering_then (slice_cmp nat_cmp x.0.now y.0.now) (nat_cmp x.1 y.1)

entries_total : IsTotalOrder entry_cmp
entries_total = then_total (on_total (λ t. t.0.now) nat_list_cmp_total)
    (on_total (λ t. t.1) nat_cmp_total)

rises : (o p : Ordering) → p ≡ ordering_reverse o → is_lt p ≡ false → (o ≡ Equal → ⊥) → o ≡ Less
rises Less p e h unlike = refl
rises Equal p e h unlike = absurd (unlike refl)
rises Greater p e h unlike = cc

second_tied : (o p : Ordering) → ordering_then o p ≡ Equal → p ≡ Equal
second_tied Less p e = cc
second_tied Equal p e = e
second_tied Greater p e = cc

same_number : (x y : ℕ) → nat_cmp x y ≡ Equal → x ≡ y
same_number x y e = ranked x y Equal (sym e)

-- the numbers of the entries as they were made
later_numbers : {X : Type 0} (n m : ℕ) (xs : List X) → n < m
    → AllByRecursion (λ y. eqb n y ≡ false) (map (λ p. p.0) (enumerate_from m xs))
later_numbers n m [] h = tt
later_numbers n m (x ∷ xs) h = (grind arith, later_numbers n (m + 1) xs (omega arith))

enumerated_distinct : {X : Type 0} (n : ℕ) (xs : List X)
    → IsDistinct eqb (map (λ p. p.0) (enumerate_from n xs))
unfolding IsDistinct
enumerated_distinct n [] = tt
enumerated_distinct n (x ∷ xs) =
    (later_numbers n (n + 1) xs (omega arith), enumerated_distinct (n + 1) xs)

distinct_at : (xs : List ℕ) → IsDistinct eqb xs → (i j : ℕ) (d : ℕ) → i < j → j < length xs
    → eqb (get_or xs i d) (get_or xs j d) ≡ false
unfolding IsDistinct
distinct_at [] h i j d l m = absurd (omega arith)
distinct_at (x ∷ xs) h zero zero d l m = absurd (omega arith)
distinct_at (x ∷ xs) h zero (suc j) d l m = All-from_recursion (λ y. eqb x y ≡ false) xs h.0 j d
    (omega arith)
distinct_at (x ∷ xs) h (suc i) zero d l m = absurd (omega arith)
distinct_at (x ∷ xs) h (suc i) (suc j) d l m = distinct_at xs h.1 i j d (omega arith) (omega arith)

module _ (members : List Member) (entries sorted : List Entry)
    (made : map (λ it. (it.1, it.0.now)) entries ≡ enumerate_from 0 (map key_of members))
    (moved : IsPermutation entries sorted) (rising : IsSorted entry_cmp sorted) where
  as_many : length entries ≡ length members
  as_many = sym (mapped_length (λ (it : Entry). (it.1, it.0.now)) entries) ∙ ap length made
      ∙ length-enumerate_from 0 (map key_of members) ∙ mapped_length key_of members

  -- the entry of a place is that of the member there
  made_at : (i : ℕ) (x : Entry) → i < length members → get_or entries i x ≡ x → (x.1 ≡ i)
      × (x.0.now ≡ at_number key_of [] members i)
  made_at i x h e =
      let pair = mapped_at (λ (it : Entry). (it.1, it.0.now)) entries i (x.1, x.0.now) x
      (rw as_many h) e in
      let here = get_or-enumerate_from 0 (map key_of members) i (x.1, x.0.now)
      (rw (mapped_length key_of members) h) in
      let same : (x.1, x.0.now) ≡ (0 + i, get_or (map key_of members) i x.0.now) = sym pair
      ∙ ap (λ l. get_or l i (x.1, x.0.now)) made ∙ here in (
        ap (λ p. p.0) same ∙ omega arith,
        ap (λ p. p.1) same
            ∙ sym (at_number-key members i x.0.now h),
      )

  -- each entry is that of a member
  fits : Entry → Type 0
  fits x = (x.1 < length members) × (x.0.now ≡ at_number key_of [] members x.1)

  all_fit : All fits entries
  unfolding fits
  all_fit i d h =
      let found = element_at entries i h in
      let within : i < length members = rw (← as_many) h in
      let is = made_at i found.0 within (found.1 found.0) in
      let one : fits found.0 = (rw is.0 within, rw is.0 is.1) in
      subst fits (sym (found.1 d)) one

  sorted_fit : All fits sorted
  sorted_fit = All-permutation fits entries sorted moved all_fit

  numbers_moved : IsPermutation (map (λ (entry : Entry). entry.1) entries)
      (map (λ (entry : Entry). entry.1) sorted)
  numbers_moved = IsPermutation-map (λ entry. entry.1) entries sorted moved

  as_paired : (es : List Entry) → map (λ (entry : Entry). entry.1) es ≡ map (λ (p : ℕ × Name). p.0)
      (map (λ (it : Entry). (it.1, it.0.now)) es)
  as_paired [] = refl
  as_paired (e ∷ es) = ap (λ ns. e.1 ∷ ns) (as_paired es)

  numbers_distinct : IsDistinct eqb (map (λ (entry : Entry). entry.1) sorted)
  numbers_distinct =
      IsDistinct-IsPermutation eqb nat_eq_equiv.symm (map (λ (entry : Entry). entry.1) entries) _
      numbers_moved
      (subst (IsDistinct eqb) (sym (as_paired entries ∙ ap (map (λ (p : ℕ × Name). p.0)) made))
      (enumerated_distinct 0 (map key_of members)))

  numbers_within : (n : ℕ) → Contains (map (λ (entry : Entry). entry.1) sorted) n
      → n < length members
  unfolding fits
  numbers_within n h =
      All-contains (λ m. m < length members) (map (λ (entry : Entry). entry.1) sorted) n
      (All-map (λ m. m < length members) (λ (entry : Entry). entry.1) sorted
      (All-weaker fits (λ x. x.1 < length members) (λ x f. f.0) sorted sorted_fit)) h

  numbers_there : (n : ℕ) → n < length members → Contains (map (λ (entry : Entry). entry.1) sorted)
      n
  numbers_there n h =
      let at : n < length entries = rw as_many h in
      let found = element_at entries n at in
      let is = made_at n found.0 h (found.1 found.0) in
      let within : n < length (map (λ (entry : Entry). entry.1) entries) =
      rw (mapped_length (λ (entry : Entry). entry.1) entries) at in
      Contains-permutation (map (λ (entry : Entry). entry.1) entries) _ n numbers_moved (
        n,
        within,
        mapped_at (λ (entry : Entry). entry.1) entries n n found.0 at (found.1 found.0)
            ∙ is.0,
      )

  before : (x y : Entry) → fits x → fits y → entry_cmp x y ≡ Less → IsBefore members x.1 y.1
  unfolding fits
  before x y f g e =
      ap (λ key. ordering_then (slice_cmp nat_cmp key (at_number key_of [] members y.1))
      (nat_cmp x.1 y.1)) (sym f.1)
      ∙ ap (λ key. ordering_then (slice_cmp nat_cmp x.0.now key) (nat_cmp x.1 y.1)) (sym g.1) ∙ e

  numbers_rise : AllPairs (IsBefore members) (map (λ (entry : Entry). entry.1) sorted)
  numbers_rise i j d l m =
      let at : j < length sorted = rw (← (mapped_length (λ (entry : Entry). entry.1) sorted)) m in
      let first : i < length sorted = omega arith in
      let x = element_at sorted i first in
      let y = element_at sorted j at in
      let lt : Entry → Entry → Bool = λ a b. is_lt (entry_cmp a b) in
      let far : lt (get_or sorted j x.0) (get_or sorted i x.0) ≡ false =
      sorted_far lt (ranks_by entries_total (λ a. a)) sorted rising i j x.0 (omega arith) at in
      let here : lt y.0 x.0 ≡ false = subst (λ a. lt y.0 a ≡ false) (x.1 x.0)
      (subst (λ b. lt b (get_or sorted i x.0) ≡ false) (y.1 x.0) far) in
      let a : get_or (map (λ (entry : Entry). entry.1) sorted) i d ≡ x.0.1 =
      mapped_at (λ (entry : Entry). entry.1) sorted i d x.0 first (x.1 x.0) in
      let b : get_or (map (λ (entry : Entry). entry.1) sorted) j d ≡ y.0.1 =
      mapped_at (λ (entry : Entry). entry.1) sorted j d y.0 at (y.1 y.0) in
      let apart : eqb x.0.1 y.0.1 ≡ false =
      subst (λ p. eqb p y.0.1 ≡ false) a
      (subst (λ q. eqb (get_or (map (λ (entry : Entry). entry.1) sorted) i d) q ≡ false) b
      (distinct_at _ numbers_distinct i j d l m)) in
      let less : entry_cmp x.0 y.0 ≡ Less =
      rises (entry_cmp x.0 y.0) (entry_cmp y.0 x.0) (entries_total.antisymm y.0 x.0) here
      (λ e. let same : eqb x.0.1 y.0.1 ≡ true =
      eq-eqb x.0.1 y.0.1 (same_number x.0.1 y.0.1 (second_tied _ _ e)) in cc) in
      let fx : fits x.0 = subst fits (x.1 x.0) (sorted_fit i x.0 first) in
      let fy : fits y.0 = subst fits (y.1 y.0) (sorted_fit j y.0 at) in
      subst (λ p. IsBefore members p (get_or (map (λ (entry : Entry). entry.1) sorted) j d)) (sym a)
      (subst (λ q. IsBefore members x.0.1 q) (sym b) (before x.0 y.0 fx fy less))

  pub numbers_sorted : IsSortedFilter (λ _. true) members (map (λ (entry : Entry). entry.1) sorted)
  numbers_sorted = record {
    exactly = λ n. (
      λ h. at_number-true members n (numbers_within n h),
      λ h. numbers_there n
          (within-at_number (λ _. true) members n h),
    );
    rising = numbers_rise;
  }
