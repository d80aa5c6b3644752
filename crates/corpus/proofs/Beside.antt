-- Numbers that tell which elements of a list pass a test, where the numbers of the elements rise.
use Rattle.std.proofs.Common.{◌≡◌, ℕ, ◌<◌, Bool, true, false, cond, List, [], ◌∷◌, All, map, get_or}
use Rattle.std.proofs.Common.{length, refl, sym, ap, subst, ◌∙◌, arith, true≢false, ⊎_elim}
use Rattle.std.specs.Prelude.{◌||◌, ◌≤◌, nat_eq, MatchResult, Result, Ok, Err, is_ok}
use Rattle.std.specs.List.{AllByRecursion, filter, list_any}
use Rattle.std.specs.List.Sorted.{IsStrictlySortedBy}
use Rattle.std.specs.Ordering.{nat_cmp}
use Rattle.std.specs.declared.cmp.Ordering.TheVariants.{Less}
use Rattle.std.proofs.lemmas.Bool.{cases_lt}
use Rattle.std.proofs.lemmas.Bool.Decides.{nat_tests}
use Rattle.std.proofs.lemmas.List.{get_or-map, get_or_default, length-map}
use Rattle.std.proofs.lemmas.List.Elements.{All-cons, All-nil, All-from_recursion}
use Rattle.std.proofs.lemmas.List.Folds.{list_any_at, list_any_none}

differ : (a b : ℕ) → nat_cmp a b ≡ Less → nat_eq a b ≡ false
differ a b h = grind (arith, nat_tests)

differ_back : (a b : ℕ) → nat_cmp b a ≡ Less → nat_eq a b ≡ false
differ_back a b h = grind (arith, nat_tests)

same : (a : ℕ) → nat_eq a a ≡ true
same a = grind (arith, nat_tests)

or_false : (a b : Bool) → a ≡ false → (a || b) ≡ b
or_false true b h = absurd (true≢false h)
or_false false b h = refl

or_true : (a b : Bool) → a ≡ true → (a || b) ≡ true
or_true true b h = refl
or_true false b h = absurd (true≢false (sym h))

abbrev IsBelow : ℕ → List ℕ → Type 0
IsBelow k ks = AllByRecursion (λ y. nat_cmp k y ≡ Less) ks

module _ {X : Type 0} (key : X → ℕ) (test : X → Bool) where
  abbrev pub among : List X → List ℕ
  among xs = map key (filter test xs)

  -- a number below those of all elements is below those of the ones that pass
  still_below : (k : ℕ) (xs : List X) → IsBelow k (map key xs) → IsBelow k (among xs)
  still_below k [] all = tt
  still_below k (x ∷ xs) all =
      elim (test x) as (λ b. IsBelow k (map key (cond b (x ∷ filter test xs) (filter test xs)))) [
        | true ↦ (all.0, still_below k xs all.1)
        | false ↦ still_below k xs all.1
      ]

  fresh : (k : ℕ) (ks : List ℕ) → IsBelow k ks → list_any (nat_eq k) ks ≡ false
  fresh k [] all = refl
  fresh k (n ∷ ks) all = or_false (nat_eq k n) (list_any (nat_eq k) ks) (differ k n all.0)
      ∙ fresh k ks all.1

  pub still_rising : (xs : List X) → IsStrictlySortedBy nat_cmp (map key xs)
      → IsStrictlySortedBy nat_cmp (among xs)
  unfolding IsStrictlySortedBy
  still_rising [] rising = tt
  still_rising (x ∷ xs) rising =
      elim (test x) as (λ b. IsStrictlySortedBy nat_cmp
      (map key (cond b (x ∷ filter test xs) (filter test xs)))) [
        | true ↦ (still_below (key x) xs rising.0, still_rising xs rising.1)
        | false ↦ still_rising xs rising.1
      ]

  -- one more number, below all
  with_first : (x : X) (xs : List X) → IsBelow (key x) (map key xs)
      → All (λ y. list_any (nat_eq (key y)) (among (x ∷ xs)) ≡ list_any (nat_eq (key y)) (among xs))
      xs
  with_first x xs below k d within =
      let y = get_or xs k d in
      let rest = list_any (nat_eq (key y)) (among xs) in
      let later : nat_cmp (key x) (key y) ≡ Less =
      subst (λ n. nat_cmp (key x) n ≡ Less) (get_or-map key xs k d 0 within)
      (All-from_recursion (λ n. nat_cmp (key x) n ≡ Less) (map key xs) below k 0
      (rw (length-map xs key) within)) in
      elim (test x) as (λ b. list_any (nat_eq (key y))
      (map key (cond b (x ∷ filter test xs) (filter test xs))) ≡ rest) [
        | true ↦ or_false (nat_eq (key y) (key x)) rest (differ_back (key y) (key x) later)
        | false ↦ refl
      ]

  -- a number is among those that pass where its element does
  pub told : (xs : List X) → IsStrictlySortedBy nat_cmp (map key xs)
      → All (λ y. list_any (nat_eq (key y)) (among xs) ≡ test y) xs
  unfolding IsStrictlySortedBy
  told [] rising = All-nil (λ y. list_any (nat_eq (key y)) (among []) ≡ test y)
  told (x ∷ xs) rising =
      All-cons (λ y. list_any (nat_eq (key y)) (among (x ∷ xs)) ≡ test y) x xs
      (elim (test x) as (λ b. list_any (nat_eq (key x))
      (map key (cond b (x ∷ filter test xs) (filter test xs))) ≡ b) [
        | true ↦ or_true (nat_eq (key x) (key x)) (list_any (nat_eq (key x)) (among xs))
            (same (key x))
        | false ↦ fresh (key x) (among xs) (still_below (key x) xs rising.0)
      ])
      (λ k d below. with_first x xs rising.0 k d below ∙ told xs rising.1 k d below)

apart : (a b : ℕ) → (a < b) → nat_eq a b ≡ false
apart a b h = grind (arith, nat_tests)

apart_back : (a b : ℕ) → (b < a) → nat_eq a b ≡ false
apart_back a b h = grind (arith, nat_tests)

-- what a search among rising numbers tells
pub search_told : (xs : List ℕ) (x : ℕ) (r : Result ℕ ℕ)
    → MatchResult r (λ i. (i < length xs) × (get_or xs i 0 ≡ x))
    (λ i. (i ≤ length xs) × ((k : ℕ) → k < i → get_or xs k 0 < x)
    × ((k : ℕ) → i ≤ k → k < length xs → x < get_or xs k 0))
    → is_ok r ≡ list_any (nat_eq x) xs
search_told xs x (Ok i) h = sym (list_any_at (nat_eq x) xs i 0 h.0 (ap (nat_eq x) h.1 ∙ same x))
search_told xs x (Err i) h =
    sym (list_any_none (nat_eq x) xs (λ k d below.
    ap (nat_eq x) (get_or_default xs k d 0 below)
    ∙ ⊎_elim (λ before. apart_back x (get_or xs k 0) (h.1 k before))
    (λ after. apart x (get_or xs k 0) (h.2 k after below)) (cases_lt k i)))
