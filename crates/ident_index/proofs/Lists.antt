-- The first element that passes, filters, and lists whose later elements stand in a relation to the
-- earlier ones.
use Rattle.std.proofs.Common.{◌≡◌, ◌∙◌, ℕ, zero, suc, ◌<◌, Bool, true, false, cond, Some, None}
use Rattle.std.proofs.Common.{List, [], ◌∷◌, ◌++◌, length, get_or, map, filter, All, refl, sym, ap}
use Rattle.std.proofs.Common.{subst, arith}
use Rattle.std.specs.Prelude.{◌&&◌, AllPairs}
use Rattle.std.specs.List.{find}
use Rattle.std.proofs.lemmas.List.{get_or-map, length-map}
use Rattle.std.proofs.lemmas.List.Elements.{All-append, All-cons, All-head, All-nil, All-tail}
use Rattle.std.proofs.lemmas.List.Kept.{AllPairs-cons}

-- what passes has what follows from passing
pub all_kept : {X : Type 0} (p : X → Bool) (P : X → Type 0) (xs : List X)
    → All (λ x. p x ≡ true → P x) xs → All P (filter p xs)
all_kept p P [] h = All-nil P
all_kept p P (x ∷ xs) h =
    let rest = all_kept p P xs (All-tail (λ x. p x ≡ true → P x) x xs h) in
    elim (p x) as (λ b. p x ≡ b → All P (cond b (x ∷ filter p xs) (filter p xs))) [
      | true ↦ λ passes. All-cons P x (filter p xs) (All-head (λ x. p x ≡ true → P x) x xs h passes)
          rest
      | false ↦ λ fails. rest
    ] refl

pub filter_twice : {X : Type 0} (p q : X → Bool) (xs : List X) → filter (λ x. p x && q x) xs
    ≡ filter q (filter p xs)
filter_twice p q [] = refl
filter_twice p q (x ∷ xs) =
    elim (p x) as (λ b. cond (b && q x) (x ∷ filter (λ x. p x && q x) xs)
    (filter (λ x. p x && q x) xs) ≡ filter q (cond b (x ∷ filter p xs) (filter p xs))) [
      | true ↦ ap (λ l. cond (q x) (x ∷ l) l) (filter_twice p q xs)
      | false ↦ filter_twice p q xs
    ]

pub AllPairs-map : {X Y : Type 0} (R : Y → Y → Type 0) (f : X → Y) (xs : List X)
    → AllPairs (λ a b. R (f a) (f b)) xs → AllPairs R (map f xs)
AllPairs-map R f [] h = λ i j d l m. absurd (omega arith)
AllPairs-map R f (x ∷ xs) h = λ i j d l m.
    let within : j < length (x ∷ xs) = omega (arith, length-map (x ∷ xs) f) in
    subst (λ a. R a (get_or (map f (x ∷ xs)) j d)) (sym (get_or-map f (x ∷ xs) i x d (omega arith)))
    (subst (R (f (get_or (x ∷ xs) i x))) (sym (get_or-map f (x ∷ xs) j x d within))
    (h i j x l within))

pub AllPairs-append : {X : Type 0} (R : X → X → Type 0) (xs ys : List X) → AllPairs R xs
    → AllPairs R ys → All (λ x. All (R x) ys) xs → AllPairs R (xs ++ ys)
AllPairs-append R [] ys left right across = right
AllPairs-append R (x ∷ xs) ys left right across =
    AllPairs-cons R x (xs ++ ys)
    (All-append (R x) xs ys (λ k d h. left 0 (suc k) d (omega arith) (omega arith))
    (All-head (λ x. All (R x) ys) x xs across))
    (AllPairs-append R xs ys (λ i j d l m. left (suc i) (suc j) d (omega arith) (omega arith)) right
    (All-tail (λ x. All (R x) ys) x xs across))

module _ {X : Type 0} (p : X → Bool) where
  pub find-at : (xs : List X) (i : ℕ) (d : X) → i < length xs → p (get_or xs i d) ≡ true
      → ((k : ℕ) → k < i → p (get_or xs k d) ≡ false)
      → find p xs ≡ Some (get_or xs i d)
  find-at [] i d h passes fails = absurd (omega arith)
  find-at (x ∷ xs) zero d h passes fails = ap (λ b. cond b (Some x) (find p xs)) passes
  find-at (x ∷ xs) (suc i) d h passes fails =
      ap (λ b. cond b (Some x) (find p xs)) (fails 0 (omega arith))
      ∙ find-at xs i d (omega arith) passes (λ k l. fails (suc k) (omega arith))

  pub find-nowhere : (xs : List X) → All (λ x. p x ≡ false) xs → find p xs ≡ None
  find-nowhere [] h = refl
  find-nowhere (x ∷ xs) h =
      ap (λ b. cond b (Some x) (find p xs)) (h 0 x (omega arith))
      ∙ find-nowhere xs (λ k d l. h (suc k) d (omega arith))

  -- the first that passes is the first of those that pass
  pub find-filter : (xs : List X) → find p xs ≡ find p (filter p xs)
  find-filter [] = refl
  find-filter (x ∷ xs) =
      elim (p x) as (λ b. p x ≡ b → cond b (Some x) (find p xs)
      ≡ find p (cond b (x ∷ filter p xs) (filter p xs))) [
        | true ↦ λ passes. sym (ap (λ b. cond b (Some x) (find p (filter p xs))) passes)
        | false ↦ λ fails. find-filter xs
      ] refl
