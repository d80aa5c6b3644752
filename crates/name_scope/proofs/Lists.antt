-- First places in lists, and lists side by side.
use Rattle.std.proofs.Common.{◌≡◌, ℕ, ◌+◌, ◌<◌, Bool, true, false, cond, Bor, List, [], ◌∷◌, ◌++◌}
use Rattle.std.proofs.Common.{Option, Some, None, map, get_or, take, drop, length, refl, sym, ap}
use Rattle.std.proofs.Common.{subst, ◌∙◌, drop-cons, add-one, add-zero, arith}
use Prim.Native.Nat.{zero, suc}
use Rattle.std.specs.List.{AllZip, find, position_from, slice_get}
use Rattle.std.specs.Option.{IfSome, unwrap_or}
use Rattle.std.specs.Str.{bytes_eq}
use Rattle.std.proofs.lemmas.Bool.Decides.{same_from_decides}
use Rattle.std.proofs.lemmas.Grind.{take_at_read}
use Rattle.std.proofs.lemmas.Option.{IfSome_then}
use Rattle.std.proofs.lemmas.Slice.Eq.{bytes_eq-Decides}

pub bytes_eq-sym : (xs ys : List ℕ) → bytes_eq xs ys ≡ bytes_eq ys xs
bytes_eq-sym xs ys =
    let back = bytes_eq-Decides ys xs in
    same_from_decides _ _ (bytes_eq-Decides xs ys) (λ e. sym (back.0 e), λ e. back.1 (sym e))

-- what stands at the first place
FoundAt : {X Y : Type 0} → (Y → Bool) → (X → Y) → ℕ → List X → Option ℕ → Type 0
FoundAt {X} test name n xs None = find (λ x. test (name x)) xs ≡ None
FoundAt {X} test name n xs (Some k) = (j : ℕ) × (k ≡ n + j)
    × (find (λ x. test (name x)) xs ≡ slice_get xs j)

later : {X Y : Type 0} (test : Y → Bool) (name : X → Y) (n : ℕ) (x : X) (xs : List X) (o : Option ℕ)
    → test (name x) ≡ false → FoundAt test name (n + 1) xs o → FoundAt test name n (x ∷ xs) o
unfolding FoundAt
later test name n x xs None fails h = ap (λ b. cond b (Some x) (find (λ y. test (name y)) xs)) fails
    ∙ h
later test name n x xs (Some k) fails h = (
  suc h.0,
  h.1 ∙ omega arith,
  ap (λ b. cond b (Some x) (find (λ y. test (name y)) xs)) fails
      ∙ h.2,
)

here : {X Y : Type 0} (test : Y → Bool) (name : X → Y) (n : ℕ) (x : X) (xs : List X)
    → test (name x) ≡ true → FoundAt test name n (x ∷ xs) (Some n)
unfolding FoundAt
here test name n x xs passes =
    (0, sym (add-zero n), ap (λ b. cond b (Some x) (find (λ y. test (name y)) xs)) passes)

found_at : {X Y : Type 0} (test : Y → Bool) (name : X → Y) (n : ℕ) (xs : List X)
    → FoundAt test name n xs (position_from test n (map name xs))
unfolding FoundAt
found_at test name n [] = refl
found_at {X} {Y} test name n (x ∷ xs) =
    elim (test (name x)) as (λ b. test (name x) ≡ b
    → FoundAt test name n (x ∷ xs) (cond b (Some n) (position_from test (n + 1) (map name xs)))) [
      | true ↦ λ passes. here test name n x xs passes
      | false ↦ λ fails. later test name n x xs (position_from test (n + 1) (map name xs)) fails
          (found_at test name (n + 1) xs)
    ] refl

pub find-at : {X Y : Type 0} (test : Y → Bool) (name : X → Y) (xs : List X) (k : ℕ)
    → position_from test 0 (map name xs) ≡ Some k → find (λ x. test (name x)) xs ≡ slice_get xs k
unfolding FoundAt
find-at test name xs k at =
    let h = subst (FoundAt test name 0 xs) at (found_at test name 0 xs) in
    h.2 ∙ ap (slice_get xs) (omega (arith, h.1))

pub find-none : {X Y : Type 0} (test : Y → Bool) (name : X → Y) (xs : List X)
    → position_from test 0 (map name xs) ≡ None → find (λ x. test (name x)) xs ≡ None
unfolding FoundAt
find-none test name xs none = subst (FoundAt test name 0 xs) none (found_at test name 0 xs)

-- a first place is one of the list
place_below : (test : List ℕ → Bool) (n : ℕ) (xs : List (List ℕ))
    → IfSome (position_from test n xs) (λ k. k < n + length xs)
place_below test n [] = tt
place_below test n (x ∷ xs) =
    elim (test x) as (λ b. IfSome (cond b (Some n) (position_from test (n + 1) xs))
    (λ k. k < n + length (x ∷ xs))) [
      | true ↦ omega arith
      | false ↦ IfSome_then (position_from test (n + 1) xs) (place_below test (n + 1) xs)
          (λ k below. omega (arith, below))
    ]

pub first_place_below : (name : List ℕ) (names : List (List ℕ)) (most : ℕ) → length names < most
    → IfSome (position_from (bytes_eq name) 0 names) (λ k. k < most)
first_place_below name names most few = IfSome_then (position_from (bytes_eq name) 0 names)
    (place_below (bytes_eq name) 0 names) (λ k below. omega (arith, below, few))

-- lists side by side, with one element more each
AllZip-more : {A B : Type 0} (R : A → B → Type 0) (xs : List A) (ys : List B) (x : A) (y : B)
    → AllZip R xs ys → R x y → AllZip R (xs ++ x ∷ []) (ys ++ y ∷ [])
AllZip-more R [] [] x y all one = (one, tt)
AllZip-more R [] (b ∷ ys) x y all one = absurd all
AllZip-more R (a ∷ xs) [] x y all one = absurd all
AllZip-more R (a ∷ xs) (b ∷ ys) x y all one = (all.0, AllZip-more R xs ys x y all.1 one)

pub AllZip-step : {A B : Type 0} (R : A → B → Type 0) (xs : List A) (ys zs : List B) (i : ℕ) (x : A)
    (y : B) → i < length xs → x ≡ get_or xs i x → AllZip R (take i xs) ys → R x y → zs ≡ ys
    ++ y ∷ [] → AllZip R (take (i + 1) xs) zs
AllZip-step {A} {B} R xs ys zs i x y below at all one made =
    let more : take (i + 1) xs ≡ take i xs ++ x ∷ [] = (take_at_read xs i x below).1
    ∙ ap (λ z. take i xs ++ z ∷ []) (sym at) in
    subst (λ (l : List B). AllZip R (take (i + 1) xs) l) (sym made)
    (subst (λ (l : List A). AllZip R l (ys ++ y ∷ [])) (sym more)
    (AllZip-more R (take i xs) ys x y all one))

Some-same : {A : Type 0} (a b : A) → Some a ≡ Some b → a ≡ b
Some-same a b e = ap (λ o. unwrap_or o a) e

-- what stands next to an element, and next to none
pub AllZip-at : {A B : Type 0} (R : A → B → Type 0) (xs : List A) (ys : List B) (k : ℕ) (y : B)
    → AllZip R xs ys → slice_get ys k ≡ Some y → (x : A) × (slice_get xs k ≡ Some x) × R x y
AllZip-at R xs [] k y all at = cc
AllZip-at R [] (b ∷ ys) k y all at = absurd all
AllZip-at R (a ∷ xs) (b ∷ ys) zero y all at = (a, refl, subst (R a) (Some-same b y at) all.0)
AllZip-at R (a ∷ xs) (b ∷ ys) (suc k) y all at = AllZip-at R xs ys k y all.1 at

pub AllZip-past : {A B : Type 0} (R : A → B → Type 0) (xs : List A) (ys : List B) (k : ℕ)
    → AllZip R xs ys → slice_get ys k ≡ None → slice_get xs k ≡ None
AllZip-past R [] [] k all at = refl
AllZip-past R (a ∷ xs) [] k all at = absurd all
AllZip-past R [] (b ∷ ys) k all at = absurd all
AllZip-past R (a ∷ xs) (b ∷ ys) zero all at = cc
AllZip-past R (a ∷ xs) (b ∷ ys) (suc k) all at = AllZip-past R xs ys k all.1 at

-- the first place from a place on
pub position_from-map_drop : {X Y : Type 0} (name : X → Y) (test : Y → Bool) (xs : List X) (i : ℕ)
    (d : X) → i < length xs
    → position_from test i (map name (drop i xs)) ≡ cond (test (name (get_or xs i d))) (Some i)
    (position_from test (i + 1) (map name (drop (i + 1) xs)))
position_from-map_drop name test xs i d below =
    ap (λ l. position_from test i (map name l)) (drop-cons xs i d below)
    ∙ ap (λ n. cond (test (name (get_or xs i d))) (Some i)
    (position_from test (i + 1) (map name (drop n xs)))) (sym (add-one i))

module _ (name : List ℕ) (xs : List (Bor (List ℕ))) (i : ℕ) (d : Bor (List ℕ))
    (below : i < length xs) where
  -- the first place is here
  pub first_at : bytes_eq (get_or xs i d).now name ≡ true
      → position_from (bytes_eq name) 0 (map (λ (x : Bor (List ℕ)). x.now) xs) ≡ position_from
      (bytes_eq name) i (map (λ (x : Bor (List ℕ)). x.now) (drop i xs))
      → Some i ≡ position_from (bytes_eq name) 0 (map (λ (x : Bor (List ℕ)). x.now) xs)
  first_at passes so_far =
      let now : Bor (List ℕ) → List ℕ = λ x. x.now in
      sym (so_far ∙ position_from-map_drop now (bytes_eq name) xs i d below
      ∙ ap (λ b. cond b (Some i)
      (position_from (bytes_eq name) (i + 1) (map now (drop (i + 1) xs))))
      (bytes_eq-sym name (get_or xs i d).now ∙ passes))

  -- it comes later
  pub next_at : bytes_eq (get_or xs i d).now name ≡ false
      → position_from (bytes_eq name) 0 (map (λ (x : Bor (List ℕ)). x.now) xs) ≡ position_from
      (bytes_eq name) i (map (λ (x : Bor (List ℕ)). x.now) (drop i xs))
      → position_from (bytes_eq name) 0 (map (λ (x : Bor (List ℕ)). x.now) xs) ≡ position_from
      (bytes_eq name) (i + 1) (map (λ (x : Bor (List ℕ)). x.now) (drop (i + 1) xs))
  next_at fails so_far =
      let now : Bor (List ℕ) → List ℕ = λ x. x.now in
      so_far ∙ position_from-map_drop now (bytes_eq name) xs i d below
      ∙ ap (λ b. cond b (Some i)
      (position_from (bytes_eq name) (i + 1) (map now (drop (i + 1) xs))))
      (bytes_eq-sym name (get_or xs i d).now ∙ fails)
