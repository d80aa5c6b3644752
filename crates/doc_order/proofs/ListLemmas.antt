-- Lists of one element, and the first place at which a test passes.
use Rattle.std.proofs.Common.{◌≡◌, ◌≢◌, ◌<◌, ℕ, zero, suc, Bool, true, false, cond, List, [], ◌∷◌}
use Rattle.std.proofs.Common.{Some, None, length, filter, map, find, position, get_or, refl, arith}
use Rattle.std.proofs.Common.{ltb}
use Rattle.std.specs.List.{position_or_len}
use Rattle.std.proofs.lemmas.List.{length-map}
use Rattle.std.proofs.lemmas.List.Folds.{list_all-map}
use Rattle.std.proofs.lemmas.Bool.{lt-ltb}
use Rattle.doc_order.specs.Documentation.{only}

pub only-other : {X : Type 0} (xs : List X) → length xs ≢ 1 → only xs ≡ None
only-other [] h = refl
only-other (x ∷ []) h = absurd (h refl)
only-other (x ∷ y ∷ xs) h = refl

-- a list of one element is that of its first
only-find_step : {X : Type 0} (p : X → Bool) (x : X) (xs : List X) (b : Bool)
    → length (cond b (x ∷ filter p xs) (filter p xs)) ≡ 1
    → (length (filter p xs) ≡ 1 → only (filter p xs) ≡ find p xs)
    → only (cond b (x ∷ filter p xs) (filter p xs)) ≡ cond b (Some x) (find p xs)
only-find_step p x xs true h rest = one (filter p xs) h
  where
    one : {X : Type 0} {x : X} (ys : List X) → length (x ∷ ys) ≡ 1 → only (x ∷ ys) ≡ Some x
    one [] h = refl
    one (y ∷ ys) h = cc
only-find_step p x xs false h rest = rest h

pub only-find : {X : Type 0} (p : X → Bool) (xs : List X) → length (filter p xs) ≡ 1
    → only (filter p xs) ≡ find p xs
only-find p [] h = cc
only-find p (x ∷ xs) h = only-find_step p x xs (p x) h (only-find p xs)

-- the first place at which a test passes
pub position_or_len-at : {X : Type 0} (p : X → Bool) (xs : List X) (i : ℕ) (d : X) → i < length xs
    → p (get_or xs i d) ≡ true
    → ((k : ℕ) → k < i → p (get_or xs k d) ≡ false) → position_or_len p xs ≡ i
position_or_len-at p [] i d h passes fails = absurd (omega arith)
position_or_len-at p (x ∷ xs) zero d h passes fails = rw passes
position_or_len-at p (x ∷ xs) (suc i) d h passes fails =
    let first : p x ≡ false = fails 0 (omega arith) in
    let rest : position_or_len p xs ≡ i = position_or_len-at p xs i d (omega arith) passes
    (λ k l. fails (suc k) (omega arith)) in
    rw (first, rest) (omega arith)

pub position-at : {X : Type 0} (p : X → Bool) (xs : List X) (i : ℕ) (d : X) → i < length xs
    → p (get_or xs i d) ≡ true
    → ((k : ℕ) → k < i → p (get_or xs k d) ≡ false) → position p xs ≡ Some i
position-at p xs i d h passes fails =
    let is : position_or_len p xs ≡ i = position_or_len-at p xs i d h passes fails in
    rw (is, lt-ltb i (length xs) h)

position_or_len-none : {X : Type 0} (p : X → Bool) (xs : List X)
    → ((k : ℕ) (d : X) → k < length xs → p (get_or xs k d) ≡ false)
    → position_or_len p xs ≡ length xs
position_or_len-none p [] fails = refl
position_or_len-none p (x ∷ xs) fails =
    let first : p x ≡ false = fails 0 x (omega arith) in
    let rest : position_or_len p xs ≡ length xs = position_or_len-none p xs
    (λ k d l. fails (suc k) d (omega arith)) in
    rw (first, rest) (omega arith)

irreflexive : (n : ℕ) → ltb n n ≡ false
irreflexive n = grind arith

pub position-none : {X : Type 0} (p : X → Bool) (xs : List X)
    → ((k : ℕ) (d : X) → k < length xs → p (get_or xs k d) ≡ false)
    → position p xs ≡ None
position-none p xs fails = rw (position_or_len-none p xs fails, irreflexive (length xs))

position_or_len-map : {X Y : Type 0} (p : Y → Bool) (f : X → Y) (xs : List X)
    → position_or_len p (map f xs) ≡ position_or_len (λ x. p (f x)) xs
position_or_len-map p f [] = refl
position_or_len-map p f (x ∷ xs) = rw (position_or_len-map p f xs)

pub position-map : {X Y : Type 0} (p : Y → Bool) (f : X → Y) (xs : List X)
    → position p (map f xs) ≡ position (λ x. p (f x)) xs
position-map p f xs = rw (position_or_len-map p f xs, length-map)

pub ruleset all_mapped = (list_all-map)
