-- Facts on an `if`, on fronts of lists, and on characters of ASCII.
use Rattle.std.proofs.Common.{◌≡◌, ℕ, ◌+◌, ◌<◌, ◌≤◌, Bool, true, false, not, cond, List, [], ◌∷◌}
use Rattle.std.proofs.Common.{◌++◌, length, take, drop, get_or, nat_lt, IsUtf8, encode_utf8_all}
use Rattle.std.proofs.Common.{sym, ap, ap₂, ◌∙◌, refl, inl, inr, one-add, zero-add, add-zero}
use Rattle.std.proofs.Common.{arith, take-append-drop, length-append}
use Rattle.std.specs.List.{list_all, prefix_len, position_or_len, take_while}
use Rattle.std.proofs.lemmas.List.{take_at, append_cancel_left, drop_more}
use Rattle.std.proofs.lemmas.Bool.{and_parts, and_from, ltb-true, cases_Bool, not_from_true}
use Rattle.std.proofs.lemmas.Bool.{not-false}
use Rattle.std.proofs.lemmas.List.Sums.{prefix_len_stops}
use Rattle.std.proofs.lemmas.Str.{encode_ascii}
use Rattle.std.specs.Str.{all_scalars}
use lib.Utf8.{scalar, low_scalar}

-- a fact from the value of an `if`, by its branches
pub by_if : {X P : Type 0} (t : Bool) (x y z : X) → cond t x y ≡ z → (t ≡ true → x ≡ z → P)
    → (t ≡ false → y ≡ z → P) → P
by_if true x y z e on_true on_false = on_true refl e
by_if false x y z e on_true on_false = on_false refl e

-- two fronts of one list that are as long are one
pub same_fronts : (bytes front other rest after : List ℕ) → bytes ≡ front ++ rest
    → bytes ≡ other ++ after → length front ≡ length other → front ≡ other
same_fronts bytes front other rest after e h n =
    sym (take_at front rest (length other) n) ∙ ap (take (length other)) (sym e ∙ h)
    ∙ take_at other after (length other) refl

-- and so is what follows them
pub same_rests : (front other rest after : List ℕ) → front ++ rest ≡ other ++ after
    → length front ≡ length other → rest ≡ after
same_rests front other rest after e n =
    let same : front ≡ other = same_fronts (front ++ rest) front other rest after refl e n in
    append_cancel_left other rest after (ap (λ x. x ++ rest) (sym same) ∙ e)

-- a front of a list is no longer than the list
pub front_within : (bytes front rest : List ℕ) → bytes ≡ front ++ rest → length front ≤ length bytes
front_within bytes front rest e = omega (arith, ap length e, length-append front rest)

pub split_at : (n : ℕ) (bytes : List ℕ) → bytes ≡ take n bytes ++ drop n bytes
split_at n bytes = sym (take-append-drop n bytes)

module _ (p : ℕ → Bool) where
  -- the longest front that passes goes past a front that does
  pub prefix_len_past : (front rest : List ℕ) → list_all p front ≡ true
      → prefix_len p (front ++ rest) ≡ length front + prefix_len p rest
  prefix_len_past [] rest h = sym (zero-add (prefix_len p rest))
  prefix_len_past (x ∷ xs) rest h =
      let parts = and_parts (p x) (list_all p xs) h in
      let more = prefix_len_past xs rest parts.1 in
      rw parts.0 (omega (arith, more))

  -- and it ends before an element that fails
  pub prefix_len_until : (front : List ℕ) (x : ℕ) (rest : List ℕ) → list_all p front ≡ true
      → p x ≡ false → prefix_len p (front ++ x ∷ rest) ≡ length front
  prefix_len_until front x rest h fails = prefix_len_past front (x ∷ rest) h
      ∙ rw fails (add-zero (length front))

  pub prefix_len_whole : (front : List ℕ) → list_all p front ≡ true
      → prefix_len p front ≡ length front
  prefix_len_whole [] h = refl
  prefix_len_whole (x ∷ xs) h =
      let parts = and_parts (p x) (list_all p xs) h in
      rw parts.0 (omega (arith, prefix_len_whole xs parts.1))

  -- the longest front that passes does pass
  pub list_all-take_prefix_len : (xs : List ℕ) → list_all p (take (prefix_len p xs) xs) ≡ true
  list_all-take_prefix_len [] = refl
  list_all-take_prefix_len (x ∷ xs) = elim (cases_Bool (p x)) [
    | inl passes ↦ rw (passes, one-add) (rw passes (list_all-take_prefix_len xs))
    | inr fails ↦ rw fails refl
  ]

  pub list_all-weaker : (q : ℕ → Bool) → ((x : ℕ) → p x ≡ true → q x ≡ true) → (xs : List ℕ)
      → list_all p xs ≡ true → list_all q xs ≡ true
  list_all-weaker q more [] h = refl
  list_all-weaker q more (x ∷ xs) h =
      let parts = and_parts (p x) (list_all p xs) h in
      and_from (q x) (list_all q xs) (more x parts.0) (list_all-weaker q more xs parts.1)

abbrev pub is_ascii : ℕ → Bool
is_ascii c = nat_lt c 128

-- characters of ASCII are their own bytes
pub encode_utf8_all-ascii : (characters : List ℕ) → list_all is_ascii characters ≡ true
    → encode_utf8_all characters ≡ characters
encode_utf8_all-ascii [] h = refl
encode_utf8_all-ascii (c ∷ cs) h =
    let parts = and_parts (is_ascii c) (list_all is_ascii cs) h in
    ap₂ ◌++◌ (encode_ascii c (ltb-true c 128 parts.0)) (encode_utf8_all-ascii cs parts.1)

pub ascii_scalars : (characters : List ℕ) → list_all is_ascii characters ≡ true
    → all_scalars characters ≡ true
ascii_scalars [] h = refl
ascii_scalars (c ∷ cs) h =
    let parts = and_parts (is_ascii c) (list_all is_ascii cs) h in
    and_from (scalar c) (all_scalars cs) (low_scalar c (omega (arith, ltb-true c 128 parts.0)))
    (ascii_scalars cs parts.1)

-- bytes of ASCII are UTF-8
pub ascii_utf8 : (bytes : List ℕ) → list_all is_ascii bytes ≡ true → IsUtf8 bytes
ascii_utf8 bytes h = (bytes, (ascii_scalars bytes h, encode_utf8_all-ascii bytes h))

module _ (p : ℕ → Bool) where
  -- the place of the first element that passes, by what stands before it
  pub place_until : (front : List ℕ) (x : ℕ) (rest : List ℕ)
      → list_all (λ y. not (p y)) front ≡ true → p x ≡ true
      → position_or_len p (front ++ x ∷ rest) ≡ length front
  place_until front x rest h passes =
      prefix_len_until (λ y. not (p y)) front x rest h (not_from_true (p x) passes)

  pub place_whole : (front : List ℕ) → list_all (λ y. not (p y)) front ≡ true
      → position_or_len p front ≡ length front
  place_whole front h = prefix_len_whole (λ y. not (p y)) front h

  pub place_passes : (xs : List ℕ) → position_or_len p xs < length xs
      → p (get_or xs (position_or_len p xs) 0) ≡ true
  place_passes xs within = not-false _ (prefix_len_stops (λ y. not (p y)) xs 0 within)

  -- the front that passes continues past a front that does
  pub take_while-past : (front rest : List ℕ) → list_all p front ≡ true
      → take_while p (front ++ rest) ≡ front ++ take_while p rest
  take_while-past [] rest h = refl
  take_while-past (x ∷ xs) rest h =
      let parts = and_parts (p x) (list_all p xs) h in
      rw (parts.0, one-add) (ap (λ l. x ∷ l) (take_while-past xs rest parts.1))

-- a list around one of its places
pub around : (n : ℕ) (xs : List ℕ) → n < length xs
    → xs ≡ take n xs ++ get_or xs n 0 ∷ drop (n + 1) xs
around n xs within = split_at n xs ∙ ap (λ l. take n xs ++ l) (drop_more xs n 0 within)
