-- Digits, from the left to the right.
use Rattle.std.proofs.Common.{◌≡◌, ℕ, List, [], ◌∷◌, ◌≤◌, ◌<◌, ◌+◌, ◌*◌, ◌^◌, Bool, true, false}
use Rattle.std.proofs.Common.{refl, arith, length, drop, get_or}
use Rattle.std.proofs.Math.Nat.{le_trans}
use Rattle.std.proofs.lemmas.List.{drop_more}
use Rattle.std.proofs.lemmas.Bool.Decides.{nat_tests}
use Rattle.std.specs.Prelude.{Some, None, if◌then◌else◌, ◌==◌}
use Rattle.std.specs.Char.{digit_value, is_digit}
use Rattle.go_ast.specs.Characters.{underscore}
use Rattle.go_literals.specs.Options.{◌|>◌}
use Rattle.go_literals.specs.Reading.{read_digits, in_range}

below_product : (base value d : ℕ) → 2 ≤ base → value ≤ value * base + d
below_product base value d two = grind arith

-- more digits give no less
not_less : (base : ℕ) → 2 ≤ base → (marked : Bool) (value : ℕ) (bytes : List ℕ) (n : ℕ)
    → read_digits base marked value bytes ≡ Some n → value ≤ n
not_less base two true value [] n p = cc
not_less base two false value [] n p = let e : value ≡ n = cc in omega arith
not_less base two marked value (b ∷ bytes) n p =
    (elim (b == underscore) as
    (λ t. (if t then (if marked then None else read_digits base true value bytes)
    else (if is_digit b base then read_digits base false (value * base + digit_value b) bytes else
    None)) ≡ Some n → value ≤ n) [
      | true ↦ (elim marked as (λ k. (if k then None else read_digits base true value bytes) ≡ Some
          n → value ≤ n) [
            | true ↦ λ q. cc
            | false ↦ λ q. not_less base two true value bytes n q
          ])
      | false ↦ (elim (is_digit b base) as
          (λ k. (if k then read_digits base false (value * base + digit_value b) bytes else None) ≡
          Some n → value ≤ n) [
            | true ↦ λ q. le_trans (below_product base value (digit_value b) two)
                (not_less base two false (value * base + digit_value b) bytes n q)
            | false ↦ λ q. cc
          ])
    ]) p

none_within : (n : ℕ) → 2 ^ 128 ≤ n → in_range n ≡ None
none_within n large = grind arith

pub too_large : (base value : ℕ) (marked : Bool) (bytes : List ℕ) → 2 ≤ base → 2 ^ 128 ≤ value
    → (read_digits base marked value bytes |> in_range) ≡ None
too_large base value marked bytes two large =
    (elim (read_digits base marked value bytes) as (λ o. ((n : ℕ) → o ≡ Some n → value ≤ n)
    → (o |> in_range) ≡ None) [
      | None ↦ λ h. refl
      | Some n ↦ λ h. none_within n (let q : value ≤ n = h n refl in omega arith)
    ]) (not_less base two marked value bytes)

pub stuck : (base value : ℕ) (marked : Bool) (digits : List ℕ) (i : ℕ) → 2 ≤ base
    → i < length digits → (get_or digits i 0 == underscore) ≡ false
    → digit_value (get_or digits i 0) < base
    → (value * base + digit_value (get_or digits i 0) < 2 ^ 128 → ⊥)
    → (read_digits base marked value (drop i digits) |> in_range) ≡ None
stuck base value marked digits i two within no_mark small large =
    let t : is_digit (get_or digits i 0) base ≡ true = grind (arith, nat_tests, small) in
    rw (drop_more digits i 0 within, no_mark, t)
    (too_large base (value * base + digit_value (get_or digits i 0)) false (drop (i + 1) digits) two
    (omega (arith, large)))
