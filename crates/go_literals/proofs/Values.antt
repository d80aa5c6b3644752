-- The value of a few digits is small.
use Rattle.std.proofs.Common.{◌≡◌, ℕ, ◌+◌, ◌*◌, ◌^◌, ◌≤◌, ◌<◌, List, length, drop, get_or, ap}
use Rattle.std.proofs.Common.{arith, pow-suc, mul-le-mul_left}
use Rattle.std.proofs.Math.Nat.{pow-le-pow_right, one-le-pow}
use Rattle.std.proofs.lemmas.List.{drop_more}
use Rattle.std.specs.Char.{digit_value}
use Rattle.go_ast.specs.Texts.{value_after}

pub one_digit : (i v base d : ℕ) → v ≤ 64 ^ i → base ≤ 16 → d ≤ 36 → v * base + d ≤ 64 ^ (i + 1)
one_digit i v base d small low digit =
    let next : 64 ^ (i + 1) ≡ 64 ^ i * 64 = grind (arith, pow-suc 64 i) in
    let some : 1 ≤ 64 ^ i = one-le-pow i 64 (omega arith) in
    let product : v * base ≤ v * 16 = mul-le-mul_left v low in
    omega arith

pub digits_fit : (i n : ℕ) → i < 8 → n ≤ 64 ^ (i + 1) → n < 2 ^ 64
digits_fit i n few small =
    let high : 64 ^ (i + 1) ≤ 64 ^ 8 =
    pow-le-pow_right {n = 64} (omega arith) {i = i + 1} {j = 8} (omega arith) in
    let top : 64 ^ 8 < 2 ^ 64 = omega arith in
    omega arith

pub value_step : (base value : ℕ) (digits : List ℕ) (i : ℕ) → i < length digits
    → value_after base value (drop i digits) ≡ value_after base
    (value * base + digit_value (get_or digits i 0)) (drop (i + 1) digits)
value_step base value digits i within = ap (value_after base value) (drop_more digits i 0 within)
