-- The value of digits, one digit after another.
use Rattle.std.proofs.Common.{◌≡◌, ℕ, suc, ◌+◌, ◌*◌, ◌-◌, ◌<◌, ◌≤◌, Bool, true, false, ◌&&◌}
use Rattle.std.proofs.Common.{List, [], ◌∷◌, length, drop, get_or, refl, ◌∙◌, ap, arith}
use Rattle.std.proofs.Common.{drop-cons}
use Rattle.std.specs.Prelude.{nat_le}
use Rattle.std.specs.List.{list_all}
use Rattle.std.specs.Char.{digit_value, is_ascii_digit}
use Rattle.std.proofs.lemmas.Bool.{lt-leb}
use Rattle.std.proofs.lemmas.Bool.Decides.{nat_tests}
use Rattle.go_ast.specs.Texts.{value_after}

-- more digits make no lesser value
value_after-grows : (value : ℕ) (ds : List ℕ) → value ≤ value_after 10 value ds
value_after-grows value [] = omega arith
value_after-grows value (d ∷ ds) =
    let more : value * 10 + digit_value d ≤ value_after 10 (value * 10 + digit_value d) ds =
    value_after-grows (value * 10 + digit_value d) ds in
    omega arith

-- what is left of a test of digits
abbrev pub rest_test : ℕ → ℕ → List ℕ → Bool
rest_test last value ds = list_all is_ascii_digit ds && nat_le (value_after 10 value ds) last

split_at : (last value : ℕ) (xs : List ℕ) (i : ℕ) → i < length xs
    → rest_test last value (drop i xs) ≡ rest_test last value (get_or xs i 0 ∷ drop (suc i) xs)
split_at last value xs i h = ap (rest_test last value) (drop-cons xs i 0 h)

false_right : (b c : Bool) → c ≡ false → (b && c) ≡ false
false_right true c fails = fails
false_right false c fails = refl

value_of_digit : (c : ℕ) → is_ascii_digit c ≡ true → digit_value c ≡ c - 48
value_of_digit c digit = grind (arith, nat_tests)

-- a value that is too great stays so
pub test_passed : (last value : ℕ) (xs : List ℕ) (i next : ℕ) → i < length xs
    → is_ascii_digit (get_or xs i 0) ≡ true → next ≡ value * 10 + (get_or xs i 0 - 48) → last < next
    → rest_test last value (drop i xs) ≡ false
test_passed last value xs i next h digit is over =
    let d = get_or xs i 0 in
    let more : value * 10 + digit_value d ≤ value_after 10 (value * 10 + digit_value d)
    (drop (suc i) xs) = value_after-grows (value * 10 + digit_value d) (drop (suc i) xs) in
    let same : digit_value d ≡ d - 48 = value_of_digit d digit in
    let great : last < value_after 10 (value * 10 + digit_value d) (drop (suc i) xs) =
    omega arith in
    split_at last value xs i h ∙ false_right _ _
    (lt-leb (value_after 10 (value * 10 + digit_value d) (drop (suc i) xs)) last great)
