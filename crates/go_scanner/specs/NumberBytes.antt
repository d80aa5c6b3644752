-- Cited by private clauses and proofs. Which kind of number some bytes are, found by splitting them
-- at their marks.
use Rattle.std.specs.Prelude.{ℕ, ◌+◌, Bool, true, false, ◌&&◌, ◌||◌, not, List, [], ◌∷◌, length}
use Rattle.std.specs.Prelude.{take, drop, if◌then◌else◌, ◌==◌, nat_lt, Option, Some, None}
use Rattle.std.specs.List.{list_any, position_or_len}
use Rattle.std.specs.Int.{is_in_range}
use Rattle.std.specs.Char.{is_ascii_digit, is_ascii_hexdigit}
use Rattle.go_ast.specs.declared.token.TokenKind.{TokenKind}
use Rattle.go_ast.specs.declared.token.TokenKind.TheVariants.{Int, Float, Imaginary}
use Rattle.go_ast.specs.Characters.{full_stop, digit_zero, underscore, letter_i}
use Rattle.go_ast.specs.Numbers.{is_octal_digit, is_prefix_letter, is_digit_after, is_exponent_mark}
use Rattle.go_ast.specs.Lexical.{is_hexadecimal}

-- the bytes are digits of a base, each with a "_" before it or not; one may stand before the bytes
abbrev pub are_separated : (ℕ → Bool) → Bool → List ℕ → Bool
are_separated base after_mark [] = not after_mark
are_separated base after_mark (b ∷ bytes) =
    if b == underscore then not after_mark && are_separated base true bytes
    else base b && are_separated base false bytes

abbrev pub spells_digits : (ℕ → Bool) → Bool → List ℕ → Bool
spells_digits base prefixed [] = false
spells_digits base prefixed (b ∷ bytes) = are_separated base (not prefixed) (b ∷ bytes)

-- what may follow a zero in an integer
abbrev pub spells_after_zero : List ℕ → Bool
spells_after_zero [] = true
spells_after_zero (b ∷ bytes) =
    if is_prefix_letter b then spells_digits (is_digit_after b) true bytes
    else spells_digits is_octal_digit true (b ∷ bytes)

abbrev pub spells_integer : List ℕ → Bool
spells_integer [] = false
spells_integer (d ∷ bytes) = if d == digit_zero then spells_after_zero bytes
    else is_in_range 49 57 d && are_separated is_ascii_digit false bytes

abbrev pub is_point : ℕ → Bool
is_point b = b == full_stop

-- the place of the first point, or the length
abbrev pub point_place : List ℕ → ℕ
point_place bytes = position_or_len is_point bytes

abbrev pub spells_mantissa : (ℕ → Bool) → Bool → List ℕ → Bool
spells_mantissa base prefixed bytes =
    let n = point_place bytes in
    let fraction = drop (n + 1) bytes in
    if n == length bytes then spells_digits base prefixed bytes
    else (if n == 0 then spells_digits base false fraction
    else spells_digits base prefixed (take n bytes)
    && (length fraction == 0 || spells_digits base false fraction))

abbrev pub without_sign : List ℕ → List ℕ
without_sign [] = []
without_sign (b ∷ bytes) = if b == 43 || b == 45 then bytes else b ∷ bytes

-- the first byte is the letter that marks the exponent
abbrev pub spells_exponent : List ℕ → Bool
spells_exponent [] = false
spells_exponent (letter ∷ bytes) = spells_digits is_ascii_digit false (without_sign bytes)

-- the place of the first letter that marks an exponent, or the length
abbrev pub exponent_place : Bool → List ℕ → ℕ
exponent_place hexadecimal bytes = position_or_len (is_exponent_mark hexadecimal) bytes

abbrev pub spells_decimal_float : List ℕ → Bool
spells_decimal_float bytes =
    let n = exponent_place false bytes in
    spells_mantissa is_ascii_digit false (take n bytes)
    && (if n == length bytes then list_any is_point bytes else spells_exponent (drop n bytes))

-- the bytes after the prefix
abbrev pub spells_hexadecimal_float : List ℕ → Bool
spells_hexadecimal_float bytes =
    let n = exponent_place true bytes in
    spells_mantissa is_ascii_hexdigit true (take n bytes) && spells_exponent (drop n bytes)

abbrev pub spells_float : List ℕ → Bool
spells_float bytes = if is_hexadecimal bytes then spells_hexadecimal_float (drop 2 bytes)
    else spells_decimal_float bytes

-- what may stand before the "i" of an imaginary
abbrev pub spells_part : List ℕ → Bool
spells_part bytes = spells_integer bytes || spells_digits is_ascii_digit false bytes
    || spells_float bytes

abbrev pub is_letter_i : ℕ → Bool
is_letter_i b = b == letter_i

unfoldable pub number_kind : List ℕ → Option TokenKind
number_kind bytes =
    let n = position_or_len is_letter_i bytes in
    if nat_lt n (length bytes)
    then (if (n + 1 == length bytes) && spells_part (take n bytes) then Some Imaginary
    else None)
    else (if spells_integer bytes then Some Int
    else (if spells_float bytes then Some Float else None))
