-- Cited by public clauses. Numeric literals (The Go Programming Language Specification, "Integer
-- literals", "Floating-point literals" and "Imaginary literals"). Each form is a tree, a printer
-- from the tree to its bytes, and a test that says which trees are valid.
use Rattle.std.specs.Prelude.{ℕ, Bool, true, false, ◌&&◌, ◌||◌, List, [], ◌∷◌, ◌++◌, if◌then◌else◌}
use Rattle.std.specs.Prelude.{◌==◌, nat_eq, codes}
use Rattle.std.specs.List.{list_all, list_any}
use Rattle.std.specs.Int.{is_in_range}
use Rattle.std.specs.Char.{is_ascii_digit, is_ascii_hexdigit}
use Rattle.go_ast.specs.Characters.{full_stop, digit_zero, underscore, letter_i}

abbrev pub is_binary_digit : ℕ → Bool
is_binary_digit b = is_in_range 48 49 b

abbrev pub is_octal_digit : ℕ → Bool
is_octal_digit b = is_in_range 48 55 b

-- the letters of the prefixes "0b", "0o" and "0x"
abbrev pub is_prefix_letter : ℕ → Bool
is_prefix_letter b = list_any (nat_eq b) (codes "bBoOxX")

-- the digits that follow a prefix with this letter
abbrev pub is_digit_after : ℕ → ℕ → Bool
is_digit_after letter b = if letter == 98 || letter == 66 then is_binary_digit b
    else (if letter == 111 || letter == 79 then is_octal_digit b else is_ascii_hexdigit b)

-- a digit, alone or with "_" before it
pub data Digit : Type 0 where
  digit separated : ℕ → Digit

abbrev pub print_digits : List Digit → List ℕ
print_digits [] = []
print_digits (digit d ∷ ds) = d ∷ print_digits ds
print_digits (separated d ∷ ds) = underscore ∷ d ∷ print_digits ds

-- a digit of a base, which this test gives
abbrev pub is_digit_of : (ℕ → Bool) → Digit → Bool
is_digit_of base (digit d) = base d
is_digit_of base (separated d) = base d

abbrev pub is_plain : Digit → Bool
is_plain (digit d) = true
is_plain (separated d) = false

-- digits: one or more, each but the first with "_" before it or not; directly after a prefix the
-- first may have one too
abbrev pub are_digits : (ℕ → Bool) → Bool → List Digit → Bool
are_digits base prefixed [] = false
are_digits base prefixed (d ∷ ds) = (prefixed || is_plain d) && list_all (is_digit_of base) (d ∷ ds)

-- int_lit = decimal_lit | binary_lit | octal_lit | hex_lit
pub data Integer : Type 0 where
  lone_zero : Integer
  -- "1" … "9" and more digits
  decimal : ℕ → List Digit → Integer
  -- "0" and octal digits
  octal : List Digit → Integer
  -- "0", a letter and the digits of its base
  based : ℕ → List Digit → Integer

abbrev pub print_integer : Integer → List ℕ
print_integer lone_zero = digit_zero ∷ []
print_integer (decimal d ds) = d ∷ print_digits ds
print_integer (octal ds) = digit_zero ∷ print_digits ds
print_integer (based letter ds) = digit_zero ∷ letter ∷ print_digits ds

abbrev pub is_integer : Integer → Bool
is_integer lone_zero = true
is_integer (decimal d ds) = is_in_range 49 57 d && list_all (is_digit_of is_ascii_digit) ds
is_integer (octal ds) = are_digits is_octal_digit true ds
is_integer (based letter ds) = is_prefix_letter letter && are_digits (is_digit_after letter) true ds

-- the digits of a floating-point literal: whole, or before and after a point, where either may be
-- absent
pub data Mantissa : Type 0 where
  whole : List Digit → Mantissa
  pointed : List Digit → List Digit → Mantissa

abbrev pub print_mantissa : Mantissa → List ℕ
print_mantissa (whole ds) = print_digits ds
print_mantissa (pointed ds fraction) = print_digits ds ++ full_stop ∷ print_digits fraction

abbrev pub is_absent : List Digit → Bool
is_absent [] = true
is_absent (d ∷ ds) = false

abbrev pub is_mantissa : (ℕ → Bool) → Bool → Mantissa → Bool
is_mantissa base prefixed (whole ds) = are_digits base prefixed ds
is_mantissa base prefixed (pointed [] fraction) = are_digits base false fraction
is_mantissa base prefixed (pointed (d ∷ ds) fraction) =
    are_digits base prefixed (d ∷ ds) && (is_absent fraction || are_digits base false fraction)

-- a letter, an optional sign and decimal digits
pub data Sign : Type 0 where
  unsigned plus minus : Sign

abbrev pub print_sign : Sign → List ℕ
print_sign unsigned = []
print_sign plus = codes "+"
print_sign minus = codes "-"

pub data Exponent : Type 0 where
  exponent : ℕ → Sign → List Digit → Exponent

abbrev pub print_exponent : Exponent → List ℕ
print_exponent (exponent letter sign ds) = letter ∷ print_sign sign ++ print_digits ds

-- the letter that marks an exponent: p or P in a hexadecimal literal, else e or E
abbrev pub is_exponent_mark : Bool → ℕ → Bool
is_exponent_mark hexadecimal b = if hexadecimal then b == 112 || b == 80 else b == 101 || b == 69

abbrev pub is_exponent : Bool → Exponent → Bool
is_exponent hexadecimal (exponent letter sign ds) =
    is_exponent_mark hexadecimal letter && are_digits is_ascii_digit false ds

-- float_lit = decimal_float_lit | hex_float_lit
pub data Float : Type 0 where
  -- decimal, with a point and no exponent
  pointed_float : List Digit → List Digit → Float
  -- decimal, with an exponent
  scaled_float : Mantissa → Exponent → Float
  -- "0", "x" or "X", and an exponent
  hexadecimal_float : ℕ → Mantissa → Exponent → Float

abbrev pub print_float : Float → List ℕ
print_float (pointed_float ds fraction) = print_mantissa (pointed ds fraction)
print_float (scaled_float mantissa power) = print_mantissa mantissa ++ print_exponent power
print_float (hexadecimal_float letter mantissa power) =
    digit_zero ∷ letter ∷ print_mantissa mantissa ++ print_exponent power

abbrev pub is_float : Float → Bool
is_float (pointed_float ds fraction) = is_mantissa is_ascii_digit false (pointed ds fraction)
is_float (scaled_float mantissa power) =
    is_mantissa is_ascii_digit false mantissa && is_exponent false power
is_float (hexadecimal_float letter mantissa power) =
    (letter == 120 || letter == 88) && is_mantissa is_ascii_hexdigit true mantissa
    && is_exponent true power

-- imaginary_lit = (decimal_digits | int_lit | float_lit) "i"
pub data Imaginary : Type 0 where
  of_integer : Integer → Imaginary
  of_digits : List Digit → Imaginary
  of_float : Float → Imaginary

-- the literal without its "i"
abbrev pub print_part : Imaginary → List ℕ
print_part (of_integer part) = print_integer part
print_part (of_digits ds) = print_digits ds
print_part (of_float part) = print_float part

abbrev pub print_imaginary : Imaginary → List ℕ
print_imaginary part = print_part part ++ letter_i ∷ []

abbrev pub is_imaginary : Imaginary → Bool
is_imaginary (of_integer part) = is_integer part
is_imaginary (of_digits ds) = are_digits is_ascii_digit false ds
is_imaginary (of_float part) = is_float part
