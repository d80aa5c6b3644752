-- Floats, imaginaries and the kind of a number: the program and the definition give the same
-- answers.
use Rattle.std.proofs.Common.{◌≡◌, ◌==◌, ℕ, ◌+◌, ◌<◌, Bool, true, false, cond, not, ◌&&◌}
use Rattle.std.proofs.Common.{◌||◌, List, [], ◌∷◌, ◌++◌, length, take, drop, get_or, nat_eq}
use Rattle.std.proofs.Common.{nat_lt, nat_le, Some, None, codes, sym, ap, ◌∙◌, subst, refl, inl}
use Rattle.std.proofs.Common.{inr, arith, length-append}
use Rattle.std.specs.List.{list_all, list_any, position_or_len, starts_with}
use Rattle.std.specs.Int.{is_in_range}
use Rattle.std.specs.Char.{is_ascii_digit, is_ascii_hexdigit}
use Rattle.std.proofs.lemmas.Bool.{and_parts, and_from, and_right, or_cases, or_left, or_right}
use Rattle.std.proofs.lemmas.Bool.{or_parts, eqb-true, eqb-false, eq-eqb, ne_eqb, lt-ltb, le-ltb}
use Rattle.std.proofs.lemmas.Bool.{leb-true, agree_below, not-true, cases_Bool, cases_lt}
use Rattle.std.proofs.lemmas.Bool.{both_ways, false≢true}
use Rattle.std.proofs.lemmas.Bool.Decides.{Decides-eqb}
use Rattle.std.proofs.lemmas.Slice.Eq.{starts_is}
use Rattle.std.proofs.lemmas.List.{take_at, drop_at, drop_all, take_all, drop_more}
use Rattle.go_ast.specs.declared.token.TokenKind.{TokenKind}
use Rattle.go_ast.specs.declared.token.TokenKind.TheVariants.{Int, Float as FloatKind}
use Rattle.go_ast.specs.declared.token.TokenKind.TheVariants.{Imaginary as ImaginaryKind}
use Rattle.go_ast.specs.Characters.{full_stop, digit_zero, underscore, letter_i}
use Rattle.go_ast.specs.Numbers.{is_binary_digit, is_octal_digit, is_prefix_letter, is_digit_after}
use Rattle.go_ast.specs.Numbers.{Digit, print_digits, is_digit_of, are_digits, Integer, lone_zero}
use Rattle.go_ast.specs.Numbers.{decimal, octal, based, print_integer, is_integer, Mantissa, whole}
use Rattle.go_ast.specs.Numbers.{pointed, print_mantissa, is_mantissa, is_absent, Sign, unsigned}
use Rattle.go_ast.specs.Numbers.{plus, minus, print_sign, Exponent, exponent, print_exponent}
use Rattle.go_ast.specs.Numbers.{is_exponent_mark, is_exponent, Float, pointed_float, scaled_float}
use Rattle.go_ast.specs.Numbers.{hexadecimal_float, print_float, is_float, Imaginary, of_integer}
use Rattle.go_ast.specs.Numbers.{of_digits, of_float, print_part, print_imaginary, is_imaginary}
use Rattle.go_ast.specs.Lexical.{Spelling, integer, float, imaginary, print_spelling, IsSpelling}
use Rattle.go_ast.specs.Lexical.{is_number, is_hexadecimal}
use Rattle.go_ast.specs.Reading.{kind_of}
use Rattle.go_scanner.specs.NumberBytes.{spells_digits, spells_integer, is_point, spells_mantissa}
use Rattle.go_scanner.specs.NumberBytes.{spells_exponent, exponent_place, spells_decimal_float}
use Rattle.go_scanner.specs.NumberBytes.{spells_hexadecimal_float, spells_float, spells_part}
use Rattle.go_scanner.specs.NumberBytes.{is_letter_i, number_kind}
use Rattle.go_literals.proofs.Lists.{by_if, around, place_until, place_whole, place_passes}
use Rattle.go_literals.proofs.Lists.{split_at}
use Rattle.go_literals.proofs.Ascii.{implies, by_table, hexadecimal_below}
use Rattle.go_scanner.proofs.Standing.FirstBytes.{digit_below}
use Rattle.go_scanner.proofs.Standing.Digits.{digits_sound, digits_complete, print_digits-all}
use Rattle.go_scanner.proofs.Standing.Digits.{all_of_digits, integer_sound, integer_complete}
use Rattle.go_scanner.proofs.Standing.Digits.{mantissa_sound, mantissa_complete, exponent_sound}
use Rattle.go_scanner.proofs.Standing.Digits.{exponent_complete}

-- a test that holds of all bytes of two lists holds of all bytes of both
list_all-append : (p : ℕ → Bool) (xs ys : List ℕ) → list_all p xs ≡ true → list_all p ys ≡ true
    → list_all p (xs ++ ys) ≡ true
list_all-append p [] ys f g = g
list_all-append p (x ∷ xs) ys f g =
    let parts = and_parts (p x) (list_all p xs) f in
    and_from (p x) (list_all p (xs ++ ys)) parts.0 (list_all-append p xs ys parts.1 g)

any_none : (p : ℕ → Bool) (xs : List ℕ) → list_all (λ x. not (p x)) xs ≡ true
    → list_any p xs ≡ false
any_none p [] h = refl
any_none p (x ∷ xs) h =
    let parts = and_parts (not (p x)) (list_all (λ x. not (p x)) xs) h in
    rw (not-true (p x) parts.0) (any_none p xs parts.1)

any_in : (p : ℕ → Bool) (front : List ℕ) (x : ℕ) (rest : List ℕ) → p x ≡ true
    → list_any p (front ++ x ∷ rest) ≡ true
any_in p [] x rest h = rw h refl
any_in p (y ∷ front) x rest h =
    or_right (p y) (list_any p (front ++ x ∷ rest)) (any_in p front x rest h)

-- a test that holds of what digits of each base, points, letters and signs are
module _ (p : ℕ → Bool) (mark : p underscore ≡ true) (point : p full_stop ≡ true)
    (zero_digit : p digit_zero ≡ true) (add : p 43 ≡ true) (less : p 45 ≡ true) where
  digits_all : (base : ℕ → Bool) → ((d : ℕ) → base d ≡ true → p d ≡ true)
      → (prefixed : Bool) (ds : List Digit) → are_digits base prefixed ds ≡ true
      → list_all p (print_digits ds) ≡ true
  digits_all base each prefixed ds h =
      print_digits-all p base mark each ds (all_of_digits base prefixed ds h)

  absent_all : (base : ℕ → Bool) → ((d : ℕ) → base d ≡ true → p d ≡ true) → (ds : List Digit)
      → (is_absent ds || are_digits base false ds) ≡ true → list_all p (print_digits ds) ≡ true
  absent_all base each [] h = refl
  absent_all base each (d ∷ ds) h = digits_all base each false (d ∷ ds) h

  mantissa_all : (base : ℕ → Bool) → ((d : ℕ) → base d ≡ true → p d ≡ true)
      → (prefixed : Bool) (mantissa : Mantissa) → is_mantissa base prefixed mantissa ≡ true
      → list_all p (print_mantissa mantissa) ≡ true
  mantissa_all base each prefixed (whole ds) h = digits_all base each prefixed ds h
  mantissa_all base each prefixed (pointed [] fraction) h =
      and_from (p full_stop) (list_all p (print_digits fraction)) point
      (digits_all base each false fraction h)
  mantissa_all base each prefixed (pointed (d ∷ ds) fraction) h =
      let parts =
      and_parts (are_digits base prefixed (d ∷ ds))
      (is_absent fraction || are_digits base false fraction) h in
      list_all-append p (print_digits (d ∷ ds)) (full_stop ∷ print_digits fraction)
      (digits_all base each prefixed (d ∷ ds) parts.0)
      (and_from (p full_stop) (list_all p (print_digits fraction)) point
      (absent_all base each fraction parts.1))

  sign_all : (sign : Sign) → list_all p (print_sign sign) ≡ true
  sign_all unsigned = refl
  sign_all plus = and_from (p 43) true add refl
  sign_all minus = and_from (p 45) true less refl

  exponent_all : (hexadecimal : Bool)
      → ((b : ℕ) → is_exponent_mark hexadecimal b ≡ true → p b ≡ true)
      → ((d : ℕ) → is_ascii_digit d ≡ true → p d ≡ true)
      → (power : Exponent) → is_exponent hexadecimal power ≡ true
      → list_all p (print_exponent power) ≡ true
  exponent_all hexadecimal letters each (exponent letter sign ds) h =
      let parts =
      and_parts (is_exponent_mark hexadecimal letter) (are_digits is_ascii_digit false ds) h in
      and_from (p letter) (list_all p (print_sign sign ++ print_digits ds)) (letters letter parts.0)
      (list_all-append p (print_sign sign) (print_digits ds) (sign_all sign)
      (digits_all is_ascii_digit each false ds parts.1))

abbrev not_exponent : Bool → ℕ → Bool
not_exponent hexadecimal b = not (is_exponent_mark hexadecimal b)

abbrev not_point : ℕ → Bool
not_point b = not (is_point b)

abbrev not_x : ℕ → Bool
not_x b = not (b == 120 || b == 88)

abbrev not_i : ℕ → Bool
not_i b = not (is_letter_i b)

-- what holds of each byte of a table holds of a byte among them
among_bytes : (test : ℕ → Bool) (table : List ℕ) (b : ℕ) → list_all test table ≡ true
    → list_any (nat_eq b) table ≡ true → test b ≡ true
among_bytes test [] b all h = absurd (false≢true h)
among_bytes test (x ∷ xs) b all h =
    let parts = and_parts (test x) (list_all test xs) all in
    elim (or_cases (nat_eq b x) (list_any (nat_eq b) xs) h) [
      | inl e ↦ ap test (eqb-true b x e) ∙ parts.0
      | inr e ↦ among_bytes test xs b parts.1 e
    ]

from_decimal : (p : ℕ → Bool) → agree_below (implies is_ascii_digit p) (λ _. true) 128 ≡ true
    → (d : ℕ) → is_ascii_digit d ≡ true → p d ≡ true
from_decimal p table d h = by_table is_ascii_digit p table d (digit_below d h) h

from_hexadecimal : (p : ℕ → Bool) → agree_below (implies is_ascii_hexdigit p) (λ _. true) 128 ≡ true
    → (d : ℕ) → is_ascii_hexdigit d ≡ true → p d ≡ true
from_hexadecimal p table d h = by_table is_ascii_hexdigit p table d (hexadecimal_below d h) h

octal_below : (d : ℕ) → is_octal_digit d ≡ true → d < 128
octal_below d h = omega (arith, leb-true d 55 (and_parts (nat_le 48 d) (nat_le d 55) h).1)

binary_below : (d : ℕ) → is_binary_digit d ≡ true → d < 128
binary_below d h = omega (arith, leb-true d 49 (and_parts (nat_le 48 d) (nat_le d 49) h).1)

octal_decimal : (d : ℕ) → is_octal_digit d ≡ true → is_ascii_digit d ≡ true
octal_decimal d h = by_table is_octal_digit is_ascii_digit refl d (octal_below d h) h

binary_decimal : (d : ℕ) → is_binary_digit d ≡ true → is_ascii_digit d ≡ true
binary_decimal d h = by_table is_binary_digit is_ascii_digit refl d (binary_below d h) h

decimal_hexadecimal : (d : ℕ) → is_ascii_digit d ≡ true → is_ascii_hexdigit d ≡ true
decimal_hexadecimal d h = from_decimal is_ascii_hexdigit refl d h

first_decimal : (d : ℕ) → is_in_range 49 57 d ≡ true → is_ascii_digit d ≡ true
first_decimal d h =
    by_table (is_in_range 49 57) is_ascii_digit refl d
    (omega (arith, leb-true d 57 (and_parts (nat_le 49 d) (nat_le d 57) h).1)) h

abbrev is_x : ℕ → Bool
is_x b = b == 120 || b == 88

-- the digits after a prefix are hexadecimal ones, and decimal ones where the letter is never x
module _ (letter : ℕ) where
  after_hexadecimal : (d : ℕ) → is_digit_after letter d ≡ true → is_ascii_hexdigit d ≡ true
  after_hexadecimal d h = by_if (letter == 98 || letter == 66) _ _ _ h
      (λ two e. decimal_hexadecimal d (binary_decimal d e))
      (λ other e. by_if (letter == 111 || letter == 79) _ _ _ e
      (λ eight e. decimal_hexadecimal d (octal_decimal d e))
      (λ more e. e))

  no_letter : (letter == 98 || letter == 66) ≡ false → (letter == 111 || letter == 79) ≡ false
      → is_x letter ≡ false → is_prefix_letter letter ≡ false
  no_letter two eight x =
      let a = or_parts (letter == 98) (letter == 66) two in
      let b = or_parts (letter == 111) (letter == 79) eight in
      let c = or_parts (letter == 120) (letter == 88) x in
      rw (a.0, a.1, b.0, b.1, c.0, c.1) refl

  after_decimal : is_prefix_letter letter ≡ true → is_x letter ≡ false → (d : ℕ)
      → is_digit_after letter d ≡ true → is_ascii_digit d ≡ true
  after_decimal prefix x d h = elim (cases_Bool (letter == 98 || letter == 66)) [
    | inl two ↦ binary_decimal d (rw two at h)
    | inr other ↦ elim (cases_Bool (letter == 111 || letter == 79)) [
      | inl eight ↦ octal_decimal d (rw (other, eight) at h)
      | inr more ↦ absurd (both_ways (is_prefix_letter letter) (no_letter other more x) prefix)
    ]
  ]

-- a test that holds of what an integer is printed by
module _ (p : ℕ → Bool) (mark : p underscore ≡ true)
    (each : (d : ℕ) → is_ascii_digit d ≡ true → p d ≡ true) where
  tail_all : (base : ℕ → Bool) → ((d : ℕ) → base d ≡ true → p d ≡ true) → (ds : List Digit)
      → list_all (is_digit_of base) ds ≡ true → list_all p (print_digits ds) ≡ true
  tail_all base sure ds h = print_digits-all p base mark sure ds h

  -- but for hexadecimal ones
  plain_all : list_all (λ b. is_x b || p b) (codes "bBoOxX") ≡ true → (literal : Integer)
      → is_integer literal ≡ true
      → ((letter : ℕ) (ds : List Digit) → literal ≡ based letter ds → is_x letter ≡ false)
      → list_all p (print_integer literal) ≡ true
  plain_all table lone_zero h x = and_from (p digit_zero) true (each digit_zero refl) refl
  plain_all table (decimal d ds) h x =
      let parts = and_parts (is_in_range 49 57 d) (list_all (is_digit_of is_ascii_digit) ds) h in
      and_from (p d) (list_all p (print_digits ds)) (each d (first_decimal d parts.0))
      (tail_all is_ascii_digit each ds parts.1)
  plain_all table (octal ds) h x =
      and_from (p digit_zero) (list_all p (print_digits ds)) (each digit_zero refl)
      (tail_all is_octal_digit (λ d e. each d (octal_decimal d e)) ds
      (all_of_digits is_octal_digit true ds h))
  plain_all table (based letter ds) h x =
      let parts =
      and_parts (is_prefix_letter letter) (are_digits (is_digit_after letter) true ds) h in
      let other = x letter ds refl in
      let here : (is_x letter || p letter) ≡ true =
      among_bytes (λ b. is_x b || p b) (codes "bBoOxX") letter table parts.0 in
      let sure : p letter ≡ true = sym (ap (λ t. t || p letter) other) ∙ here in
      and_from (p digit_zero) (p letter && list_all p (print_digits ds)) (each digit_zero refl)
      (and_from (p letter) (list_all p (print_digits ds)) sure
      (tail_all (is_digit_after letter) (λ d e. each d (after_decimal letter parts.0 other d e)) ds
      (all_of_digits (is_digit_after letter) true ds parts.1)))

-- an integer has never "i"
integer_no_i : (literal : Integer) → is_integer literal ≡ true
    → list_all not_i (print_integer literal) ≡ true
integer_no_i lone_zero h = refl
integer_no_i (decimal d ds) h =
    plain_all not_i refl (from_decimal not_i refl) refl (decimal d ds) h (λ letter ds e. cc)
integer_no_i (octal ds) h =
    plain_all not_i refl (from_decimal not_i refl) refl (octal ds) h (λ letter ds e. cc)
integer_no_i (based letter ds) h =
    let parts =
    and_parts (is_prefix_letter letter) (are_digits (is_digit_after letter) true ds) h in
    and_from (not_i letter) (list_all not_i (print_digits ds))
    (among_bytes not_i (codes "bBoOxX") letter refl parts.0)
    (print_digits-all not_i (is_digit_after letter) refl
    (λ d e. from_hexadecimal not_i refl d (after_hexadecimal letter d e)) ds
    (all_of_digits (is_digit_after letter) true ds parts.1))

-- floats
no_prefix : (bytes : List ℕ) → list_all not_x bytes ≡ true → is_hexadecimal bytes ≡ false
no_prefix [] h = refl
no_prefix (a ∷ []) h = rw (and_right (nat_eq 48 a) false refl) refl
no_prefix (a ∷ b ∷ rest) h =
    let other =
    not-true (is_x b)
    (and_parts (not_x b) (list_all not_x rest)
    (and_parts (not_x a) (not_x b && list_all not_x rest) h).1).0 in
    let parts = or_parts (b == 120) (b == 88) other in
    let small : nat_eq 120 b ≡ false = ne_eqb 120 b (λ e. eqb-false b 120 parts.0 (sym e)) in
    let large : nat_eq 88 b ≡ false = ne_eqb 88 b (λ e. eqb-false b 88 parts.1 (sym e)) in
    rw (small, large, and_right (nat_eq 48 a) false refl) refl

prefix_hexadecimal : (letter : ℕ) (rest : List ℕ) → is_x letter ≡ true
    → is_hexadecimal (digit_zero ∷ letter ∷ rest) ≡ true
prefix_hexadecimal letter rest x = elim (or_cases (letter == 120) (letter == 88) x) [
  | inl small ↦ ap (λ l. is_hexadecimal (digit_zero ∷ l ∷ rest)) (eqb-true letter 120 small)
  | inr large ↦ ap (λ l. is_hexadecimal (digit_zero ∷ l ∷ rest)) (eqb-true letter 88 large)
]

decimal_at : (bytes : List ℕ) (n : ℕ) → exponent_place false bytes ≡ n
    → spells_decimal_float bytes
    ≡ (spells_mantissa is_ascii_digit false (take n bytes)
    && cond (n == length bytes) (list_any is_point bytes) (spells_exponent (drop n bytes)))
decimal_at bytes n place = rw place refl

pub hexadecimal_at : (bytes : List ℕ) (n : ℕ) → exponent_place true bytes ≡ n
    → spells_hexadecimal_float bytes
    ≡ (spells_mantissa is_ascii_hexdigit true (take n bytes) && spells_exponent (drop n bytes))
hexadecimal_at bytes n place = rw place refl

decimal_mantissa : (p : ℕ → Bool) → p underscore ≡ true → p full_stop ≡ true → p digit_zero ≡ true
    → p 43 ≡ true → p 45 ≡ true → ((d : ℕ) → is_ascii_digit d ≡ true → p d ≡ true)
    → (mantissa : Mantissa) → is_mantissa is_ascii_digit false mantissa ≡ true
    → list_all p (print_mantissa mantissa) ≡ true
decimal_mantissa p mark point zero_digit add less each mantissa h =
    mantissa_all p mark point zero_digit add less is_ascii_digit each false mantissa h

mantissa_no_exponent : (mantissa : Mantissa) → is_mantissa is_ascii_digit false mantissa ≡ true
    → list_all (not_exponent false) (print_mantissa mantissa) ≡ true
mantissa_no_exponent mantissa h =
    decimal_mantissa (not_exponent false) refl refl refl refl refl
    (from_decimal (not_exponent false) refl) mantissa h

pointed_complete : (ds fraction : List Digit)
    → is_mantissa is_ascii_digit false (pointed ds fraction) ≡ true
    → spells_decimal_float (print_mantissa (pointed ds fraction)) ≡ true
pointed_complete ds fraction h =
    let bytes = print_mantissa (pointed ds fraction) in
    let place =
    place_whole (is_exponent_mark false) bytes (mantissa_no_exponent (pointed ds fraction) h) in
    let all : (length bytes == length bytes) ≡ true = eq-eqb (length bytes) (length bytes) refl in
    let taken : take (length bytes) bytes ≡ bytes = take_all (length bytes) bytes (omega arith) in
    decimal_at bytes (length bytes) place
    ∙ rw (all, taken)
    (and_from (spells_mantissa is_ascii_digit false bytes) (list_any is_point bytes)
    (mantissa_complete is_ascii_digit refl refl false (pointed ds fraction) h)
    (any_in is_point (print_digits ds) full_stop (print_digits fraction) refl))

first_letter : (hexadecimal : Bool) (power : Exponent) → is_exponent hexadecimal power ≡ true
    → (letter : ℕ) × (rest : List ℕ) × (print_exponent power ≡ letter ∷ rest)
    × (is_exponent_mark hexadecimal letter ≡ true)
first_letter hexadecimal (exponent letter sign ds) h = (
  letter,
  print_sign sign ++ print_digits ds,
  refl,
  (and_parts (is_exponent_mark hexadecimal letter) (are_digits is_ascii_digit false ds) h).0,
)

-- the exponent begins where the mantissa ends
exponent_after : (hexadecimal : Bool) (front : List ℕ) (power : Exponent)
    → list_all (not_exponent hexadecimal) front ≡ true → is_exponent hexadecimal power ≡ true
    → (exponent_place hexadecimal (front ++ print_exponent power) ≡ length front)
    × (length front < length (front ++ print_exponent power))
exponent_after hexadecimal front power none h =
    let first = first_letter hexadecimal power h in
    let same : front ++ print_exponent power ≡ front ++ first.0 ∷ first.1 =
    ap (λ l. front ++ l) first.2 in (
      ap (exponent_place hexadecimal) same
          ∙ place_until (is_exponent_mark hexadecimal) front first.0 first.1 none first.3,
      omega (arith, ap length same, length-append front (first.0 ∷ first.1)),
    )

scaled_complete : (mantissa : Mantissa) (power : Exponent)
    → is_mantissa is_ascii_digit false mantissa ≡ true → is_exponent false power ≡ true
    → spells_decimal_float (print_mantissa mantissa ++ print_exponent power) ≡ true
scaled_complete mantissa power m e =
    let front = print_mantissa mantissa in
    let bytes = front ++ print_exponent power in
    let n = length front in
    let place = exponent_after false front power (mantissa_no_exponent mantissa m) e in
    let some : (n == length bytes) ≡ false =
    ne_eqb n (length bytes) (λ same. omega (arith, place.1)) in
    let taken : take n bytes ≡ front = take_at front (print_exponent power) n refl in
    let past : drop n bytes ≡ print_exponent power = drop_at front (print_exponent power) n refl in
    decimal_at bytes n place.0
    ∙ rw (some, taken, past)
    (and_from (spells_mantissa is_ascii_digit false front) (spells_exponent (print_exponent power))
    (mantissa_complete is_ascii_digit refl refl false mantissa m) (exponent_complete false power e))

hexadecimal_complete : (mantissa : Mantissa) (power : Exponent)
    → is_mantissa is_ascii_hexdigit true mantissa ≡ true → is_exponent true power ≡ true
    → spells_hexadecimal_float (print_mantissa mantissa ++ print_exponent power) ≡ true
hexadecimal_complete mantissa power m e =
    let front = print_mantissa mantissa in
    let bytes = front ++ print_exponent power in
    let n = length front in
    let none =
    mantissa_all (not_exponent true) refl refl refl refl refl is_ascii_hexdigit
    (from_hexadecimal (not_exponent true) refl) true mantissa m in
    let place = exponent_after true front power none e in
    let taken : take n bytes ≡ front = take_at front (print_exponent power) n refl in
    let past : drop n bytes ≡ print_exponent power = drop_at front (print_exponent power) n refl in
    hexadecimal_at bytes n place.0
    ∙ rw (taken, past)
    (and_from (spells_mantissa is_ascii_hexdigit true front)
    (spells_exponent (print_exponent power))
    (mantissa_complete is_ascii_hexdigit refl refl true mantissa m)
    (exponent_complete true power e))

decimal_letter : (p : ℕ → Bool) → p 101 ≡ true → p 69 ≡ true → (b : ℕ)
    → is_exponent_mark false b ≡ true → p b ≡ true
decimal_letter p small large b h = elim (or_cases (b == 101) (b == 69) h) [
  | inl e ↦ ap p (eqb-true b 101 e) ∙ small
  | inr e ↦ ap p (eqb-true b 69 e) ∙ large
]

hexadecimal_letter : (p : ℕ → Bool) → p 112 ≡ true → p 80 ≡ true → (b : ℕ)
    → is_exponent_mark true b ≡ true → p b ≡ true
hexadecimal_letter p small large b h = elim (or_cases (b == 112) (b == 80) h) [
  | inl e ↦ ap p (eqb-true b 112 e) ∙ small
  | inr e ↦ ap p (eqb-true b 80 e) ∙ large
]

decimal_float : (bytes : List ℕ) → list_all not_x bytes ≡ true
    → spells_float bytes ≡ spells_decimal_float bytes
decimal_float bytes none = let d = no_prefix bytes none in rw d refl

pub float_complete : (literal : Float) → is_float literal ≡ true
    → spells_float (print_float literal) ≡ true
float_complete (pointed_float ds fraction) h =
    decimal_float (print_mantissa (pointed ds fraction))
    (decimal_mantissa not_x refl refl refl refl refl (from_decimal not_x refl)
    (pointed ds fraction) h)
    ∙ pointed_complete ds fraction h
float_complete (scaled_float mantissa power) h =
    let parts = and_parts (is_mantissa is_ascii_digit false mantissa) (is_exponent false power) h in
    decimal_float (print_mantissa mantissa ++ print_exponent power)
    (list_all-append not_x (print_mantissa mantissa) (print_exponent power)
    (decimal_mantissa not_x refl refl refl refl refl (from_decimal not_x refl) mantissa parts.0)
    (exponent_all not_x refl refl refl refl refl false (decimal_letter not_x refl refl)
    (from_decimal not_x refl) power parts.1))
    ∙ scaled_complete mantissa power parts.0 parts.1
float_complete (hexadecimal_float letter mantissa power) h =
    let both =
    and_parts (is_x letter && is_mantissa is_ascii_hexdigit true mantissa)
    (is_exponent true power) h in
    let parts = and_parts (is_x letter) (is_mantissa is_ascii_hexdigit true mantissa) both.0 in
    let prefix =
    prefix_hexadecimal letter (print_mantissa mantissa ++ print_exponent power) parts.0 in
    rw prefix (hexadecimal_complete mantissa power parts.1 both.1)

-- a float has never "i"
float_no_i : (literal : Float) → is_float literal ≡ true
    → list_all not_i (print_float literal) ≡ true
float_no_i (pointed_float ds fraction) h =
    decimal_mantissa not_i refl refl refl refl refl (from_decimal not_i refl)
    (pointed ds fraction) h
float_no_i (scaled_float mantissa power) h =
    let parts = and_parts (is_mantissa is_ascii_digit false mantissa) (is_exponent false power) h in
    list_all-append not_i (print_mantissa mantissa) (print_exponent power)
    (decimal_mantissa not_i refl refl refl refl refl (from_decimal not_i refl) mantissa parts.0)
    (exponent_all not_i refl refl refl refl refl false (decimal_letter not_i refl refl)
    (from_decimal not_i refl) power parts.1)
float_no_i (hexadecimal_float letter mantissa power) h =
    let both =
    and_parts (is_x letter && is_mantissa is_ascii_hexdigit true mantissa)
    (is_exponent true power) h in
    let parts = and_parts (is_x letter) (is_mantissa is_ascii_hexdigit true mantissa) both.0 in
    let x : not_i letter ≡ true = elim (or_cases (letter == 120) (letter == 88) parts.0) [
      | inl e ↦ ap not_i (eqb-true letter 120 e)
      | inr e ↦ ap not_i (eqb-true letter 88 e)
    ] in
    and_from (not_i letter) (list_all not_i (print_mantissa mantissa ++ print_exponent power)) x
    (list_all-append not_i (print_mantissa mantissa) (print_exponent power)
    (mantissa_all not_i refl refl refl refl refl is_ascii_hexdigit
    (from_hexadecimal not_i refl) true mantissa parts.1)
    (exponent_all not_i refl refl refl refl refl true (hexadecimal_letter not_i refl refl)
    (from_decimal not_i refl) power both.1))

pub record FloatOf (bytes : List ℕ) : Type 0 where
  pub literal : Float
  pub valid : is_float literal ≡ true
  pub printed : print_float literal ≡ bytes

-- where a letter marks an exponent, the bytes stand round it
exponent_split : (hexadecimal : Bool) (bytes : List ℕ)
    → exponent_place hexadecimal bytes < length bytes
    → (letter : ℕ)
    × (drop (exponent_place hexadecimal bytes) bytes ≡ letter
    ∷ drop (exponent_place hexadecimal bytes + 1) bytes)
    × (is_exponent_mark hexadecimal letter ≡ true)
exponent_split hexadecimal bytes within =
    let n = exponent_place hexadecimal bytes in (
      get_or bytes n 0,
      drop_more bytes n 0 within,
      place_passes (is_exponent_mark hexadecimal) bytes within,
    )

exponent_of : (hexadecimal : Bool) (bytes : List ℕ)
    → spells_exponent (drop (exponent_place hexadecimal bytes) bytes) ≡ true
    → (power : Exponent) × (is_exponent hexadecimal power ≡ true)
    × (print_exponent power ≡ drop (exponent_place hexadecimal bytes) bytes)
exponent_of hexadecimal bytes h =
    let n = exponent_place hexadecimal bytes in
    elim (cases_lt n (length bytes)) [
      | inl within ↦
          let split = exponent_split hexadecimal bytes within in
          let found =
          exponent_sound hexadecimal split.0 (drop (n + 1) bytes) split.2
          (sym (ap spells_exponent split.1) ∙ h) in
          (found.power, found.valid, found.printed ∙ sym split.1)
      | inr past ↦ absurd (false≢true (sym (ap spells_exponent (drop_all n bytes past)) ∙ h))
    ]

whole_or_pointed : (bytes : List ℕ) (mantissa : Mantissa)
    → is_mantissa is_ascii_digit false mantissa ≡ true → print_mantissa mantissa ≡ bytes
    → list_any is_point bytes ≡ true → FloatOf bytes
whole_or_pointed bytes (pointed ds fraction) h printed point =
    record { literal = pointed_float ds fraction; valid = h; printed = printed }
whole_or_pointed bytes (whole ds) h printed point =
    let none =
    any_none is_point (print_digits ds)
    (print_digits-all not_point is_ascii_digit refl (from_decimal not_point refl) ds
    (all_of_digits is_ascii_digit false ds h)) in
    absurd (both_ways (list_any is_point bytes) (ap (list_any is_point) (sym printed) ∙ none) point)

decimal_sound : (bytes : List ℕ) → spells_decimal_float bytes ≡ true → FloatOf bytes
decimal_sound bytes h =
    let n = exponent_place false bytes in
    let parts =
    and_parts (spells_mantissa is_ascii_digit false (take n bytes))
    (cond (n == length bytes) (list_any is_point bytes) (spells_exponent (drop n bytes))) h in
    let m = mantissa_sound is_ascii_digit false (take n bytes) parts.0 in
    by_if (n == length bytes) _ _ _ parts.1
    (λ all e.
    let taken : take n bytes ≡ bytes = ap (λ k. take k bytes) (eqb-true n (length bytes) all)
    ∙ take_all (length bytes) bytes (omega arith) in
    whole_or_pointed bytes m.mantissa m.valid (m.printed ∙ taken) e)
    (λ some e.
    let power = exponent_of false bytes e in
    record {
      literal = scaled_float m.mantissa power.0;
      valid =
          and_from (is_mantissa is_ascii_digit false m.mantissa) (is_exponent false power.0) m.valid
          power.1;
      printed = ap (λ l. l ++ print_exponent power.0) m.printed
          ∙ ap (λ l. take n bytes ++ l) power.2 ∙ sym (split_at n bytes);
    })

hexadecimal_sound : (letter : ℕ) (bytes : List ℕ) → is_x letter ≡ true
    → spells_hexadecimal_float bytes ≡ true → FloatOf (digit_zero ∷ letter ∷ bytes)
hexadecimal_sound letter bytes x h =
    let n = exponent_place true bytes in
    let parts =
    and_parts (spells_mantissa is_ascii_hexdigit true (take n bytes))
    (spells_exponent (drop n bytes)) h in
    let m = mantissa_sound is_ascii_hexdigit true (take n bytes) parts.0 in
    let power = exponent_of true bytes parts.1 in
    record {
      literal = hexadecimal_float letter m.mantissa power.0;
      valid =
          and_from (is_x letter && is_mantissa is_ascii_hexdigit true m.mantissa)
          (is_exponent true power.0)
          (and_from (is_x letter) (is_mantissa is_ascii_hexdigit true m.mantissa) x m.valid)
          power.1;
      printed =
          ap (λ l. digit_zero ∷ letter ∷ l) (ap (λ l. l ++ print_exponent power.0) m.printed
          ∙ ap (λ l. take n bytes ++ l) power.2 ∙ sym (split_at n bytes));
    }

begins_split : (bytes front : List ℕ) → starts_with nat_eq bytes front ≡ true
    → bytes ≡ front ++ drop (length front) bytes
begins_split bytes front h =
    (starts_is Decides-eqb bytes front (starts_with nat_eq bytes front) refl).0 h

pub float_sound : (bytes : List ℕ) → spells_float bytes ≡ true → FloatOf bytes
float_sound bytes h = by_if (is_hexadecimal bytes) _ _ _ h
    (λ prefix e. elim
    (or_cases (starts_with nat_eq bytes (codes "0x")) (starts_with nat_eq bytes (codes "0X"))
    prefix) [
      | inl small ↦
          subst FloatOf (sym (begins_split bytes (codes "0x") small))
          (hexadecimal_sound 120 (drop 2 bytes) refl e)
      | inr large ↦
          subst FloatOf (sym (begins_split bytes (codes "0X") large))
          (hexadecimal_sound 88 (drop 2 bytes) refl e)
    ])
    (λ none e. decimal_sound bytes e)

-- never integer is a float
plain_no_float : (bytes : List ℕ) → list_all not_x bytes ≡ true
    → list_all (not_exponent false) bytes ≡ true → list_all not_point bytes ≡ true
    → spells_float bytes ≡ false
plain_no_float bytes x mark point =
    let n = length bytes in
    let all : (n == n) ≡ true = eq-eqb n n refl in
    decimal_float bytes x ∙ decimal_at bytes n (place_whole (is_exponent_mark false) bytes mark)
    ∙ rw (all, any_none is_point bytes point)
    (and_right (spells_mantissa is_ascii_digit false (take n bytes)) false refl)

integer_plain : (literal : Integer) → is_integer literal ≡ true
    → ((letter : ℕ) (ds : List Digit) → literal ≡ based letter ds → is_x letter ≡ false)
    → spells_float (print_integer literal) ≡ false
integer_plain literal h x = plain_no_float (print_integer literal)
    (plain_all not_x refl (from_decimal not_x refl) refl literal h x)
    (plain_all (not_exponent false) refl (from_decimal (not_exponent false) refl) refl literal h x)
    (plain_all not_point refl (from_decimal not_point refl) refl literal h x)

integer_no_float : (literal : Integer) → is_integer literal ≡ true
    → spells_float (print_integer literal) ≡ false
integer_no_float lone_zero h = refl
integer_no_float (decimal d ds) h = integer_plain (decimal d ds) h (λ letter ds e. cc)
integer_no_float (octal ds) h = integer_plain (octal ds) h (λ letter ds e. cc)
integer_no_float (based letter ds) h = elim (cases_Bool (is_x letter)) [
  | inl x ↦
      let bytes = print_digits ds in
      let parts =
      and_parts (is_prefix_letter letter) (are_digits (is_digit_after letter) true ds) h in
      let none =
      print_digits-all (not_exponent true) (is_digit_after letter) refl
      (λ d e. from_hexadecimal (not_exponent true) refl d (after_hexadecimal letter d e)) ds
      (all_of_digits (is_digit_after letter) true ds parts.1) in
      let prefix = prefix_hexadecimal letter bytes x in
      let past : drop (length bytes) bytes ≡ [] = drop_all (length bytes) bytes (omega arith) in
      rw prefix
      (hexadecimal_at bytes (length bytes) (place_whole (is_exponent_mark true) bytes none)
      ∙ rw past
      (and_right (spells_mantissa is_ascii_hexdigit true (take (length bytes) bytes)) false
      refl))
  | inr other ↦
      integer_plain (based letter ds) h (λ l es e. let same : letter ≡ l = cc in
      ap is_x (sym same) ∙ other)
]

float_no_integer : (literal : Float) → is_float literal ≡ true
    → spells_integer (print_float literal) ≡ false
float_no_integer literal h = elim (cases_Bool (spells_integer (print_float literal))) [
  | inr never ↦ never
  | inl sure ↦
      let found = integer_sound (print_float literal) sure in
      absurd (false≢true (sym (integer_no_float found.literal found.valid)
      ∙ ap spells_float found.printed ∙ float_complete literal h))
]

-- the kind of a number by the place of its "i"
kind_at : (bytes : List ℕ) (n : ℕ) → position_or_len is_letter_i bytes ≡ n
    → number_kind bytes ≡ cond (nat_lt n (length bytes))
    (cond ((n + 1 == length bytes) && spells_part (take n bytes)) (Some ImaginaryKind) None)
    (cond (spells_integer bytes) (Some Int) (cond (spells_float bytes) (Some FloatKind) None))
unfolding number_kind
kind_at bytes n place = rw place refl

kind_real : (bytes : List ℕ) → list_all not_i bytes ≡ true
    → number_kind bytes ≡ cond (spells_integer bytes) (Some Int)
    (cond (spells_float bytes) (Some FloatKind) None)
kind_real bytes none =
    let past : nat_lt (length bytes) (length bytes) ≡ false =
    le-ltb (length bytes) (length bytes) (omega arith) in
    kind_at bytes (length bytes) (place_whole is_letter_i bytes none) ∙ rw past refl

integer_kind : (literal : Integer) → is_integer literal ≡ true
    → number_kind (print_integer literal) ≡ Some Int
integer_kind literal h =
    let sure = integer_complete literal h in
    kind_real (print_integer literal) (integer_no_i literal h) ∙ rw sure refl

float_kind : (literal : Float) → is_float literal ≡ true
    → number_kind (print_float literal) ≡ Some FloatKind
float_kind literal h =
    let never = float_no_integer literal h in
    let sure = float_complete literal h in
    kind_real (print_float literal) (float_no_i literal h) ∙ rw (never, sure) refl

part_no_i : (literal : Imaginary) → is_imaginary literal ≡ true
    → list_all not_i (print_part literal) ≡ true
part_no_i (of_integer part) h = integer_no_i part h
part_no_i (of_digits ds) h =
    print_digits-all not_i is_ascii_digit refl (from_decimal not_i refl) ds
    (all_of_digits is_ascii_digit false ds h)
part_no_i (of_float part) h = float_no_i part h

part_complete : (literal : Imaginary) → is_imaginary literal ≡ true
    → spells_part (print_part literal) ≡ true
part_complete (of_integer part) h =
    let bytes = print_integer part in
    or_left (spells_integer bytes || spells_digits is_ascii_digit false bytes) (spells_float bytes)
    (or_left (spells_integer bytes) (spells_digits is_ascii_digit false bytes)
    (integer_complete part h))
part_complete (of_digits ds) h =
    let bytes = print_digits ds in
    or_left (spells_integer bytes || spells_digits is_ascii_digit false bytes) (spells_float bytes)
    (or_right (spells_integer bytes) (spells_digits is_ascii_digit false bytes)
    (digits_complete is_ascii_digit refl false ds h))
part_complete (of_float part) h =
    let bytes = print_float part in
    or_right (spells_integer bytes || spells_digits is_ascii_digit false bytes) (spells_float bytes)
    (float_complete part h)

imaginary_kind : (literal : Imaginary) → is_imaginary literal ≡ true
    → number_kind (print_imaginary literal) ≡ Some ImaginaryKind
imaginary_kind literal h =
    let front = print_part literal in
    let bytes = front ++ letter_i ∷ [] in
    let n = length front in
    let long : length bytes ≡ n + 1 = length-append front (letter_i ∷ []) in
    let place = place_until is_letter_i front letter_i [] (part_no_i literal h) refl in
    let some : nat_lt n (length bytes) ≡ true = lt-ltb n (length bytes) (omega arith) in
    let last : (n + 1 == length bytes) ≡ true = eq-eqb (n + 1) (length bytes) (sym long) in
    let taken : take n bytes ≡ front = take_at front (letter_i ∷ []) n refl in
    let sure = part_complete literal h in
    kind_at bytes n place ∙ rw (some, last, taken, sure) refl

pub number_complete : (spelling : Spelling) → IsSpelling spelling → is_number spelling ≡ true
    → number_kind (print_spelling spelling) ≡ Some (kind_of spelling)
number_complete (integer literal) h n = integer_kind literal h
number_complete (float literal) h n = float_kind literal h
number_complete (imaginary literal) h n = imaginary_kind literal h
number_complete _ h n = absurd (false≢true n)

-- a number of this kind that prints the bytes
pub record NumberAs (bytes : List ℕ) (kind : TokenKind) : Type 0 where
  pub spelling : Spelling
  pub valid : IsSpelling spelling
  pub number : is_number spelling ≡ true
  pub printed : print_spelling spelling ≡ bytes
  pub same : kind_of spelling ≡ kind

part_sound : (bytes : List ℕ) → spells_part bytes ≡ true → (literal : Imaginary)
    × (is_imaginary literal ≡ true) × (print_part literal ≡ bytes)
part_sound bytes h =
    elim (or_cases (spells_integer bytes || spells_digits is_ascii_digit false bytes)
    (spells_float bytes) h) [
      | inl two ↦
          elim (or_cases (spells_integer bytes) (spells_digits is_ascii_digit false bytes) two) [
            | inl one ↦ let found = integer_sound bytes one in
                (of_integer found.literal, found.valid, found.printed)
            | inr some ↦ let found = digits_sound is_ascii_digit false bytes some in
                (of_digits found.ds, found.valid, found.printed)
          ]
      | inr real ↦ let found = float_sound bytes real in
          (of_float found.literal, found.valid, found.printed)
    ]

imaginary_sound : (bytes : List ℕ) (n : ℕ) → position_or_len is_letter_i bytes ≡ n
    → n + 1 ≡ length bytes → spells_part (take n bytes) ≡ true → NumberAs bytes ImaginaryKind
imaginary_sound bytes n place last h =
    let found = part_sound (take n bytes) h in
    let within : n < length bytes = omega arith in
    let here : get_or bytes n 0 ≡ letter_i =
    ap (λ k. get_or bytes k 0) (sym place)
    ∙ eqb-true (get_or bytes (position_or_len is_letter_i bytes) 0) letter_i
    (place_passes is_letter_i bytes (omega arith)) in
    let ended : drop (n + 1) bytes ≡ [] = drop_all (n + 1) bytes (omega arith) in
    let split : bytes ≡ take n bytes ++ letter_i ∷ [] =
    around n bytes within ∙ ap (λ x. take n bytes ++ x ∷ drop (n + 1) bytes) here
    ∙ ap (λ l. take n bytes ++ letter_i ∷ l) ended in
    record {
      spelling = imaginary found.0;
      valid = found.1;
      number = refl;
      printed = ap (λ l. l ++ letter_i ∷ []) found.2 ∙ sym split;
      same = refl;
    }

pub number_sound : (bytes : List ℕ) (kind : TokenKind) → number_kind bytes ≡ Some kind
    → NumberAs bytes kind
unfolding number_kind
number_sound bytes kind h =
    let n = position_or_len is_letter_i bytes in
    by_if (nat_lt n (length bytes)) _ _ _ h
    (λ within e. by_if ((n + 1 == length bytes) && spells_part (take n bytes)) _ _ _ e
    (λ sure e.
    let parts = and_parts (n + 1 == length bytes) (spells_part (take n bytes)) sure in
    let same : ImaginaryKind ≡ kind = cc in
    subst (NumberAs bytes) same
    (imaginary_sound bytes n refl (eqb-true (n + 1) (length bytes) parts.0) parts.1))
    (λ never e. cc))
    (λ past e. by_if (spells_integer bytes) _ _ _ e
    (λ sure e.
    let found = integer_sound bytes sure in
    record {
      spelling = integer found.literal;
      valid = found.valid;
      number = refl;
      printed =
          found.printed;
      same = cc;
    })
    (λ never e. by_if (spells_float bytes) _ _ _ e
    (λ sure e.
    let found = float_sound bytes sure in
    record {
      spelling = float found.literal;
      valid = found.valid;
      number = refl;
      printed =
          found.printed;
      same = cc;
    })
    (λ none e. cc)))
