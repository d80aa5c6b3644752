-- Digits, integers, mantissas and exponents: the bytes that the program takes for one are those
-- that one prints.
use Rattle.std.proofs.Common.{◌≡◌, ◌≢◌, ◌==◌, ℕ, suc, ◌+◌, ◌≤◌, ◌<◌, Bool, true, false, cond, not}
use Rattle.std.proofs.Common.{◌&&◌, ◌||◌, List, [], ◌∷◌, ◌++◌, length, take, drop, get_or, nat_le}
use Rattle.std.proofs.Common.{sym, ap, ◌∙◌, subst, refl, inl, inr, arith, length-append}
use Rattle.std.proofs.Common.{append_assoc}
use Rattle.std.specs.List.{list_all}
use Rattle.std.specs.Int.{is_in_range}
use Rattle.std.specs.Char.{is_ascii_digit}
use Rattle.std.proofs.lemmas.Bool.{and_parts, and_from, or_cases, or_right, eqb-true, eqb-false}
use Rattle.std.proofs.lemmas.Bool.{eq-eqb, ne_eqb, leb-true, not-true, cases_Bool, both_ways}
use Rattle.std.proofs.lemmas.Bool.{false≢true}
use Rattle.std.proofs.lemmas.List.{take_at, drop_at, nil_from_length}
use Rattle.std.proofs.lemmas.List.Sums.{prefix_len-le-length}
use Rattle.go_ast.specs.Characters.{full_stop, digit_zero, underscore}
use Rattle.go_ast.specs.Numbers.{is_octal_digit, is_prefix_letter, is_digit_after, Digit, digit}
use Rattle.go_ast.specs.Numbers.{separated, print_digits, is_digit_of, is_plain, are_digits}
use Rattle.go_ast.specs.Numbers.{Integer, lone_zero, decimal, octal, based, print_integer}
use Rattle.go_ast.specs.Numbers.{is_integer, Mantissa, whole, pointed, print_mantissa, is_mantissa}
use Rattle.go_ast.specs.Numbers.{is_absent, Sign, unsigned, plus, minus, print_sign, Exponent}
use Rattle.go_ast.specs.Numbers.{exponent, print_exponent, is_exponent_mark, is_exponent}
use Rattle.go_scanner.specs.NumberBytes.{are_separated, spells_digits, spells_after_zero}
use Rattle.go_scanner.specs.NumberBytes.{spells_integer, is_point, point_place, spells_mantissa}
use Rattle.go_scanner.specs.NumberBytes.{without_sign, spells_exponent}
use Rattle.go_literals.proofs.Lists.{by_if, around, place_until, place_whole, place_passes}
use Rattle.go_literals.proofs.Ascii.{by_table}
use Rattle.go_scanner.proofs.Standing.FirstBytes.{digit_below}

-- the bytes as digits, after a "_" or not
record Tail (base : ℕ → Bool) (bytes : List ℕ) : Type 0 where
  ds : List Digit
  valid : list_all (is_digit_of base) ds ≡ true
  printed : print_digits ds ≡ bytes

record Head (base : ℕ → Bool) (bytes : List ℕ) : Type 0 where
  d : ℕ
  ds : List Digit
  first : base d ≡ true
  valid : list_all (is_digit_of base) ds ≡ true
  printed : d ∷ print_digits ds ≡ bytes

abbrev Parts : (ℕ → Bool) → Bool → List ℕ → Type 0
Parts base false bytes = Tail base bytes
Parts base true bytes = Head base bytes

parts_of : (base : ℕ → Bool) (after_mark : Bool) (bytes : List ℕ)
    → are_separated base after_mark bytes ≡ true → Parts base after_mark bytes
parts_of base false [] h = record { ds = []; valid = refl; printed = refl }
parts_of base true [] h = absurd (false≢true h)
parts_of base false (b ∷ bytes) h = by_if (b == underscore) _ _ _ h
    (λ mark e.
    let head = parts_of base true bytes e in
    record {
      ds = separated head.d ∷ head.ds;
      valid = and_from (base head.d) (list_all (is_digit_of base) head.ds) head.first head.valid;
      printed = ap (λ l. underscore ∷ l) head.printed
          ∙ ap (λ x. x ∷ bytes) (sym (eqb-true b underscore mark));
    })
    (λ other e.
    let parts = and_parts (base b) (are_separated base false bytes) e in
    let tail = parts_of base false bytes parts.1 in
    record {
      ds = digit b ∷ tail.ds;
      valid = and_from (base b) (list_all (is_digit_of base) tail.ds) parts.0 tail.valid;
      printed = ap (λ l. b ∷ l) tail.printed;
    })
parts_of base true (b ∷ bytes) h = by_if (b == underscore) _ _ _ h
    (λ mark e. absurd (false≢true e))
    (λ other e.
    let parts = and_parts (base b) (are_separated base false bytes) e in
    let tail = parts_of base false bytes parts.1 in
    record {
      d = b;
      ds = tail.ds;
      first = parts.0;
      valid = tail.valid;
      printed =
          ap (λ l. b ∷ l) tail.printed;
    })

pub record DigitsOf (base : ℕ → Bool) (prefixed : Bool) (bytes : List ℕ) : Type 0 where
  pub ds : List Digit
  pub valid : are_digits base prefixed ds ≡ true
  pub printed : print_digits ds ≡ bytes

tail_digits : (base : ℕ → Bool) (b : ℕ) (bytes : List ℕ) (ds : List Digit)
    → list_all (is_digit_of base) ds ≡ true → print_digits ds ≡ b ∷ bytes
    → DigitsOf base true (b ∷ bytes)
tail_digits base b bytes [] valid printed = cc
tail_digits base b bytes (d ∷ ds) valid printed =
    record { ds = d ∷ ds; valid = valid; printed = printed }

pub digits_sound : (base : ℕ → Bool) (prefixed : Bool) (bytes : List ℕ)
    → spells_digits base prefixed bytes ≡ true → DigitsOf base prefixed bytes
digits_sound base prefixed [] h = absurd (false≢true h)
digits_sound base true (b ∷ bytes) h =
    let tail = parts_of base false (b ∷ bytes) h in
    tail_digits base b bytes tail.ds tail.valid tail.printed
digits_sound base false (b ∷ bytes) h =
    let head = parts_of base true (b ∷ bytes) h in
    record {
      ds = digit head.d ∷ head.ds;
      valid =
          and_from (base head.d) (list_all (is_digit_of base) head.ds) head.first head.valid;
      printed = head.printed;
    }

-- a base has no "_"
other_than_mark : (base : ℕ → Bool) → base underscore ≡ false → (d : ℕ) → base d ≡ true
    → (d == underscore) ≡ false
other_than_mark base none d h =
    ne_eqb d underscore (λ e. both_ways (base underscore) none (ap base (sym e) ∙ h))

separated_complete : (base : ℕ → Bool) → base underscore ≡ false → (ds : List Digit)
    → list_all (is_digit_of base) ds ≡ true → are_separated base false (print_digits ds) ≡ true
separated_complete base none [] h = refl
separated_complete base none (digit d ∷ ds) h =
    let parts = and_parts (base d) (list_all (is_digit_of base) ds) h in
    rw (other_than_mark base none d parts.0, parts.0) (separated_complete base none ds parts.1)
separated_complete base none (separated d ∷ ds) h =
    let parts = and_parts (base d) (list_all (is_digit_of base) ds) h in
    rw (other_than_mark base none d parts.0, parts.0) (separated_complete base none ds parts.1)

pub digits_complete : (base : ℕ → Bool) → base underscore ≡ false
    → (prefixed : Bool) (ds : List Digit) → are_digits base prefixed ds ≡ true
    → spells_digits base prefixed (print_digits ds) ≡ true
digits_complete base none prefixed [] h = absurd (false≢true h)
digits_complete base none true (digit d ∷ ds) h = separated_complete base none (digit d ∷ ds) h
digits_complete base none true (separated d ∷ ds) h =
    separated_complete base none (separated d ∷ ds) h
digits_complete base none false (separated d ∷ ds) h = absurd (false≢true h)
digits_complete base none false (digit d ∷ ds) h =
    let parts = and_parts (base d) (list_all (is_digit_of base) ds) h in
    rw (other_than_mark base none d parts.0, parts.0) (separated_complete base none ds parts.1)

-- what holds of "_" and of the digits of a base holds of all bytes that digits print
pub print_digits-all : (p base : ℕ → Bool) → p underscore ≡ true
    → ((d : ℕ) → base d ≡ true → p d ≡ true) → (ds : List Digit)
    → list_all (is_digit_of base) ds ≡ true → list_all p (print_digits ds) ≡ true
print_digits-all p base mark each [] h = refl
print_digits-all p base mark each (digit d ∷ ds) h =
    let parts = and_parts (base d) (list_all (is_digit_of base) ds) h in
    and_from (p d) (list_all p (print_digits ds)) (each d parts.0)
    (print_digits-all p base mark each ds parts.1)
print_digits-all p base mark each (separated d ∷ ds) h =
    let parts = and_parts (base d) (list_all (is_digit_of base) ds) h in
    and_from (p underscore) (p d && list_all p (print_digits ds)) mark
    (and_from (p d) (list_all p (print_digits ds)) (each d parts.0)
    (print_digits-all p base mark each ds parts.1))

pub all_of_digits : (base : ℕ → Bool) (prefixed : Bool) (ds : List Digit)
    → are_digits base prefixed ds ≡ true → list_all (is_digit_of base) ds ≡ true
all_of_digits base prefixed [] h = refl
all_of_digits base prefixed (d ∷ ds) h =
    (and_parts (prefixed || is_plain d) (list_all (is_digit_of base) (d ∷ ds)) h).1

-- integers
pub record IntegerOf (bytes : List ℕ) : Type 0 where
  pub literal : Integer
  pub valid : is_integer literal ≡ true
  pub printed : print_integer literal ≡ bytes

after_zero : (bytes : List ℕ) → spells_after_zero bytes ≡ true → IntegerOf (digit_zero ∷ bytes)
after_zero [] h = record { literal = lone_zero; valid = refl; printed = refl }
after_zero (b ∷ bytes) h = by_if (is_prefix_letter b) _ _ _ h
    (λ letter e.
    let digits = digits_sound (is_digit_after b) true bytes e in
    record {
      literal = based b digits.ds;
      valid =
          and_from (is_prefix_letter b) (are_digits (is_digit_after b) true digits.ds) letter
          digits.valid;
      printed = ap (λ l. digit_zero ∷ b ∷ l) digits.printed;
    })
    (λ other e.
    let digits = digits_sound is_octal_digit true (b ∷ bytes) e in
    record {
      literal = octal digits.ds;
      valid = digits.valid;
      printed =
          ap (λ l. digit_zero ∷ l) digits.printed;
    })

pub integer_sound : (bytes : List ℕ) → spells_integer bytes ≡ true → IntegerOf bytes
integer_sound [] h = absurd (false≢true h)
integer_sound (d ∷ bytes) h = by_if (d == digit_zero) _ _ _ h
    (λ same e. subst (λ x. IntegerOf (x ∷ bytes)) (sym (eqb-true d digit_zero same))
    (after_zero bytes e))
    (λ other e.
    let parts = and_parts (is_in_range 49 57 d) (are_separated is_ascii_digit false bytes) e in
    let tail = parts_of is_ascii_digit false bytes parts.1 in
    record {
      literal = decimal d tail.ds;
      valid =
          and_from (is_in_range 49 57 d) (list_all (is_digit_of is_ascii_digit) tail.ds) parts.0
          tail.valid;
      printed = ap (λ l. d ∷ l) tail.printed;
    })

range_bounds : (low high b : ℕ) → is_in_range low high b ≡ true → (low ≤ b) × (b ≤ high)
range_bounds low high b h = let parts = and_parts (nat_le low b) (nat_le b high) h in
    (leb-true low b parts.0, leb-true b high parts.1)

octal_no_letter : (d : ℕ) → is_octal_digit d ≡ true → is_prefix_letter d ≡ false
octal_no_letter d h =
    not-true (is_prefix_letter d)
    (by_table is_octal_digit (λ b. not (is_prefix_letter b)) refl d
    (omega (arith, (range_bounds 48 55 d h).1)) h)

octal_complete : (ds : List Digit) → are_digits is_octal_digit true ds ≡ true
    → spells_after_zero (print_digits ds) ≡ true
octal_complete [] h = absurd (false≢true h)
octal_complete (digit d ∷ ds) h =
    let parts = and_parts (is_octal_digit d) (list_all (is_digit_of is_octal_digit) ds) h in
    rw (octal_no_letter d parts.0) (digits_complete is_octal_digit refl true (digit d ∷ ds) h)
octal_complete (separated d ∷ ds) h = digits_complete is_octal_digit refl true (separated d ∷ ds) h

no_mark_after : (letter : ℕ) → is_digit_after letter underscore ≡ false
no_mark_after letter = elim (cases_Bool (letter == 98 || letter == 66)) [
  | inl two ↦ rw two refl
  | inr other ↦ elim (cases_Bool (letter == 111 || letter == 79)) [
    | inl eight ↦ rw (other, eight) refl
    | inr more ↦ rw (other, more) refl
  ]
]

pub integer_complete : (literal : Integer) → is_integer literal ≡ true
    → spells_integer (print_integer literal) ≡ true
integer_complete lone_zero h = refl
integer_complete (decimal d ds) h =
    let parts = and_parts (is_in_range 49 57 d) (list_all (is_digit_of is_ascii_digit) ds) h in
    let other : (d == digit_zero) ≡ false =
    ne_eqb d digit_zero (λ e. omega (arith, (range_bounds 49 57 d parts.0).0)) in
    rw (other, parts.0) (separated_complete is_ascii_digit refl ds parts.1)
integer_complete (octal ds) h = octal_complete ds h
integer_complete (based letter ds) h =
    let parts =
    and_parts (is_prefix_letter letter) (are_digits (is_digit_after letter) true ds) h in
    rw parts.0 (digits_complete (is_digit_after letter) (no_mark_after letter) true ds parts.1)

-- mantissas
pub record MantissaOf (base : ℕ → Bool) (prefixed : Bool) (bytes : List ℕ) : Type 0 where
  pub mantissa : Mantissa
  pub valid : is_mantissa base prefixed mantissa ≡ true
  pub printed : print_mantissa mantissa ≡ bytes

abbrev not_point : ℕ → Bool
not_point b = not (is_point b)

-- the bytes with a point at a place
mantissa_at : (base : ℕ → Bool) (prefixed : Bool) (bytes : List ℕ) (n : ℕ) → point_place bytes ≡ n
    → spells_mantissa base prefixed bytes ≡ cond (n == length bytes)
    (spells_digits base prefixed bytes)
    (cond (n == 0) (spells_digits base false (drop (n + 1) bytes))
    (spells_digits base prefixed (take n bytes)
    && (length (drop (n + 1) bytes) == 0 || spells_digits base false (drop (n + 1) bytes))))
mantissa_at base prefixed bytes n place = rw place refl

point_split : (bytes : List ℕ) → point_place bytes < length bytes
    → bytes ≡ take (point_place bytes) bytes ++ full_stop ∷ drop (point_place bytes + 1) bytes
point_split bytes within =
    around (point_place bytes) bytes within
    ∙ ap (λ x. take (point_place bytes) bytes ++ x ∷ drop (point_place bytes + 1) bytes)
    (eqb-true (get_or bytes (point_place bytes) 0) full_stop (place_passes is_point bytes within))

absent_or : (base : ℕ → Bool) (bytes : List ℕ)
    → (length bytes == 0 || spells_digits base false bytes) ≡ true
    → (ds : List Digit) × ((is_absent ds || are_digits base false ds) ≡ true)
    × (print_digits ds ≡ bytes)
absent_or base bytes h = elim (or_cases (length bytes == 0) (spells_digits base false bytes) h) [
  | inl none ↦ ([], refl, sym (nil_from_length bytes (eqb-true (length bytes) 0 none)))
  | inr some ↦
      let digits = digits_sound base false bytes some in (
        digits.ds,
        or_right (is_absent digits.ds) (are_digits base false digits.ds) digits.valid,
        digits.printed,
      )
]

pointed_of : (base : ℕ → Bool) (prefixed : Bool) (bytes front : List ℕ) (ds fraction : List Digit)
    → are_digits base prefixed ds ≡ true → (is_absent fraction || are_digits base false fraction)
    ≡ true
    → print_digits ds ≡ front → print_digits fraction ≡ bytes
    → MantissaOf base prefixed (front ++ full_stop ∷ bytes)
pointed_of base prefixed bytes front [] fraction valid may printed is = absurd (false≢true valid)
pointed_of base prefixed bytes front (d ∷ ds) fraction valid may printed is = record {
  mantissa = pointed (d ∷ ds) fraction;
  valid =
      and_from (are_digits base prefixed (d ∷ ds))
      (is_absent fraction || are_digits base false fraction) valid may;
  printed = ap (λ l. l ++ full_stop ∷ print_digits fraction) printed
      ∙ ap (λ l. front ++ full_stop ∷ l) is;
}

pub mantissa_sound : (base : ℕ → Bool) (prefixed : Bool) (bytes : List ℕ)
    → spells_mantissa base prefixed bytes ≡ true → MantissaOf base prefixed bytes
mantissa_sound base prefixed bytes h =
    let n = point_place bytes in
    let fraction = drop (n + 1) bytes in
    let high : n ≤ length bytes = prefix_len-le-length (λ b. not (is_point b)) bytes in
    by_if (n == length bytes) _ _ _ h
    (λ all e. let digits = digits_sound base prefixed bytes e in
    record { mantissa = whole digits.ds; valid = digits.valid; printed = digits.printed })
    (λ some e.
    let unlike : n ≢ length bytes = eqb-false n (length bytes) some in
    let split = point_split bytes (omega arith) in
    by_if (n == 0) _ _ _ e
    (λ none e.
    let digits = digits_sound base false fraction e in
    let front : take n bytes ≡ [] = ap (λ k. take k bytes) (eqb-true n 0 none) in
    record {
      mantissa = pointed [] digits.ds;
      valid = digits.valid;
      printed = ap (λ l. full_stop ∷ l) digits.printed
          ∙ sym (split ∙ ap (λ l. l ++ full_stop ∷ fraction) front);
    })
    (λ front e.
    let parts =
    and_parts (spells_digits base prefixed (take n bytes))
    (length fraction == 0 || spells_digits base false fraction) e in
    let digits = digits_sound base prefixed (take n bytes) parts.0 in
    let more = absent_or base fraction parts.1 in
    subst (MantissaOf base prefixed) (sym split)
    (pointed_of base prefixed fraction (take n bytes) digits.ds more.0 digits.valid more.1
    digits.printed more.2)))

length-print_digits : (d : Digit) (ds : List Digit) → 0 < length (print_digits (d ∷ ds))
length-print_digits (digit d) ds = omega arith
length-print_digits (separated d) ds = omega arith

may_complete : (base : ℕ → Bool) → base underscore ≡ false → (ds : List Digit)
    → (is_absent ds || are_digits base false ds) ≡ true
    → (length (print_digits ds) == 0 || spells_digits base false (print_digits ds)) ≡ true
may_complete base none [] h = refl
may_complete base none (d ∷ ds) h =
    or_right (length (print_digits (d ∷ ds)) == 0)
    (spells_digits base false (print_digits (d ∷ ds))) (digits_complete base none false (d ∷ ds) h)

-- what stands after a front and one element
pub drop_past : (x : ℕ) (front tail : List ℕ) → drop (length front + 1) (front ++ x ∷ tail) ≡ tail
drop_past x front tail =
    ap (drop (length front + 1)) (sym (append_assoc front (x ∷ []) tail))
    ∙ drop_at (front ++ x ∷ []) tail (length front + 1) (length-append front (x ∷ []))

-- a base has neither "_" nor a point
module _ (base : ℕ → Bool) (none : base underscore ≡ false)
    (no_point : base full_stop ≡ false) where
  digit_no_point : (d : ℕ) → base d ≡ true → not_point d ≡ true
  digit_no_point d h =
      ap not (ne_eqb d full_stop (λ e. both_ways (base full_stop) no_point (ap base (sym e) ∙ h)))

  digits_no_point : (prefixed : Bool) (ds : List Digit) → are_digits base prefixed ds ≡ true
      → list_all not_point (print_digits ds) ≡ true
  digits_no_point prefixed ds h =
      print_digits-all not_point base refl digit_no_point ds (all_of_digits base prefixed ds h)

  pub mantissa_complete : (prefixed : Bool) (mantissa : Mantissa)
      → is_mantissa base prefixed mantissa ≡ true
      → spells_mantissa base prefixed (print_mantissa mantissa) ≡ true
  mantissa_complete prefixed (whole ds) h =
      let bytes = print_digits ds in
      let place = place_whole is_point bytes (digits_no_point prefixed ds h) in
      let all : (length bytes == length bytes) ≡ true = eq-eqb (length bytes) (length bytes) refl in
      mantissa_at base prefixed bytes (length bytes) place
      ∙ rw all (digits_complete base none prefixed ds h)
  mantissa_complete prefixed (pointed [] fraction) h =
      let bytes = full_stop ∷ print_digits fraction in
      let some : (0 == length bytes) ≡ false = ne_eqb 0 (length bytes) (λ e. omega arith) in
      mantissa_at base prefixed bytes 0 refl ∙ rw some (digits_complete base none false fraction h)
  mantissa_complete prefixed (pointed (d ∷ ds) fraction) h =
      let front = print_digits (d ∷ ds) in
      let tail = print_digits fraction in
      let bytes = front ++ full_stop ∷ tail in
      let n = length front in
      let parts =
      and_parts (are_digits base prefixed (d ∷ ds))
      (is_absent fraction || are_digits base false fraction) h in
      let place : point_place bytes ≡ n =
      place_until is_point front full_stop tail (digits_no_point prefixed (d ∷ ds) parts.0)
      refl in
      let long : length bytes ≡ n + suc (length tail) = length-append front (full_stop ∷ tail) in
      let some : (n == length bytes) ≡ false = ne_eqb n (length bytes) (λ e. omega arith) in
      let first : (n == 0) ≡ false = ne_eqb n 0 (λ e. omega (arith, length-print_digits d ds)) in
      let taken : take n bytes ≡ front = take_at front (full_stop ∷ tail) n refl in
      let past : drop (n + 1) bytes ≡ tail = drop_past full_stop front tail in
      mantissa_at base prefixed bytes n place
      ∙ rw (some, first, taken, past)
      (and_from (spells_digits base prefixed front)
      (length tail == 0 || spells_digits base false tail)
      (digits_complete base none prefixed (d ∷ ds) parts.0)
      (may_complete base none fraction parts.1))

-- exponents
pub record ExponentOf (hexadecimal : Bool) (bytes : List ℕ) : Type 0 where
  pub power : Exponent
  pub valid : is_exponent hexadecimal power ≡ true
  pub printed : print_exponent power ≡ bytes

signed_of : (hexadecimal : Bool) (letter : ℕ) (sign : Sign) (bytes : List ℕ)
    → is_exponent_mark hexadecimal letter ≡ true → spells_digits is_ascii_digit false bytes ≡ true
    → ExponentOf hexadecimal (letter ∷ print_sign sign ++ bytes)
signed_of hexadecimal letter sign bytes mark h =
    let digits = digits_sound is_ascii_digit false bytes h in
    record {
      power = exponent letter sign digits.ds;
      valid =
          and_from (is_exponent_mark hexadecimal letter) (are_digits is_ascii_digit false digits.ds)
          mark digits.valid;
      printed = ap (λ l. letter ∷ print_sign sign ++ l) digits.printed;
    }

pub exponent_sound : (hexadecimal : Bool) (letter : ℕ) (bytes : List ℕ)
    → is_exponent_mark hexadecimal letter ≡ true → spells_exponent (letter ∷ bytes) ≡ true
    → ExponentOf hexadecimal (letter ∷ bytes)
exponent_sound hexadecimal letter [] mark h = absurd (false≢true h)
exponent_sound hexadecimal letter (b ∷ bytes) mark h = elim (cases_Bool (b == 43 || b == 45)) [
  | inl some ↦
      let same : without_sign (b ∷ bytes) ≡ bytes = rw some refl in
      let digits = ap (spells_digits is_ascii_digit false) (sym same) ∙ h in
      elim (or_cases (b == 43) (b == 45) some) [
        | inl add ↦
            subst (λ x. ExponentOf hexadecimal (letter ∷ x ∷ bytes)) (sym (eqb-true b 43 add))
            (signed_of hexadecimal letter plus bytes mark digits)
        | inr less ↦
            subst (λ x. ExponentOf hexadecimal (letter ∷ x ∷ bytes)) (sym (eqb-true b 45 less))
            (signed_of hexadecimal letter minus bytes mark digits)
      ]
  | inr none ↦
      let same : without_sign (b ∷ bytes) ≡ b ∷ bytes = rw none refl in
      signed_of hexadecimal letter unsigned (b ∷ bytes) mark
      (ap (spells_digits is_ascii_digit false) (sym same) ∙ h)
]

digit_no_sign : (d : ℕ) → is_ascii_digit d ≡ true → (d == 43 || d == 45) ≡ false
digit_no_sign d h =
    not-true (d == 43 || d == 45)
    (by_table is_ascii_digit (λ b. not (b == 43 || b == 45)) refl d (digit_below d h) h)

without_sign-digits : (ds : List Digit) → are_digits is_ascii_digit false ds ≡ true
    → without_sign (print_digits ds) ≡ print_digits ds
without_sign-digits [] h = absurd (false≢true h)
without_sign-digits (digit d ∷ ds) h = let parts =
    and_parts (is_ascii_digit d) (list_all (is_digit_of is_ascii_digit) ds) h in
    rw (digit_no_sign d parts.0) refl
without_sign-digits (separated d ∷ ds) h = absurd (false≢true h)

pub exponent_complete : (hexadecimal : Bool) (power : Exponent)
    → is_exponent hexadecimal power ≡ true → spells_exponent (print_exponent power) ≡ true
exponent_complete hexadecimal (exponent letter unsigned ds) h =
    let parts =
    and_parts (is_exponent_mark hexadecimal letter) (are_digits is_ascii_digit false ds) h in
    ap (spells_digits is_ascii_digit false) (without_sign-digits ds parts.1)
    ∙ digits_complete is_ascii_digit refl false ds parts.1
exponent_complete hexadecimal (exponent letter plus ds) h =
    digits_complete is_ascii_digit refl false ds
    (and_parts (is_exponent_mark hexadecimal letter) (are_digits is_ascii_digit false ds) h).1
exponent_complete hexadecimal (exponent letter minus ds) h =
    digits_complete is_ascii_digit refl false ds
    (and_parts (is_exponent_mark hexadecimal letter) (are_digits is_ascii_digit false ds) h).1
