-- The values of literals by their bytes are those of the trees that print to these bytes.
use Rattle.std.proofs.Common.{◌≡◌, ◌∙◌, ℕ, List, [], ◌∷◌, ◌≤◌, ◌+◌, ◌*◌, ◌&&◌, ◌||◌, ◌==◌, map}
use Rattle.std.proofs.Common.{Bool, true, false, refl, sym, ap, subst, arith, lit≤}
use Rattle.std.specs.Prelude.{Some, None, if◌then◌else◌, IsTrue}
use Rattle.std.specs.List.{list_all}
use Rattle.std.specs.Int.{is_in_range}
use Rattle.std.specs.Char.{digit_value, is_digit, is_ascii_digit, is_ascii_hexdigit}
use Rattle.std.proofs.lemmas.Bool.Decides.{nat_tests, Decides-eqb}
use Rattle.go_ast.specs.Characters.{underscore, digit_zero}
use Rattle.go_ast.specs.Numbers.{Digit, digit, separated, print_digits, is_digit_of, are_digits}
use Rattle.go_ast.specs.Numbers.{is_binary_digit, is_octal_digit, is_digit_after, is_prefix_letter}
use Rattle.go_ast.specs.Numbers.{Integer, lone_zero, decimal, octal, based, print_integer}
use Rattle.go_ast.specs.Numbers.{is_integer}
use Rattle.go_ast.specs.Texts.{value_after}
use Rattle.go_literals.specs.Literals.{plain_digit, base_of, integer_value, IsIntegerLiteral}
use Rattle.go_literals.specs.Reading.{read_digits, read_based, read_after_zero, read_integer}
use Rattle.go_literals.proofs.Options.{some_is}

pub both : (a b : Bool) → (a && b) ≡ true → (a ≡ true) × (b ≡ true)
both true b h = (refl, h)
both false b h = cc

pub nat_same : (a b : ℕ) → (a == b) ≡ true → a ≡ b
nat_same a b h = (Decides-eqb a b).0 h

octal_is : (b : ℕ) → is_octal_digit b ≡ is_digit b 8
octal_is b = grind (arith, nat_tests)

binary_is : (b : ℕ) → is_binary_digit b ≡ is_digit b 2
binary_is b = grind (arith, nat_tests)

decimal_is : (b : ℕ) → is_ascii_digit b ≡ is_digit b 10
decimal_is b = grind (arith, nat_tests)

hexadecimal_is : (b : ℕ) → is_ascii_hexdigit b ≡ is_digit b 16
hexadecimal_is b = grind (arith, nat_tests)

after_is : (letter b : ℕ) → is_digit_after letter b ≡ is_digit b (base_of letter)
after_is letter b = (elim (letter == 98 || letter == 66) as (λ t. (if t then is_binary_digit b
    else (if letter == 111 || letter == 79 then is_octal_digit b else is_ascii_hexdigit b))
    ≡ is_digit b (if t then 2 else (if letter == 111 || letter == 79 then 8 else 16))) [
      | true ↦ binary_is b
      | false ↦ (elim (letter == 111 || letter == 79) as
          (λ t. (if t then is_octal_digit b else is_ascii_hexdigit b) ≡ is_digit b
          (if t then 8 else 16)) [
            | true ↦ octal_is b
            | false ↦ hexadecimal_is b
          ])
    ])

low_base : (letter : ℕ) → base_of letter ≤ 16
low_base letter = grind arith

no_mark : (base b : ℕ) → base ≤ 16 → is_digit b base ≡ true → (b == underscore) ≡ false
no_mark base b low h = grind (arith, nat_tests)

module _ (base : ℕ) (low : base ≤ 16) (test : ℕ → Bool) (same : (b : ℕ)
    → test b ≡ is_digit b base) where
  digits_complete : (ds : List Digit) → list_all (is_digit_of test) ds ≡ true → (v : ℕ)
      → read_digits base false v (print_digits ds) ≡ Some (value_after base v (map plain_digit ds))
  digits_complete [] h v = refl
  digits_complete (digit d ∷ ds) h v =
      let p = both (test d) (list_all (is_digit_of test) ds) h in
      let t : is_digit d base ≡ true = sym (same d) ∙ p.0 in
      rw (no_mark base d low t, t) (digits_complete ds p.1 (v * base + digit_value d))
  digits_complete (separated d ∷ ds) h v =
      let p = both (test d) (list_all (is_digit_of test) ds) h in
      let t : is_digit d base ≡ true = sym (same d) ∙ p.0 in
      rw (no_mark base d low t, t) (digits_complete ds p.1 (v * base + digit_value d))

  record Digits (v : ℕ) (bytes : List ℕ) (n : ℕ) : Type 0 where
    digits : List Digit
    valid : list_all (is_digit_of test) digits ≡ true
    printed : print_digits digits ≡ bytes
    worth : value_after base v (map plain_digit digits) ≡ n

  record Marked (v : ℕ) (bytes : List ℕ) (n : ℕ) : Type 0 where
    first : ℕ
    others : List ℕ
    split : first ∷ others ≡ bytes
    tested : test first ≡ true
    rest : Digits (v * base + digit_value first) others n

  abbrev Reads : Bool → ℕ → List ℕ → ℕ → Type 0
  Reads true v bytes n = Marked v bytes n
  Reads false v bytes n = Digits v bytes n

  digits_sound : (bytes : List ℕ) (marked : Bool) (v n : ℕ)
      → read_digits base marked v bytes ≡ Some n → Reads marked v bytes n
  digits_sound [] true v n p = cc
  digits_sound [] false v n p = record {
    digits = [];
    valid = refl;
    printed = refl;
    worth =
        some_is v n p;
  }
  digits_sound (b ∷ bytes) true v n p =
      (elim (b == underscore) as
      (λ t. (if t then None else
      (if is_digit b base then read_digits base false (v * base + digit_value b) bytes else
      None)) ≡ Some n → Marked v (b ∷ bytes) n) [
        | true ↦ λ q. cc
        | false ↦ (elim (is_digit b base) as (λ t. is_digit b base ≡ t
            → (if t then read_digits base false (v * base + digit_value b) bytes else None) ≡ Some n
            → Marked v (b ∷ bytes) n) [
              | true ↦ λ e q. record {
                first = b;
                others = bytes;
                split = refl;
                tested = same b
                    ∙ e;
                rest = digits_sound bytes false (v * base + digit_value b) n q;
              }
              | false ↦ λ e q. cc
            ]) refl
      ]) p
  digits_sound (b ∷ bytes) false v n p =
      (elim (b == underscore) as (λ t. (b == underscore) ≡ t
      → (if t then read_digits base true v bytes else
      (if is_digit b base then read_digits base false (v * base + digit_value b) bytes else
      None)) ≡ Some n → Digits v (b ∷ bytes) n) [
        | true ↦ λ e q. let r = digits_sound bytes true v n q in record {
          digits = separated r.first ∷ r.rest.digits;
          valid = rw (r.tested, r.rest.valid) refl;
          printed = ap (λ t. underscore ∷ r.first ∷ t) r.rest.printed
              ∙ ap (λ t. underscore ∷ t) r.split
              ∙ ap (λ t. t ∷ bytes) (sym (nat_same b underscore e));
          worth = r.rest.worth;
        }
        | false ↦ λ d.
            (elim (is_digit b base) as (λ t. is_digit b base ≡ t
            → (if t then read_digits base false (v * base + digit_value b) bytes else None) ≡ Some n
            → Digits v (b ∷ bytes) n) [
              | true ↦ λ e q. let r = digits_sound bytes false (v * base + digit_value b) n q in
                  record {
                    digits = digit b ∷ r.digits;
                    valid = rw (same b ∙ e, r.valid) refl;
                    printed = ap (λ t. b ∷ t) r.printed;
                    worth = r.worth;
                  }
              | false ↦ λ e q. cc
            ]) refl
      ]) refl p

-- ---- integers

are_all : (base : ℕ → Bool) (ds : List Digit) → are_digits base true ds ≡ true
    → list_all (is_digit_of base) ds ≡ true
are_all base [] h = cc
are_all base (d ∷ ds) h = h

first_digit : (d : ℕ) → is_in_range 49 57 d ≡ true → (d == digit_zero) ≡ false
first_digit d h = grind (arith, nat_tests)

first_decimal : (d : ℕ) → is_in_range 49 57 d ≡ true → is_digit d 10 ≡ true
first_decimal d h = grind (arith, nat_tests)

-- an octal digit or a mark is no letter of a prefix
octal_no_prefix : (d : ℕ) → is_octal_digit d ≡ true → is_prefix_letter d ≡ false
octal_no_prefix d h = grind (arith, nat_tests)

pub integer_complete : (i : Integer) → IsTrue (is_integer i)
    → read_integer (print_integer i) ≡ Some (integer_value i)
integer_complete lone_zero h = refl
integer_complete (decimal d ds) h =
    let p = both (is_in_range 49 57 d) (list_all (is_digit_of is_ascii_digit) ds) h in
    let t : is_digit d 10 ≡ true = first_decimal d p.0 in
    rw (first_digit d p.0, p.0, no_mark 10 d (lit≤ tt) t, t)
    (digits_complete 10 (lit≤ tt) is_ascii_digit decimal_is ds p.1 (0 * 10 + digit_value d))
integer_complete (octal []) h = cc
integer_complete (octal (digit d ∷ ds)) h =
    let p = both (is_octal_digit d) (list_all (is_digit_of is_octal_digit) ds) h in
    rw (octal_no_prefix d p.0) (digits_complete 8 (lit≤ tt) is_octal_digit octal_is (digit d ∷ ds) h
    0)
integer_complete (octal (separated d ∷ ds)) h = digits_complete 8 (lit≤ tt) is_octal_digit octal_is
    (separated d ∷ ds) h 0
integer_complete (based letter []) h = let p = both (is_prefix_letter letter) false h in cc
integer_complete (based letter (digit d ∷ ds)) h =
    let p = both (is_prefix_letter letter)
    (list_all (is_digit_of (is_digit_after letter)) (digit d ∷ ds)) h in
    rw p.0 (digits_complete (base_of letter) (low_base letter) (is_digit_after letter)
    (after_is letter) (digit d ∷ ds) p.1 0)
integer_complete (based letter (separated d ∷ ds)) h =
    let p = both (is_prefix_letter letter)
    (list_all (is_digit_of (is_digit_after letter)) (separated d ∷ ds)) h in
    rw p.0 (digits_complete (base_of letter) (low_base letter) (is_digit_after letter)
    (after_is letter) (separated d ∷ ds) p.1 0)

some_digits : (test : ℕ → Bool) (ds : List Digit) (b : ℕ) (bytes : List ℕ)
    → print_digits ds ≡ b ∷ bytes
    → list_all (is_digit_of test) ds ≡ true → are_digits test true ds ≡ true
some_digits test [] b bytes e h = cc
some_digits test (d ∷ ds) b bytes e h = h

-- digits that begin with a plain one
begins_plain : (ds : List Digit) (b : ℕ) (bytes : List ℕ) → print_digits ds ≡ b ∷ bytes
    → (b == underscore) ≡ false
    → (es : List Digit) × (ds ≡ digit b ∷ es)
begins_plain [] b bytes e h = cc
begins_plain (digit d ∷ ds) b bytes e h = (ds, let q : d ≡ b = cc in ap (λ t. digit t ∷ ds) q)
begins_plain (separated d ∷ ds) b bytes e h = let q : underscore ≡ b = cc in let r :
    (b == underscore) ≡ true = rw (sym q) refl in cc

first_no_mark : (d : ℕ) → is_in_range 49 57 d ≡ true → (d == underscore) ≡ false
first_no_mark d h = grind (arith, nat_tests)

octal_sound : (b : ℕ) (bytes : List ℕ) (n : ℕ) → read_digits 8 false 0 (b ∷ bytes) ≡ Some n
    → IsIntegerLiteral (digit_zero ∷ b ∷ bytes) n
octal_sound b bytes n p =
    let r = digits_sound 8 (lit≤ tt) is_octal_digit octal_is (b ∷ bytes) false 0 n p in
    record {
      literal = octal r.digits;
      valid = some_digits is_octal_digit r.digits b bytes r.printed r.valid;
      printed = ap (λ t. digit_zero ∷ t) r.printed;
      worth = r.worth;
    }

based_sound : (letter : ℕ) (bytes : List ℕ) (n : ℕ) → is_prefix_letter letter ≡ true
    → read_based letter bytes ≡ Some n → IsIntegerLiteral (digit_zero ∷ letter ∷ bytes) n
based_sound letter [] n h p = cc
based_sound letter (b ∷ bytes) n h p =
    let r = digits_sound (base_of letter) (low_base letter) (is_digit_after letter)
    (after_is letter) (b ∷ bytes) false 0 n p in
    record {
      literal = based letter r.digits;
      valid = rw h (some_digits (is_digit_after letter) r.digits b bytes r.printed r.valid);
      printed = ap (λ t. digit_zero ∷ letter ∷ t) r.printed;
      worth = r.worth;
    }

decimal_sound : (b : ℕ) (bytes : List ℕ) (n : ℕ) → is_in_range 49 57 b ≡ true
    → read_digits 10 false 0 (b ∷ bytes) ≡ Some n → IsIntegerLiteral (b ∷ bytes) n
decimal_sound b bytes n h p =
    let r = digits_sound 10 (lit≤ tt) is_ascii_digit decimal_is (b ∷ bytes) false 0 n p in
    let s = begins_plain r.digits b bytes r.printed (first_no_mark b h) in
    let valid : list_all (is_digit_of is_ascii_digit) (digit b ∷ s.0) ≡ true =
    subst (λ t. list_all (is_digit_of is_ascii_digit) t ≡ true) s.1 r.valid in
    record {
      literal = decimal b s.0;
      valid = rw (h, (both (is_ascii_digit b) (list_all (is_digit_of is_ascii_digit) s.0) valid).1)
          refl;
      printed = subst (λ t. print_digits t ≡ b ∷ bytes) s.1 r.printed;
      worth = subst (λ t. value_after 10 0 (map plain_digit t) ≡ n) s.1 r.worth;
    }

zero_sound : (bytes : List ℕ) (n : ℕ) → read_after_zero bytes ≡ Some n
    → IsIntegerLiteral (digit_zero ∷ bytes) n
zero_sound [] n p = record {
  literal = lone_zero;
  valid = refl;
  printed = refl;
  worth =
      some_is 0 n p;
}
zero_sound (b ∷ bytes) n p = (elim (is_prefix_letter b) as (λ t. is_prefix_letter b ≡ t
    → (if t then read_based b bytes else read_digits 8 false 0 (b ∷ bytes)) ≡ Some n
    → IsIntegerLiteral (digit_zero ∷ b ∷ bytes) n) [
      | true ↦ λ e q. based_sound b bytes n e q
      | false ↦ λ e q. octal_sound b bytes n q
    ]) refl p

pub integer_sound : (bytes : List ℕ) (n : ℕ) → read_integer bytes ≡ Some n
    → IsIntegerLiteral bytes n
integer_sound [] n p = cc
integer_sound (b ∷ bytes) n p = (elim (b == digit_zero) as (λ t. (b == digit_zero) ≡ t
    → (if t then read_after_zero bytes else (if is_in_range 49 57 b then read_digits 10 false 0
    (b ∷ bytes) else None)) ≡ Some n → IsIntegerLiteral (b ∷ bytes) n) [
      | true ↦ λ e q. subst (λ t. IsIntegerLiteral (t ∷ bytes) n) (sym (nat_same b digit_zero e))
          (zero_sound bytes n q)
      | false ↦ λ d.
          (elim (is_in_range 49 57 b) as (λ t. is_in_range 49 57 b ≡ t
          → (if t then read_digits 10 false 0 (b ∷ bytes) else None) ≡ Some n
          → IsIntegerLiteral (b ∷ bytes) n) [
            | true ↦ λ e q. decimal_sound b bytes n e q
            | false ↦ λ e q. cc
          ]) refl
    ]) refl p
