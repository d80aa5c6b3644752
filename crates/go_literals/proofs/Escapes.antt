-- Escapes: the program and the definition find the same.
use Rattle.std.proofs.Common.{◌≡◌, ◌==◌, ℕ, suc, ◌+◌, ◌<◌, Bool, true, false, cond, not, ◌&&◌}
use Rattle.std.proofs.Common.{◌||◌, List, [], ◌∷◌, ◌++◌, length, take, drop, nat_eq, nat_lt}
use Rattle.std.proofs.Common.{nat_le, codes, IsUtf8, sym, ap, ◌∙◌, subst, refl, inl, inr, arith}
use Rattle.std.specs.List.{list_all, list_any}
use Rattle.std.specs.Char.{is_ascii_hexdigit}
use Rattle.std.proofs.lemmas.Bool.{and_parts, and_from, or_cases, eqb-true, lt-ltb, ltb-true}
use Rattle.std.proofs.lemmas.Bool.{not-true, leb-true, cases_Bool, false≢true}
use Rattle.std.proofs.lemmas.List.{take_at}
use Rattle.std.proofs.lemmas.Str.{IsUtf8-encode}
use Rattle.go_ast.specs.Characters.{backslash, double_quote, single_quote}
use Rattle.go_ast.specs.Numbers.{is_octal_digit}
use Rattle.go_ast.specs.Texts.{Element, character, escape, octal_escape, hexadecimal_escape}
use Rattle.go_ast.specs.Texts.{print_element, is_unquoted, is_escape_mark, value_of}
use Rattle.go_ast.specs.Texts.{is_octal_escape, is_scalar, is_coded, is_hexadecimal_escape}
use Rattle.go_ast.specs.Texts.{is_element}
use Rattle.go_literals.specs.Extents.{coded_length, escape_length}
use Rattle.go_literals.proofs.Lists.{by_if, is_ascii, ascii_utf8, split_at}
use Rattle.go_literals.proofs.Lists.{list_all-weaker}
use Rattle.go_literals.proofs.Ascii.{by_table, hexadecimal_below}
use Rattle.go_literals.proofs.Characters.{scalar_one}

-- the quotes of runes and texts
abbrev pub is_quote : ℕ → Bool
is_quote quote = quote == single_quote || quote == double_quote

module _ (P : ℕ → Type 0) (quote : ℕ) where
  pub by_quote : is_quote quote ≡ true → P single_quote → P double_quote → P quote
  by_quote h one two = elim (or_cases (quote == single_quote) (quote == double_quote) h) [
    | inl e ↦ subst P (sym (eqb-true quote single_quote e)) one
    | inr e ↦ subst P (sym (eqb-true quote double_quote e)) two
  ]

-- an escape has a tail after its "\"
abbrev pub escape_tail : Element → List ℕ
escape_tail (character c) = []
escape_tail (escape mark) = mark ∷ []
escape_tail (octal_escape digits) = digits
escape_tail (hexadecimal_escape letter digits) = letter ∷ digits

abbrev pub is_escape : Element → Bool
is_escape (character c) = false
is_escape (escape mark) = true
is_escape (octal_escape digits) = true
is_escape (hexadecimal_escape letter digits) = true

pub print_escape : (element : Element) → is_escape element ≡ true
    → print_element element ≡ backslash ∷ escape_tail element
print_escape (character c) h = absurd (false≢true h)
print_escape (escape mark) h = refl
print_escape (octal_escape digits) h = refl
print_escape (hexadecimal_escape letter digits) h = refl

octal_below : (d : ℕ) → is_octal_digit d ≡ true → d < 128
octal_below d h = omega (arith, leb-true d 55 (and_parts (nat_le 48 d) (nat_le d 55) h).1)

-- the byte after "\" where an octal escape begins
abbrev begins_octal : ℕ → ℕ → Bool
begins_octal quote b = not (is_escape_mark quote b) && not (b == 120) && not (b == 117)
    && not (b == 85)

octal_begins : (quote : ℕ) → is_quote quote ≡ true → (d : ℕ) → is_octal_digit d ≡ true
    → begins_octal quote d ≡ true
octal_begins quote q d h = by_quote (λ quote. begins_octal quote d ≡ true) quote q
    (by_table is_octal_digit (begins_octal single_quote) refl d (octal_below d h) h)
    (by_table is_octal_digit (begins_octal double_quote) refl d (octal_below d h) h)

octal_at : (quote b : ℕ) (bytes : List ℕ) → begins_octal quote b ≡ true
    → escape_length quote (b ∷ bytes) ≡ cond (is_octal_escape (take 3 (b ∷ bytes))) 3 0
octal_at quote b bytes h =
    let one =
    and_parts (not (is_escape_mark quote b) && not (b == 120) && not (b == 117))
    (not (b == 85)) h in
    let two = and_parts (not (is_escape_mark quote b) && not (b == 120)) (not (b == 117)) one.0 in
    let three = and_parts (not (is_escape_mark quote b)) (not (b == 120)) two.0 in
    let m = not-true (is_escape_mark quote b) three.0 in
    let x = not-true (b == 120) three.1 in
    let u = not-true (b == 117) two.1 in
    let w = not-true (b == 85) one.1 in
    rw (m, x, u, w) refl

octal_found : (quote : ℕ) (digits rest : List ℕ) → is_quote quote ≡ true
    → is_octal_escape digits ≡ true → escape_length quote (digits ++ rest) ≡ 3
octal_found quote [] rest q h = absurd (false≢true h)
octal_found quote (d ∷ ds) rest q h =
    let two =
    and_parts (length (d ∷ ds) == 3 && list_all is_octal_digit (d ∷ ds))
    (nat_lt (value_of 8 (d ∷ ds)) 256) h in
    let one = and_parts (length (d ∷ ds) == 3) (list_all is_octal_digit (d ∷ ds)) two.0 in
    let first = (and_parts (is_octal_digit d) (list_all is_octal_digit ds) one.1).0 in
    let taken : take 3 (d ∷ ds ++ rest) ≡ d ∷ ds =
    take_at (d ∷ ds) rest 3 (eqb-true (length (d ∷ ds)) 3 one.0) in
    octal_at quote d (ds ++ rest) (octal_begins quote q d first)
    ∙ ap (λ l. cond (is_octal_escape l) 3 0) taken ∙ ap (λ t. cond t 3 0) h

-- the letters of hexadecimal escapes are never escapes by themselves
coded_at : (quote letter n : ℕ) (digits rest : List ℕ) → length digits ≡ n
    → is_hexadecimal_escape letter digits ≡ true → coded_length letter n (digits ++ rest) ≡ n + 1
coded_at quote letter n digits rest size h = let taken : take n (digits ++ rest) ≡ digits =
    take_at digits rest n size in ap (λ l. cond (is_hexadecimal_escape letter l) (n + 1) 0) taken
    ∙ ap (λ t. cond t (n + 1) 0) h

coded_found : (quote letter : ℕ) (digits rest : List ℕ) → is_quote quote ≡ true
    → is_hexadecimal_escape letter digits ≡ true
    → escape_length quote (letter ∷ digits ++ rest) ≡ length (letter ∷ digits)
coded_found quote letter digits rest q h =
    let coded = (and_parts (list_all is_ascii_hexdigit digits) (is_coded letter digits) h).1 in
    by_if (letter == 120) _ _ _ coded
    (λ x e.
    let same = eqb-true letter 120 x in
    let two : length digits ≡ 2 = eqb-true (length digits) 2 e in
    ap (λ l. escape_length quote (l ∷ digits ++ rest)) same
    ∙ by_quote (λ quote. escape_length quote (120 ∷ digits ++ rest) ≡ 2 + 1) quote q
    (coded_at single_quote 120 2 digits rest two
    (subst (λ l. is_hexadecimal_escape l digits ≡ true) same h))
    (coded_at double_quote 120 2 digits rest two
    (subst (λ l. is_hexadecimal_escape l digits ≡ true) same h))
    ∙ omega arith)
    (λ x e. by_if (letter == 117) _ _ _ e
    (λ u e.
    let same = eqb-true letter 117 u in
    let four : length digits ≡ 4 =
    eqb-true (length digits) 4
    (and_parts (length digits == 4) (is_scalar (value_of 16 digits)) e).0 in
    ap (λ l. escape_length quote (l ∷ digits ++ rest)) same
    ∙ by_quote (λ quote. escape_length quote (117 ∷ digits ++ rest) ≡ 4 + 1) quote q
    (coded_at single_quote 117 4 digits rest four
    (subst (λ l. is_hexadecimal_escape l digits ≡ true) same h))
    (coded_at double_quote 117 4 digits rest four
    (subst (λ l. is_hexadecimal_escape l digits ≡ true) same h))
    ∙ omega arith)
    (λ u e.
    let two = and_parts (letter == 85 && length digits == 8) (is_scalar (value_of 16 digits)) e in
    let one = and_parts (letter == 85) (length digits == 8) two.0 in
    let same = eqb-true letter 85 one.0 in
    let eight : length digits ≡ 8 = eqb-true (length digits) 8 one.1 in
    ap (λ l. escape_length quote (l ∷ digits ++ rest)) same
    ∙ by_quote (λ quote. escape_length quote (85 ∷ digits ++ rest) ≡ 8 + 1) quote q
    (coded_at single_quote 85 8 digits rest eight
    (subst (λ l. is_hexadecimal_escape l digits ≡ true) same h))
    (coded_at double_quote 85 8 digits rest eight
    (subst (λ l. is_hexadecimal_escape l digits ≡ true) same h))
    ∙ omega arith))

pub escape_found : (quote : ℕ) (element : Element) (rest : List ℕ) → is_quote quote ≡ true
    → is_element quote element ≡ true → is_escape element ≡ true
    → escape_length quote (escape_tail element ++ rest) ≡ length (escape_tail element)
escape_found quote (character c) rest q h e = absurd (false≢true e)
escape_found quote (escape mark) rest q h e = rw h refl
escape_found quote (octal_escape digits) rest q h e =
    let two =
    and_parts (length digits == 3 && list_all is_octal_digit digits)
    (nat_lt (value_of 8 digits) 256) h in
    let one = and_parts (length digits == 3) (list_all is_octal_digit digits) two.0 in
    octal_found quote digits rest q h ∙ sym (eqb-true (length digits) 3 one.0)
escape_found quote (hexadecimal_escape letter digits) rest q h e =
    coded_found quote letter digits rest q h

pub escape_some : (quote : ℕ) (element : Element) → is_element quote element ≡ true
    → is_escape element ≡ true → 0 < length (escape_tail element)
escape_some quote (character c) h e = absurd (false≢true e)
escape_some quote (escape mark) h e = omega arith
escape_some quote (octal_escape digits) h e =
    let two =
    and_parts (length digits == 3 && list_all is_octal_digit digits)
    (nat_lt (value_of 8 digits) 256) h in
    let one = and_parts (length digits == 3) (list_all is_octal_digit digits) two.0 in
    omega (arith, eqb-true (length digits) 3 one.0)
escape_some quote (hexadecimal_escape letter digits) h e = omega arith

-- an escape at the front
pub record EscapeAt (quote : ℕ) (bytes : List ℕ) : Type 0 where
  pub element : Element
  pub valid : is_element quote element ≡ true
  pub form : is_escape element ≡ true
  pub split : bytes ≡ escape_tail element ++ drop (escape_length quote bytes) bytes
  pub size : length (escape_tail element) ≡ escape_length quote bytes

coded_sound : (quote letter n : ℕ) (bytes : List ℕ)
    → is_hexadecimal_escape letter (take n bytes) ≡ true → length (take n bytes) ≡ n
    → escape_length quote (letter ∷ bytes) ≡ n + 1 → EscapeAt quote (letter ∷ bytes)
coded_sound quote letter n bytes h size long =
    let next : escape_length quote (letter ∷ bytes) ≡ suc n = omega (arith, long) in
    record {
      element = hexadecimal_escape letter (take n bytes);
      valid = h;
      form = refl;
      split = ap (λ l. letter ∷ l) (split_at n bytes)
          ∙ ap (λ k. letter ∷ take n bytes ++ drop k (letter ∷ bytes)) (sym next);
      size = ap suc size ∙ sym next;
    }

-- a letter, so many digits and the length of the escape
coded_case : (quote letter n : ℕ) (bytes : List ℕ)
    → ((digits : List ℕ) → is_coded letter digits ≡ true → length digits ≡ n)
    → escape_length quote (letter ∷ bytes) ≡ coded_length letter n bytes
    → 0 < coded_length letter n bytes → EscapeAt quote (letter ∷ bytes)
coded_case quote letter n bytes sizes long some =
    elim (cases_Bool (is_hexadecimal_escape letter (take n bytes))) [
      | inl sure ↦
          let coded =
          (and_parts (list_all is_ascii_hexdigit (take n bytes))
          (is_coded letter (take n bytes)) sure).1 in
          coded_sound quote letter n bytes sure (sizes (take n bytes) coded) (long ∙ rw sure refl)
      | inr never ↦ absurd (omega (arith, ap {B = ℕ} (λ t. cond t (n + 1) 0) never))
    ]

two_digits : (digits : List ℕ) → is_coded 120 digits ≡ true → length digits ≡ 2
two_digits digits h = eqb-true (length digits) 2 h

four_digits : (digits : List ℕ) → is_coded 117 digits ≡ true → length digits ≡ 4
four_digits digits h =
    eqb-true (length digits) 4 (and_parts (length digits == 4) (is_scalar (value_of 16 digits)) h).0

eight_digits : (digits : List ℕ) → is_coded 85 digits ≡ true → length digits ≡ 8
eight_digits digits h =
    eqb-true (length digits) 8 (and_parts (length digits == 8) (is_scalar (value_of 16 digits)) h).0

abbrev octal_length : ℕ → List ℕ → ℕ
octal_length b bytes = cond (is_octal_escape (take 3 (b ∷ bytes))) 3 0

octal_sound : (quote b : ℕ) (bytes : List ℕ)
    → escape_length quote (b ∷ bytes) ≡ octal_length b bytes → 0 < octal_length b bytes
    → EscapeAt quote (b ∷ bytes)
octal_sound quote b bytes long some = elim (cases_Bool (is_octal_escape (take 3 (b ∷ bytes)))) [
  | inl sure ↦
      let two =
      and_parts
      (length (take 3 (b ∷ bytes)) == 3 && list_all is_octal_digit (take 3 (b ∷ bytes)))
      (nat_lt (value_of 8 (take 3 (b ∷ bytes))) 256) sure in
      let one =
      and_parts (length (take 3 (b ∷ bytes)) == 3)
      (list_all is_octal_digit (take 3 (b ∷ bytes))) two.0 in
      let three : escape_length quote (b ∷ bytes) ≡ 3 = long ∙ rw sure refl in
      record {
        element = octal_escape (take 3 (b ∷ bytes));
        valid = sure;
        form = refl;
        split = split_at 3 (b ∷ bytes)
            ∙ ap (λ k. take 3 (b ∷ bytes) ++ drop k (b ∷ bytes)) (sym three);
        size = eqb-true (length (take 3 (b ∷ bytes))) 3 one.0 ∙ sym three;
      }
  | inr never ↦ absurd (omega (arith, ap {B = ℕ} (λ t. cond t 3 0) never))
]

mark_sound : (quote b : ℕ) (bytes : List ℕ) → is_escape_mark quote b ≡ true
    → EscapeAt quote (b ∷ bytes)
mark_sound quote b bytes mark =
    let one : escape_length quote (b ∷ bytes) ≡ 1 = rw mark refl in
    record {
      element = escape b;
      valid = mark;
      form = refl;
      split =
          ap (λ k. b ∷ drop k (b ∷ bytes)) (sym one);
      size = sym one;
    }

pub escape_sound : (quote : ℕ) (bytes : List ℕ) → is_quote quote ≡ true
    → 0 < escape_length quote bytes → EscapeAt quote bytes
escape_sound quote [] q some = absurd (omega arith)
escape_sound quote (b ∷ bytes) q some = elim (cases_Bool (is_escape_mark quote b)) [
  | inl mark ↦ mark_sound quote b bytes mark
  | inr mark ↦ elim (cases_Bool (b == 120)) [
    | inl x ↦
        let same = eqb-true b 120 x in
        let long : escape_length quote (b ∷ bytes) ≡ coded_length 120 2 bytes = rw (mark, x) refl in
        subst (λ l. EscapeAt quote (l ∷ bytes)) (sym same)
        (coded_case quote 120 2 bytes two_digits
        (ap (λ l. escape_length quote (l ∷ bytes)) (sym same) ∙ long) (omega arith))
    | inr x ↦ elim (cases_Bool (b == 117)) [
      | inl u ↦
          let same = eqb-true b 117 u in
          let long : escape_length quote (b ∷ bytes) ≡ coded_length 117 4 bytes =
          rw (mark, x, u) refl in
          subst (λ l. EscapeAt quote (l ∷ bytes)) (sym same)
          (coded_case quote 117 4 bytes four_digits
          (ap (λ l. escape_length quote (l ∷ bytes)) (sym same) ∙ long) (omega arith))
      | inr u ↦ elim (cases_Bool (b == 85)) [
        | inl w ↦
            let same = eqb-true b 85 w in
            let long : escape_length quote (b ∷ bytes) ≡ coded_length 85 8 bytes =
            rw (mark, x, u, w) refl in
            subst (λ l. EscapeAt quote (l ∷ bytes)) (sym same)
            (coded_case quote 85 8 bytes eight_digits
            (ap (λ l. escape_length quote (l ∷ bytes)) (sym same) ∙ long) (omega arith))
        | inr w ↦
            let long : escape_length quote (b ∷ bytes) ≡ octal_length b bytes =
            rw (mark, x, u, w) refl in
            octal_sound quote b bytes long (omega arith)
      ]
    ]
  ]
]

-- what holds of each byte of a table holds of a byte among them
among_bytes : (test : ℕ → Bool) (table : List ℕ) (b : ℕ) → list_all test table ≡ true
    → list_any (nat_eq b) table ≡ true → test b ≡ true
among_bytes test [] b all h = absurd (false≢true h)
among_bytes test (x ∷ xs) b all h =
    let parts = and_parts (test x) (list_all test xs) all in
    elim (or_cases (nat_eq b x) (list_any (nat_eq b) xs) h) [
      | inl e ↦ ap test (eqb-true b x e) ∙ parts.0
      | inr e ↦ among_bytes test xs b parts.1 e
    ]

-- an escape has bytes of ASCII alone
mark_low : (quote : ℕ) → quote < 128 → (mark : ℕ) → is_escape_mark quote mark ≡ true → mark < 128
mark_low quote low mark h =
    elim (or_cases (mark == quote) (list_any (nat_eq mark) (codes "abfnrtv\\")) h) [
      | inl same ↦ omega (arith, eqb-true mark quote same)
      | inr among ↦ ltb-true mark 128 (among_bytes is_ascii (codes "abfnrtv\\") mark refl among)
    ]

letter_ascii : (letter : ℕ) (digits : List ℕ) → is_coded letter digits ≡ true
    → is_ascii letter ≡ true
letter_ascii letter digits h = by_if (letter == 120) _ _ _ h
    (λ x e. ap is_ascii (eqb-true letter 120 x))
    (λ x e. by_if (letter == 117) _ _ _ e
    (λ u e. ap is_ascii (eqb-true letter 117 u))
    (λ u e. ap is_ascii
    (eqb-true letter 85
    (and_parts (letter == 85) (length digits == 8)
    (and_parts (letter == 85 && length digits == 8) (is_scalar (value_of 16 digits)) e).0).0)))

mark_below : (quote mark : ℕ) → is_quote quote ≡ true → is_escape_mark quote mark ≡ true
    → mark < 128
mark_below quote mark q h =
    by_quote (λ quote. is_escape_mark quote mark ≡ true → mark < 128) quote q
    (mark_low single_quote (omega arith) mark) (mark_low double_quote (omega arith) mark) h

pub escape_ascii : (quote : ℕ) (element : Element) → is_quote quote ≡ true
    → is_element quote element ≡ true → is_escape element ≡ true
    → list_all is_ascii (escape_tail element) ≡ true
escape_ascii quote (character c) q h e = absurd (false≢true e)
escape_ascii quote (escape mark) q h e =
    and_from (is_ascii mark) true (lt-ltb mark 128 (mark_below quote mark q h)) refl
escape_ascii quote (octal_escape digits) q h e =
    let two =
    and_parts (length digits == 3 && list_all is_octal_digit digits)
    (nat_lt (value_of 8 digits) 256) h in
    list_all-weaker is_octal_digit is_ascii (λ d o. lt-ltb d 128 (octal_below d o)) digits
    (and_parts (length digits == 3) (list_all is_octal_digit digits) two.0).1
escape_ascii quote (hexadecimal_escape letter digits) q h e =
    let parts = and_parts (list_all is_ascii_hexdigit digits) (is_coded letter digits) h in
    and_from (is_ascii letter) (list_all is_ascii digits) (letter_ascii letter digits parts.1)
    (list_all-weaker is_ascii_hexdigit is_ascii (λ d o. lt-ltb d 128 (hexadecimal_below d o)) digits
    parts.0)

-- an element is UTF-8
pub element_utf8 : (quote : ℕ) (element : Element) → is_quote quote ≡ true
    → is_element quote element ≡ true → IsUtf8 (print_element element)
element_utf8 quote (character c) q h =
    IsUtf8-encode c (scalar_one c (and_parts (is_scalar c) (is_unquoted quote c) h).0)
element_utf8 quote (escape mark) q h =
    ascii_utf8 (backslash ∷ mark ∷ []) (escape_ascii quote (escape mark) q h refl)
element_utf8 quote (octal_escape digits) q h =
    ascii_utf8 (backslash ∷ digits) (escape_ascii quote (octal_escape digits) q h refl)
element_utf8 quote (hexadecimal_escape letter digits) q h =
    ascii_utf8 (backslash ∷ letter ∷ digits)
    (escape_ascii quote (hexadecimal_escape letter digits) q h refl)
