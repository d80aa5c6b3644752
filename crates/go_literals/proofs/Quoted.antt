-- The bytes of texts and runes up to their closing quotes, by their elements.
use Rattle.std.proofs.Common.{◌≡◌, ◌==◌, ℕ, zero, suc, ◌+◌, ◌≤◌, ◌<◌, true, false, cond, ◌||◌}
use Rattle.std.proofs.Common.{List, [], ◌∷◌, ◌++◌, length, drop, get_or, nat_le, Option, Some}
use Rattle.std.proofs.Common.{None, option_map, IsUtf8, encode_utf8, sym, ap, ◌∙◌, subst, refl}
use Rattle.std.proofs.Common.{inl, inr, arith, length-append, append_assoc, append-nil}
use Rattle.std.specs.Char.{len_utf8}
use Rattle.std.specs.List.{list_all}
use Rattle.std.specs.Str.{chars}
use Rattle.std.proofs.lemmas.Bool.{and_parts, and_from, or_cases, or_parts, eqb-true, eq-eqb}
use Rattle.std.proofs.lemmas.Bool.{ne_eqb, leb-true, not-true, cases_Bool, cases_lt, both_ways}
use Rattle.std.proofs.lemmas.Str.{IsUtf8-encode, chars-append, chars-encodes, chars_past_char}
use Rattle.std.proofs.lemmas.Str.{length-encode}
use Rattle.go_ast.specs.Characters.{backslash, newline, double_quote, single_quote}
use Rattle.go_ast.specs.Texts.{Element, character, escape, octal_escape, hexadecimal_escape}
use Rattle.go_ast.specs.Texts.{print_element, print_elements, is_unquoted, is_scalar, is_element}
use Rattle.go_literals.specs.Extents.{escape_length, string_length, character_length, rune_length}
use Rattle.go_literals.proofs.Lists.{list_all-weaker}
use Rattle.go_literals.proofs.Characters.{rest_utf8, FirstCharacter, first_character}
use Rattle.go_literals.proofs.Characters.{scalar_one, encoded, high_unquoted, ascii_first}
use Rattle.go_literals.proofs.Characters.{wide_first}
use Rattle.go_literals.proofs.Escapes.{is_quote, escape_tail, is_escape, print_escape}
use Rattle.go_literals.proofs.Escapes.{escape_found, escape_some, escape_sound}
use Rattle.go_literals.proofs.Escapes.{element_utf8}

-- a length counted on
abbrev pub add : ℕ → Option ℕ → Option ℕ
add k found = option_map (λ n. n + k) found

pub add-add : (j k : ℕ) (found : Option ℕ) → add j (add k found) ≡ add (j + k) found
add-add j k None = refl
add-add j k (Some n) = let e : (n + k) + j ≡ n + (j + k) = omega arith in ap Some e

pub add-same : (j k : ℕ) (found : Option ℕ) → j ≡ k → add j found ≡ add k found
add-same j k found e = ap (λ m. add m found) e

add-zero-length : (found : Option ℕ) → found ≡ add 0 found
add-zero-length None = refl
add-zero-length (Some n) = let e : n ≡ n + 0 = omega arith in ap Some e

-- the text one byte on
skip_step : (quote k b : ℕ) (bytes : List ℕ)
    → string_length quote (suc k) (b ∷ bytes) ≡ add 1 (string_length quote k bytes)
unfolding string_length
skip_step quote k b bytes = refl

plain_step : (quote b : ℕ) (bytes : List ℕ) → is_unquoted quote b ≡ true
    → string_length quote 0 (b ∷ bytes) ≡ add 1 (string_length quote 0 bytes)
unfolding string_length
plain_step quote b bytes h =
    let other = not-true (b == quote || b == backslash || b == newline) h in
    let two = or_parts (b == quote || b == backslash) (b == newline) other in
    let one = or_parts (b == quote) (b == backslash) two.0 in
    rw (one.0, two.1, one.1) refl

pub closing_step : (quote : ℕ) (bytes : List ℕ) → string_length quote 0 (quote ∷ bytes) ≡ Some 1
unfolding string_length
closing_step quote bytes = let same : (quote == quote) ≡ true = eq-eqb quote quote refl in
    rw same refl

pub escape_step : (quote : ℕ) (bytes : List ℕ) (n : ℕ) → is_quote quote ≡ true
    → escape_length quote bytes ≡ n → 0 < n
    → string_length quote 0 (backslash ∷ bytes) ≡ add 1 (string_length quote n bytes)
unfolding string_length
escape_step quote bytes n q long some =
    let other : (backslash == quote) ≡ false =
    ne_eqb backslash quote (λ e. absurd (both_ways (is_quote quote) (ap is_quote (sym e)) q)) in
    let there : (n == 0) ≡ false = ne_eqb n 0 (λ e. omega arith) in
    rw (other, long, there) refl

pub skip_all : (quote : ℕ) (front rest : List ℕ)
    → string_length quote (length front) (front ++ rest) ≡ add (length front)
    (string_length quote 0 rest)
skip_all quote [] rest = add-zero-length (string_length quote 0 rest)
skip_all quote (b ∷ front) rest =
    skip_step quote (length front) b (front ++ rest) ∙ ap (add 1) (skip_all quote front rest)
    ∙ add-add 1 (length front) (string_length quote 0 rest)
    ∙ add-same (1 + length front) (suc (length front)) (string_length quote 0 rest) (omega arith)

pub plain_all : (quote : ℕ) (front rest : List ℕ) → list_all (is_unquoted quote) front ≡ true
    → string_length quote 0 (front ++ rest) ≡ add (length front) (string_length quote 0 rest)
plain_all quote [] rest h = add-zero-length (string_length quote 0 rest)
plain_all quote (b ∷ front) rest h =
    let parts = and_parts (is_unquoted quote b) (list_all (is_unquoted quote) front) h in
    plain_step quote b (front ++ rest) parts.0 ∙ ap (add 1) (plain_all quote front rest parts.1)
    ∙ add-add 1 (length front) (string_length quote 0 rest)
    ∙ add-same (1 + length front) (suc (length front)) (string_length quote 0 rest) (omega arith)

quote_below : (quote : ℕ) → is_quote quote ≡ true → quote < 128
quote_below quote q = elim (or_cases (quote == single_quote) (quote == double_quote) q) [
  | inl e ↦ omega (arith, eqb-true quote single_quote e)
  | inr e ↦ omega (arith, eqb-true quote double_quote e)
]

-- the bytes of a character that stands for itself stand for themselves
encode_unquoted : (quote c : ℕ) → is_quote quote ≡ true → is_unquoted quote c ≡ true
    → list_all (is_unquoted quote) (encode_utf8 c) ≡ true
encode_unquoted quote c q h =
    let e = encoded c in
    elim (cases_lt c 128) [
      | inl low ↦
          let alone : encode_utf8 c ≡ c ∷ [] = e.split ∙ ap (λ b. b ∷ e.others) (e.low low)
          ∙ ap (λ l. c ∷ l) (e.alone low) in
          rw alone (and_from (is_unquoted quote c) true h refl)
      | inr high ↦
          rw e.split
          (list_all-weaker (nat_le 128) (is_unquoted quote)
          (λ b above. high_unquoted quote b (quote_below quote q) (leb-true 128 b above))
          (e.byte ∷ e.others) (e.all_high high))
    ]

escape_bytes : (quote : ℕ) (element : Element) (rest : List ℕ) → is_quote quote ≡ true
    → is_element quote element ≡ true → is_escape element ≡ true
    → string_length quote 0 (print_element element ++ rest) ≡ add (length (print_element element))
    (string_length quote 0 rest)
escape_bytes quote element rest q h form =
    let tail = escape_tail element in
    let printed = print_escape element form in
    ap (λ l. string_length quote 0 (l ++ rest)) printed
    ∙ escape_step quote (tail ++ rest) (length tail) q (escape_found quote element rest q h form)
    (escape_some quote element h form)
    ∙ ap (add 1) (skip_all quote tail rest) ∙ add-add 1 (length tail) (string_length quote 0 rest)
    ∙ add-same (1 + length tail) (length (print_element element)) (string_length quote 0 rest)
    (omega (arith, ap length printed))

element_bytes : (quote : ℕ) (element : Element) (rest : List ℕ) → is_quote quote ≡ true
    → is_element quote element ≡ true
    → string_length quote 0 (print_element element ++ rest) ≡ add (length (print_element element))
    (string_length quote 0 rest)
element_bytes quote (character c) rest q h =
    plain_all quote (encode_utf8 c) rest
    (encode_unquoted quote c q (and_parts (is_scalar c) (is_unquoted quote c) h).1)
element_bytes quote (escape mark) rest q h = escape_bytes quote (escape mark) rest q h refl
element_bytes quote (octal_escape digits) rest q h =
    escape_bytes quote (octal_escape digits) rest q h refl
element_bytes quote (hexadecimal_escape letter digits) rest q h =
    escape_bytes quote (hexadecimal_escape letter digits) rest q h refl

elements_bytes : (quote : ℕ) (elements : List Element) (rest : List ℕ) → is_quote quote ≡ true
    → list_all (is_element quote) elements ≡ true
    → string_length quote 0 (print_elements elements ++ rest)
    ≡ add (length (print_elements elements))
    (string_length quote 0 rest)
elements_bytes quote [] rest q h = add-zero-length (string_length quote 0 rest)
elements_bytes quote (element ∷ elements) rest q h =
    let parts = and_parts (is_element quote element) (list_all (is_element quote) elements) h in
    let one = print_element element in
    let more = print_elements elements in
    ap (string_length quote 0) (append_assoc one more rest)
    ∙ element_bytes quote element (more ++ rest) q parts.0
    ∙ ap (add (length one)) (elements_bytes quote elements rest q parts.1)
    ∙ add-add (length one) (length more) (string_length quote 0 rest)
    ∙ add-same (length one + length more) (length (one ++ more)) (string_length quote 0 rest)
    (sym (length-append one more))

-- the text that its closing quote ends
pub text_complete : (quote : ℕ) (elements : List Element) (after : List ℕ) → is_quote quote ≡ true
    → list_all (is_element quote) elements ≡ true
    → string_length quote 0 (print_elements elements ++ quote ∷ after)
    ≡ Some (length (print_elements elements) + 1)
text_complete quote elements after q h =
    elements_bytes quote elements (quote ∷ after) q h
    ∙ ap (add (length (print_elements elements))) (closing_step quote after)
    ∙ ap Some (omega arith)

-- some elements and the closing quote at the front
pub record TextAt (quote : ℕ) (bytes : List ℕ) (n : ℕ) : Type 0 where
  pub elements : List Element
  pub valid : list_all (is_element quote) elements ≡ true
  pub after : List ℕ
  pub split : bytes ≡ print_elements elements ++ quote ∷ after
  pub size : length (print_elements elements) + 1 ≡ n

add_cases : (k n : ℕ) (found : Option ℕ) → add k found ≡ Some n → (m : ℕ) × (found ≡ Some m)
    × (m + k ≡ n)
add_cases k n None e = cc
add_cases k n (Some m) e = (m, refl, cc)

-- one element more
one_more : (quote : ℕ) (element : Element) (rest : List ℕ) (m n : ℕ)
    → is_element quote element ≡ true → TextAt quote rest m → m + length (print_element element) ≡ n
    → TextAt quote (print_element element ++ rest) n
one_more quote element rest m n h later size =
    let one = print_element element in
    let more = print_elements later.elements in
    record {
      elements = element ∷ later.elements;
      valid =
          and_from (is_element quote element) (list_all (is_element quote) later.elements) h
          later.valid;
      after = later.after;
      split = ap (λ l. one ++ l) later.split ∙ sym (append_assoc one more (quote ∷ later.after));
      size = omega (arith, length-append one more, later.size);
    }

pub text_nil : (quote : ℕ) → string_length quote 0 [] ≡ None
unfolding string_length
text_nil quote = refl

pub newline_stops : (quote : ℕ) (bytes : List ℕ) → is_quote quote ≡ true
    → string_length quote 0 (newline ∷ bytes) ≡ None
unfolding string_length
newline_stops quote bytes q =
    let other : (newline == quote) ≡ false =
    ne_eqb newline quote (λ e. absurd (both_ways (is_quote quote) (ap is_quote (sym e)) q)) in
    rw other refl

pub bad_escape : (quote : ℕ) (bytes : List ℕ) → is_quote quote ≡ true
    → escape_length quote bytes ≡ 0 → string_length quote 0 (backslash ∷ bytes) ≡ None
unfolding string_length
bad_escape quote bytes q none =
    let other : (backslash == quote) ≡ false =
    ne_eqb backslash quote (λ e. absurd (both_ways (is_quote quote) (ap is_quote (sym e)) q)) in
    rw (other, none) refl

-- a character that stands for itself, by its first byte
first_unquoted : (quote b : ℕ) (bytes : List ℕ) (first : FirstCharacter (b ∷ bytes))
    → is_quote quote ≡ true → is_unquoted quote b ≡ true → is_unquoted quote first.character ≡ true
first_unquoted quote b bytes first q h = elim (cases_lt b 128) [
  | inl low ↦ ap (is_unquoted quote) (ascii_first b bytes first low) ∙ h
  | inr high ↦
      high_unquoted quote first.character (quote_below quote q) (wide_first b bytes first high)
]

pub text_sound : (quote : ℕ) → is_quote quote ≡ true → (fuel : ℕ) (bytes : List ℕ) (n : ℕ)
    → length bytes ≤ fuel → IsUtf8 bytes → string_length quote 0 bytes ≡ Some n
    → TextAt quote bytes n
text_sound quote q zero [] n enough utf8 h = let none = text_nil quote in cc
text_sound quote q zero (b ∷ bytes) n enough utf8 h = absurd (omega arith)
text_sound quote q (suc fuel) [] n enough utf8 h = let none = text_nil quote in cc
text_sound quote q (suc fuel) (b ∷ bytes) n enough utf8 h = elim (cases_Bool (b == quote)) [
  | inl closing ↦
      let same = eqb-true b quote closing in
      let one : Some 1 ≡ Some n =
      sym (ap (λ x. string_length quote 0 (x ∷ bytes)) same ∙ closing_step quote bytes) ∙ h in
      record {
        elements = [];
        valid = refl;
        after = bytes;
        split = ap (λ x. x ∷ bytes) same;
        size =
            cc;
      }
  | inr unlike ↦ elim (cases_Bool (b == newline)) [
    | inl ended ↦
        let none = ap (λ x. string_length quote 0 (x ∷ bytes)) (eqb-true b newline ended)
        ∙ newline_stops quote bytes q in
        cc
    | inr goes ↦ elim (cases_Bool (b == backslash)) [
      | inl escaped ↦
          let same = eqb-true b backslash escaped in
          elim (cases_lt 0 (escape_length quote bytes)) [
            | inr none ↦
                let stops = ap (λ x. string_length quote 0 (x ∷ bytes)) same
                ∙ bad_escape quote bytes q (omega arith) in
                cc
            | inl some ↦
                let e = escape_sound quote bytes q some in
                let rest = drop (escape_length quote bytes) bytes in
                let printed = print_escape e.element e.form in
                let split : b ∷ bytes ≡ print_element e.element ++ rest = ap (λ x. x ∷ bytes) same
                ∙ ap (λ l. backslash ∷ l) e.split ∙ ap (λ l. l ++ rest) (sym printed) in
                let found =
                add_cases (length (print_element e.element)) n (string_length quote 0 rest)
                (sym (ap (string_length quote 0) split
                ∙ element_bytes quote e.element rest q e.valid) ∙ h) in
                let valid : IsUtf8 rest =
                rest_utf8 (print_element e.element) rest
                (element_utf8 quote e.element q e.valid) (subst IsUtf8 split utf8) in
                let short : length rest ≤ fuel =
                omega (
                  arith,
                  ap length split,
                  length-append (print_element e.element) rest,
                  ap length printed,
                ) in
                subst (λ l. TextAt quote l n) (sym split)
                (one_more quote e.element rest found.0 n e.valid
                (text_sound quote q fuel rest found.0 short valid found.1) found.2)
          ]
      | inr plain ↦
          let unquoted : is_unquoted quote b ≡ true = rw (unlike, plain, goes) refl in
          let first = first_character b bytes utf8 in
          let c = first.character in
          let element = character c in
          let valid : is_element quote element ≡ true =
          and_from (is_scalar c) (is_unquoted quote c) first.valid
          (first_unquoted quote b bytes first q unquoted) in
          let e = encoded c in
          let found =
          add_cases (length (encode_utf8 c)) n (string_length quote 0 first.more)
          (sym (ap (string_length quote 0) first.split
          ∙ element_bytes quote element first.more q valid) ∙ h) in
          let short : length first.more ≤ fuel =
          omega (
            arith,
            ap length first.split,
            length-append (encode_utf8 c) first.more,
            ap length e.split,
          ) in
          subst (λ l. TextAt quote l n) (sym first.split)
          (one_more quote element first.more found.0 n valid
          (text_sound quote q fuel first.more found.0 short first.utf8 found.1) found.2)
    ]
  ]
]

-- runes
rune-escape : (bytes : List ℕ) (n : ℕ) → escape_length single_quote bytes ≡ n → 0 < n
    → rune_length (backslash ∷ bytes) ≡ n + 1
unfolding rune_length
rune-escape bytes n long some = let there : (n == 0) ≡ false = ne_eqb n 0 (λ e. omega arith) in
    rw (long, there) refl

rune-character : (b : ℕ) (bytes : List ℕ) → (b == backslash) ≡ false
    → rune_length (b ∷ bytes) ≡ character_length (chars (b ∷ bytes))
unfolding rune_length
rune-character b bytes other = rw other refl

rune_character : (c : ℕ) (rest : List ℕ) → is_scalar c ≡ true → is_unquoted single_quote c ≡ true
    → rune_length (encode_utf8 c ++ rest) ≡ length (encode_utf8 c)
rune_character c rest scalar h =
    let e = encoded c in
    let same : encode_utf8 c ++ rest ≡ e.byte ∷ (e.others ++ rest) = ap (λ l. l ++ rest) e.split in
    let other : (e.byte == backslash) ≡ false = elim (cases_lt c 128) [
      | inl low ↦
          let not_c : (c == backslash) ≡ false =
          (or_parts (c == single_quote) (c == backslash)
          (or_parts (c == single_quote || c == backslash) (c == newline)
          (not-true (c == single_quote || c == backslash || c == newline) h)).0).1 in
          ap (λ b. b == backslash) (e.low low) ∙ not_c
      | inr high ↦ ne_eqb e.byte backslash (λ f. omega (arith, e.high high))
    ] in
    let characters : chars (encode_utf8 c ++ rest) ≡ c ∷ chars rest =
    chars-append (encode_utf8 c) rest (IsUtf8-encode c (scalar_one c scalar))
    ∙ ap (λ l. l ++ chars rest) (ap chars (sym (append-nil (encode_utf8 c)))
    ∙ chars-encodes (c ∷ []) scalar) in
    ap rune_length same ∙ rune-character e.byte (e.others ++ rest) other
    ∙ ap (λ l. character_length (chars l)) (sym same)
    ∙ ap character_length characters ∙ rw h (sym (length-encode c))

rune_escape : (element : Element) (rest : List ℕ) → is_element single_quote element ≡ true
    → is_escape element ≡ true
    → rune_length (print_element element ++ rest) ≡ length (print_element element)
rune_escape element rest h form =
    let printed = print_escape element form in
    let tail = escape_tail element in
    ap (λ l. rune_length (l ++ rest)) printed
    ∙ rune-escape (tail ++ rest) (length tail)
    (escape_found single_quote element rest refl h form)
    (escape_some single_quote element h form)
    ∙ omega (arith, ap length printed)

pub rune_complete : (element : Element) (rest : List ℕ) → is_element single_quote element ≡ true
    → rune_length (print_element element ++ rest) ≡ length (print_element element)
rune_complete (character c) rest h = let parts =
    and_parts (is_scalar c) (is_unquoted single_quote c) h in rune_character c rest parts.0 parts.1
rune_complete (escape mark) rest h = rune_escape (escape mark) rest h refl
rune_complete (octal_escape digits) rest h = rune_escape (octal_escape digits) rest h refl
rune_complete (hexadecimal_escape letter digits) rest h =
    rune_escape (hexadecimal_escape letter digits) rest h refl

pub element_some : (element : Element) → 0 < length (print_element element)
element_some (character c) = let e = encoded c in omega (arith, ap length e.split)
element_some (escape mark) = omega arith
element_some (octal_escape digits) = omega arith
element_some (hexadecimal_escape letter digits) = omega arith

-- an element of a rune at the front
pub record ElementAt (bytes : List ℕ) : Type 0 where
  pub element : Element
  pub valid : is_element single_quote element ≡ true
  pub rest : List ℕ
  pub split : bytes ≡ print_element element ++ rest
  pub size : length (print_element element) ≡ rune_length bytes

rune_nil : rune_length [] ≡ 0
unfolding rune_length
rune_nil = refl

rune-bad : (bytes : List ℕ) → escape_length single_quote bytes ≡ 0
    → rune_length (backslash ∷ bytes) ≡ 0
unfolding rune_length
rune-bad bytes none = rw none refl

character_cases : (c : ℕ) (cs : List ℕ) → 0 < character_length (c ∷ cs)
    → is_unquoted single_quote c ≡ true
character_cases c cs some = elim (cases_Bool (is_unquoted single_quote c)) [
  | inl sure ↦ sure
  | inr never ↦ absurd (omega (arith, ap (λ t. cond t (len_utf8 c) 0) never))
]

pub rune_sound : (bytes : List ℕ) → IsUtf8 bytes → 0 < rune_length bytes → ElementAt bytes
rune_sound [] utf8 some = absurd (omega (arith, rune_nil))
rune_sound (b ∷ bytes) utf8 some = elim (cases_Bool (b == backslash)) [
  | inl escaped ↦
      let same = eqb-true b backslash escaped in
      elim (cases_lt 0 (escape_length single_quote bytes)) [
        | inr none ↦
            absurd (omega (
              arith,
              ap (λ x. rune_length (x ∷ bytes)) same,
              rune-bad bytes (omega arith),
            ))
        | inl there ↦
            let e = escape_sound single_quote bytes refl there in
            let rest = drop (escape_length single_quote bytes) bytes in
            let printed = print_escape e.element e.form in
            record {
              element = e.element;
              valid = e.valid;
              rest = rest;
              split = ap (λ x. x ∷ bytes) same ∙ ap (λ l. backslash ∷ l) e.split
                  ∙ ap (λ l. l ++ rest) (sym printed);
              size = omega (
                arith,
                ap length printed,
                e.size,
                ap (λ x. rune_length (x ∷ bytes)) same,
                rune-escape bytes (escape_length single_quote bytes) refl there,
              );
            }
      ]
  | inr other ↦
      let first = first_character b bytes utf8 in
      let c = first.character in
      let characters = chars_past_char (b ∷ bytes) first.more c utf8 first.split in
      let long : rune_length (b ∷ bytes) ≡ character_length (c ∷ chars first.more) =
      rune-character b bytes other ∙ ap character_length characters in
      let plain = character_cases c (chars first.more) (omega (arith, long)) in
      record {
        element = character c;
        valid = and_from (is_scalar c) (is_unquoted single_quote c) first.valid plain;
        rest = first.more;
        split = first.split;
        size = sym (long ∙ rw plain (sym (length-encode c)));
      }
]

-- where no "\" stands first
pub rune-plain : (bytes : List ℕ) → (get_or bytes 0 0 == backslash) ≡ false
    → rune_length bytes ≡ character_length (chars bytes)
unfolding rune_length chars
rune-plain [] other = refl
rune-plain (b ∷ bytes) other = rw other refl

pub empty_plain : (bytes : List ℕ) → length bytes ≡ 0 → (get_or bytes 0 0 == 92) ≡ false
empty_plain [] h = refl
empty_plain (b ∷ bytes) h = absurd (omega arith)
