-- Where a letter begins, the program and the definition find the same name.
use Rattle.std.proofs.Common.{◌≡◌, ℕ, zero, suc, ◌≤◌, true, false, List, [], ◌∷◌, ◌++◌, length}
use Rattle.std.proofs.Common.{take, drop, IsUtf8, encode_utf8_all, sym, ap, ◌∙◌, refl, inl, inr}
use Rattle.std.proofs.Common.{arith, one-add, length-append}
use Rattle.std.specs.List.{list_all, prefix_len, take_while}
use Rattle.std.specs.Str.{all_scalars, chars, IsCharBoundary}
use Rattle.std.proofs.lemmas.Bool.{and_parts, and_from, cases_Bool}
use Rattle.std.proofs.lemmas.Str.{encodes-chars, scalars-chars, encodes-append}
use Rattle.std.proofs.lemmas.Str.{IsCharBoundary-at_seam}
use lib.Utf8.{scalar}
use Rattle.go_chars.specs.Letters.{is_letter}
use Rattle.go_chars.specs.Identifiers.{is_among, is_identifier, is_letter_or_digit, keywords}
use Rattle.go_ast.specs.Characters.{Begins}
use Rattle.go_ast.specs.Lexical.{Spelling, identifier, keyword, operator, integer, float}
use Rattle.go_ast.specs.Lexical.{imaginary, rune, text, raw_text, semicolon, spelled}
use Rattle.go_ast.specs.Lexical.{print_spelling, IsSpelling, IsLongest, begins_number}
use Rattle.go_scanner.specs.FrontWords.{word_at}
use Rattle.go_scanner.specs.Shapes.{shape_of, word_shape, begins_word, begins_letter}
use Rattle.go_scanner.specs.Classes.{is_ascii_letter}
use Rattle.go_literals.proofs.Lists.{same_fronts, split_at, take_while-past}
use Rattle.go_literals.proofs.Lists.{list_all-take_prefix_len, encode_utf8_all-ascii}
use Rattle.go_literals.proofs.Lists.{ascii_scalars, list_all-weaker}
use Rattle.go_literals.proofs.Characters.{chars-front}
use Rattle.go_scanner.proofs.Standing.FirstBytes.{words, leads, lead_of-begins}
use Rattle.go_scanner.proofs.Standing.FirstBytes.{words_lead, is_ascii_word, keyword_word}
use Rattle.go_scanner.proofs.Standing.FirstBytes.{ascii_word-ascii, letter_below, is_letter-ascii}
use Rattle.go_scanner.proofs.Standing.Fronts.{SpelledAt, SpelledAs, longest, extent_of-longest}

-- an identifier or a keyword that prints these characters
record IsWord (spelling : Spelling) (characters : List ℕ) : Type 0 where
  name : is_identifier characters ≡ true
  scalars : all_scalars characters ≡ true
  printed : print_spelling spelling ≡ encode_utf8_all characters
  shape : word_shape (encode_utf8_all characters) ≡ shape_of (spelled spelling)

word_of-identifier : (characters : List ℕ) → is_identifier characters ≡ true
    → all_scalars characters ≡ true → is_among keywords (encode_utf8_all characters) ≡ false
    → IsWord (identifier characters) characters
unfolding word_shape
word_of-identifier characters name scalars other =
    record { name = name; scalars = scalars; printed = refl; shape = rw other refl }

keyword_shape : (word : List ℕ) → is_among keywords word ≡ true
    → word_shape word ≡ shape_of (spelled (keyword word))
unfolding word_shape
keyword_shape word among = rw among refl

letter_of-ascii : (b : ℕ) → is_ascii_letter b ≡ true → is_letter b ≡ true
letter_of-ascii b h = is_letter-ascii b (letter_below b h) ∙ h

letter_or_digit_of-ascii : (b : ℕ) → is_ascii_letter b ≡ true → is_letter_or_digit b ≡ true
letter_or_digit_of-ascii b h = rw (letter_of-ascii b h) refl

ascii_word-identifier : (word : List ℕ) → is_ascii_word word ≡ true → is_identifier word ≡ true
ascii_word-identifier [] h = h
ascii_word-identifier (c ∷ cs) h =
    let parts = and_parts (is_ascii_letter c) (list_all is_ascii_letter cs) h in
    and_from (is_letter c) (list_all is_letter_or_digit cs) (letter_of-ascii c parts.0)
    (list_all-weaker is_ascii_letter is_letter_or_digit letter_or_digit_of-ascii cs parts.1)

word_of-keyword : (word : List ℕ) → is_among keywords word ≡ true → IsWord (keyword word) word
word_of-keyword word among =
    let plain = keyword_word word among in
    let ascii = ascii_word-ascii word plain in
    let bytes = encode_utf8_all-ascii word ascii in
    record {
      name = ascii_word-identifier word plain;
      scalars = ascii_scalars word ascii;
      printed = sym bytes;
      shape = ap word_shape bytes ∙ keyword_shape word among;
    }

record Word (spelling : Spelling) : Type 0 where
  characters : List ℕ
  is : IsWord spelling characters

word_of : (spelling : Spelling) → leads spelling ≡ words → IsSpelling spelling → Word spelling
word_of (identifier characters) lead h =
    record { characters = characters; is = word_of-identifier characters h.0 h.1 h.2 }
word_of (keyword word) lead h = record { characters = word; is = word_of-keyword word h }
word_of (operator mark) lead h = cc
word_of (integer literal) lead h = cc
word_of (float literal) lead h = cc
word_of (imaginary literal) lead h = cc
word_of (rune element) lead h = cc
word_of (text elements) lead h = cc
word_of (raw_text content) lead h = cc
word_of semicolon lead h = cc

identifier_characters : (characters : List ℕ) → is_identifier characters ≡ true
    → list_all is_letter_or_digit characters ≡ true
identifier_characters [] h = refl
identifier_characters (c ∷ cs) h =
    let parts = and_parts (is_letter c) (list_all is_letter_or_digit cs) h in
    and_from (is_letter_or_digit c) (list_all is_letter_or_digit cs) (rw parts.0 refl) parts.1

-- the characters of the name at the front
abbrev front_of : List ℕ → List ℕ
front_of bytes = take_while is_letter_or_digit (chars bytes)

word_at-front : (bytes : List ℕ) → word_at bytes ≡ encode_utf8_all (front_of bytes)
unfolding word_at
word_at-front bytes = refl

-- no name at the front is longer than the run of letters and digits
name_within : (bytes characters rest : List ℕ) → is_identifier characters ≡ true
    → all_scalars characters ≡ true → bytes ≡ encode_utf8_all characters ++ rest
    → length (encode_utf8_all characters) ≤ length (word_at bytes)
name_within bytes characters rest name scalars split =
    let front : front_of bytes ≡ characters ++ take_while is_letter_or_digit (chars rest) =
    ap (λ l. take_while is_letter_or_digit (chars l)) split
    ∙ ap (take_while is_letter_or_digit) (chars-front characters rest scalars)
    ∙ take_while-past is_letter_or_digit characters (chars rest)
    (identifier_characters characters name) in
    let whole : word_at bytes ≡ encode_utf8_all characters
    ++ encode_utf8_all (take_while is_letter_or_digit (chars rest)) =
    word_at-front bytes ∙ ap encode_utf8_all front
    ∙ encodes-append characters (take_while is_letter_or_digit (chars rest)) in
    omega (
      arith,
      ap length whole,
      length-append (encode_utf8_all characters)
          (encode_utf8_all (take_while is_letter_or_digit (chars rest))),
    )

scalars-take : (n : ℕ) (cs : List ℕ) → all_scalars cs ≡ true → all_scalars (take n cs) ≡ true
scalars-take zero cs h = refl
scalars-take (suc n) [] h = refl
scalars-take (suc n) (c ∷ cs) h =
    let parts = and_parts (scalar c) (all_scalars cs) h in
    and_from (scalar c) (all_scalars (take n cs)) parts.0 (scalars-take n cs parts.1)

identifier-front : (cs : List ℕ) → begins_letter cs ≡ true
    → is_identifier (take_while is_letter_or_digit cs) ≡ true
identifier-front [] h = h
identifier-front (c ∷ cs) h =
    let passes : is_letter_or_digit c ≡ true = rw h refl in
    rw (passes, one-add)
    (and_from (is_letter c) (list_all is_letter_or_digit (take_while is_letter_or_digit cs)) h
    (list_all-take_prefix_len is_letter_or_digit cs))

-- a spelling of the name at the front
record FrontWord (bytes : List ℕ) : Type 0 where
  spelling : Spelling
  valid : IsSpelling spelling
  after : List ℕ
  split : bytes ≡ print_spelling spelling ++ after
  printed : print_spelling spelling ≡ word_at bytes
  shape : word_shape (word_at bytes) ≡ shape_of (spelled spelling)

pub front_split : (bytes : List ℕ) → IsUtf8 bytes → (after : List ℕ)
    × (bytes ≡ word_at bytes ++ after)
front_split bytes utf8 =
    let cs = chars bytes in
    let n = prefix_len is_letter_or_digit cs in
    let after = encode_utf8_all (drop n cs) in (
      after,
      sym (encodes-chars bytes utf8) ∙ ap encode_utf8_all (split_at n cs)
          ∙ encodes-append (take n cs) (drop n cs)
          ∙ ap (λ l. l ++ after) (sym (word_at-front bytes)),
    )

scalars-drop : (n : ℕ) (cs : List ℕ) → all_scalars cs ≡ true → all_scalars (drop n cs) ≡ true
scalars-drop zero cs h = h
scalars-drop (suc n) [] h = refl
scalars-drop (suc n) (c ∷ cs) h =
    scalars-drop n cs (and_parts (scalar c) (all_scalars cs) h).1

-- a character ends where the name at the front does
pub front_boundary : (bytes : List ℕ) → IsUtf8 bytes → IsCharBoundary bytes (length (word_at bytes))
front_boundary bytes utf8 =
    let cs = chars bytes in
    let n = prefix_len is_letter_or_digit cs in
    let after = encode_utf8_all (drop n cs) in
    let split : bytes ≡ word_at bytes ++ after =
    sym (encodes-chars bytes utf8) ∙ ap encode_utf8_all (split_at n cs)
    ∙ encodes-append (take n cs) (drop n cs)
    ∙ ap (λ l. l ++ after) (sym (word_at-front bytes)) in
    IsCharBoundary-at_seam bytes (word_at bytes) after split
    (drop n cs, (scalars-drop n cs (scalars-chars bytes utf8), refl))

front_word : (bytes : List ℕ) → IsUtf8 bytes → begins_letter (chars bytes) ≡ true → FrontWord bytes
front_word bytes utf8 letter =
    let cs = chars bytes in
    let n = prefix_len is_letter_or_digit cs in
    let name = identifier-front cs letter in
    let scalars = scalars-take n cs (scalars-chars bytes utf8) in
    let same = word_at-front bytes in
    let split = front_split bytes utf8 in
    elim (cases_Bool (is_among keywords (word_at bytes))) [
      | inl among ↦ record {
        spelling = keyword (word_at bytes);
        valid = among;
        after = split.0;
        split = split.1;
        printed = refl;
        shape = keyword_shape (word_at bytes) among;
      }
      | inr other ↦
          let elsewhere : is_among keywords (encode_utf8_all (front_of bytes)) ≡ false =
          ap (is_among keywords) (sym same) ∙ other in
          let word = word_of-identifier (front_of bytes) name scalars elsewhere in
          record {
            spelling = identifier (front_of bytes);
            valid = (name, scalars, elsewhere);
            after = split.0;
            split = split.1 ∙ ap (λ l. l ++ split.0) same;
            printed = sym same;
            shape = ap word_shape same ∙ word.shape;
          }
    ]

module _ (bytes : List ℕ) (front : FrontWord bytes) where
  word_within : (other : Spelling) (rest : List ℕ) → Word other
      → bytes ≡ print_spelling other ++ rest
      → length (print_spelling other) ≤ length (print_spelling front.spelling)
  word_within other rest w split =
      let within =
      name_within bytes w.characters rest w.is.name w.is.scalars
      (split ∙ ap (λ l. l ++ rest) w.is.printed) in
      omega (arith, ap length w.is.printed, ap length front.printed)

  same_word : (spelling : Spelling) (after : List ℕ) (w : Word spelling)
      → bytes ≡ print_spelling spelling ++ after → IsLongest spelling bytes
      → print_spelling spelling ≡ word_at bytes
  same_word spelling after w split long =
      let above = long front.spelling front.valid (front.after, front.split) in
      let below = word_within spelling after w split in
      same_fronts bytes (print_spelling spelling) (print_spelling front.spelling) after front.after
      split front.split (omega arith) ∙ front.printed

module _ (bytes : List ℕ) (utf8 : IsUtf8 bytes) (letter : begins_word bytes ≡ true)
    (number : begins_number bytes ≡ false) where
  -- a spelling that begins with a letter is a name
  begins_name : (spelling : Spelling) → IsSpelling spelling → Begins bytes (print_spelling spelling)
      → Word spelling
  begins_name spelling valid begins =
      word_of spelling (sym (lead_of-begins bytes spelling number valid begins)
      ∙ words_lead bytes letter) valid

  letter_first : begins_letter (chars bytes) ≡ true
  unfolding begins_word
  letter_first = letter

  pub name_found : (spelling : Spelling) (after : List ℕ) → SpelledAt bytes spelling after
      → word_shape (word_at bytes) ≡ shape_of (spelled spelling)
  name_found spelling after h =
      let front = front_word bytes utf8 letter_first in
      let w = begins_name spelling h.valid (after, h.split) in
      let same =
      same_word bytes front spelling after w h.split (longest bytes spelling after number h) in
      ap word_shape (sym same ∙ w.is.printed) ∙ w.is.shape

  pub name_stands : SpelledAs bytes (word_shape (word_at bytes))
  name_stands =
      let front = front_word bytes utf8 letter_first in
      record {
        spelling = front.spelling;
        after = front.after;
        stands = record {
          split = front.split;
          valid = front.valid;
          extent =
              extent_of-longest bytes front.spelling number
              (λ other valid begins. word_within bytes front other begins.0
              (begins_name other valid begins) begins.1);
        };
        same = sym front.shape;
      }
