-- What the first bytes of a spelling tell of its kind.
use Rattle.std.proofs.Common.{◌≡◌, ℕ, ◌≤◌, ◌<◌, Bool, true, false, ◌&&◌, ◌||◌, not, List, [], ◌∷◌}
use Rattle.std.proofs.Common.{◌++◌, length, ◌==◌, nat_eq, nat_lt, if◌then◌else◌, cond}
use Rattle.std.proofs.Common.{encode_utf8, encode_utf8_all, sym, ap, ◌∙◌, subst, refl, inl, inr}
use Rattle.std.proofs.Common.{arith, append_assoc, append-nil}
use Rattle.std.specs.List.{list_all, starts_with}
use Rattle.std.specs.Str.{bytes_eq, all_scalars, chars}
use Rattle.std.specs.Int.{is_in_range}
use Rattle.std.specs.Char.{is_ascii_digit, is_ascii_alphabetic}
use Rattle.std.proofs.lemmas.Bool.{and_parts, and_from, and_left, or_cases, eqb-true, eqb-false}
use Rattle.std.proofs.lemmas.Bool.{not-true, ne_eqb, ltb-true, lt-ltb}
use Rattle.std.proofs.lemmas.Bool.{both_ways, cases_lt, cases_Bool, false≢true}
use Rattle.std.proofs.lemmas.Bool.Decides.{Decides-eqb}
use Rattle.std.proofs.lemmas.Slice.Eq.{bytes_eq-Decides, starts_is}
use Rattle.std.proofs.lemmas.Str.{encode_same}
use lib.Utf8.{encode}
use Rattle.go_chars.specs.Letters.{is_letter}
use Rattle.go_chars.specs.Identifiers.{is_among, is_identifier, is_letter_or_digit, keywords}
use Rattle.go_chars.proofs.CharLaws.{ascii_letters, ascii_digits, mark_no_letter}
use Rattle.go_ast.specs.Characters.{is_white_space, double_quote, single_quote, back_quote}
use Rattle.go_ast.specs.Characters.{underscore, full_stop, Begins, byte_order_mark_bytes}
use Rattle.go_ast.specs.Numbers.{Digit, digit, separated, print_digits, are_digits, is_digit_of}
use Rattle.go_ast.specs.Numbers.{Integer, lone_zero, decimal, octal, based, print_integer}
use Rattle.go_ast.specs.Numbers.{is_integer, Mantissa, whole, pointed, print_mantissa, is_mantissa}
use Rattle.go_ast.specs.Numbers.{is_absent, print_exponent, is_exponent, Float, pointed_float}
use Rattle.go_ast.specs.Numbers.{scaled_float, hexadecimal_float, print_float, is_float, Imaginary}
use Rattle.go_ast.specs.Numbers.{of_integer, of_digits, of_float, print_part, is_imaginary}
use Rattle.go_ast.specs.Texts.{print_element, print_elements}
use Rattle.go_ast.specs.Lexical.{Spelling, identifier, keyword, operator, integer, float}
use Rattle.go_ast.specs.Lexical.{imaginary, rune, text, raw_text, semicolon, print_spelling}
use Rattle.go_ast.specs.Lexical.{IsSpelling, is_number, operators, begins_number}
use Rattle.go_scanner.specs.Shapes.{begins_word, begins_letter}
use Rattle.go_scanner.specs.Classes.{is_ascii_letter}
use Rattle.go_literals.proofs.Ascii.{below_range, by_table}
use Rattle.go_literals.proofs.Lists.{is_ascii, list_all-weaker}
use Rattle.go_literals.proofs.Characters.{chars-ascii, chars-front, encoded}

-- what holds of each word of a table holds of a word that is among them
pub test-is_among : (test : List ℕ → Bool) (table : List (List ℕ)) (word : List ℕ)
    → list_all test table ≡ true → is_among table word ≡ true → test word ≡ true
test-is_among test [] word all h = absurd (both_ways false refl h)
test-is_among test (x ∷ xs) word all h =
    let parts = and_parts (test x) (list_all test xs) all in
    elim (or_cases (bytes_eq word x) (is_among xs word) h) [
      | inl e ↦ ap test ((bytes_eq-Decides word x).0 e) ∙ parts.0
      | inr e ↦ test-is_among test xs word parts.1 e
    ]

pub digit_below : (b : ℕ) → is_ascii_digit b ≡ true → b < 128
digit_below b h = omega (arith, below_range 48 57 b h)

pub alphabetic_below : (b : ℕ) → is_ascii_alphabetic b ≡ true → b < 128
alphabetic_below b h = elim (or_cases (is_in_range 65 90 b) (is_in_range 97 122 b) h) [
  | inl e ↦ omega (arith, below_range 65 90 b e)
  | inr e ↦ omega (arith, below_range 97 122 b e)
]

pub letter_below : (b : ℕ) → is_ascii_letter b ≡ true → b < 128
letter_below b h = elim (or_cases (b == underscore) (is_ascii_alphabetic b) h) [
  | inl e ↦ omega (arith, eqb-true b underscore e)
  | inr e ↦ alphabetic_below b e
]

-- the letters and digits of ASCII
pub is_letter-ascii : (b : ℕ) → b < 128 → is_letter b ≡ is_ascii_letter b
is_letter-ascii b low = ap (λ t. b == underscore || t) (ascii_letters b low)

pub is_letter_or_digit-ascii : (b : ℕ) → b < 128
    → is_letter_or_digit b ≡ (is_ascii_letter b || is_ascii_digit b)
is_letter_or_digit-ascii b low = rw (is_letter-ascii b low, ascii_digits b low) refl

-- the kinds of spellings by what they begin with
pub data Lead : Type 0 where
  words texts runes raws semicolons marks numbers : Lead

abbrev pub mark_lead : ℕ → Lead
mark_lead b =
    if b == double_quote then texts
    else (if b == single_quote then runes
    else (if b == back_quote then raws else (if b == 59 then semicolons else marks)))

-- of a byte of ASCII
abbrev pub ascii_lead : ℕ → Lead
ascii_lead b = if is_ascii_letter b then words else mark_lead b

abbrev pub lead_of : List ℕ → Lead
lead_of [] = marks
lead_of (b ∷ bytes) = if begins_word (b ∷ bytes) then words else mark_lead b

abbrev pub leads : Spelling → Lead
leads (identifier characters) = words
leads (keyword word) = words
leads (text elements) = texts
leads (rune element) = runes
leads (raw_text content) = raws
leads semicolon = semicolons
leads (operator mark) = marks
leads (integer literal) = numbers
leads (float literal) = numbers
leads (imaginary literal) = numbers

pub begins_word-ascii : (b : ℕ) (bytes : List ℕ) → b < 128
    → begins_word (b ∷ bytes) ≡ is_ascii_letter b
unfolding begins_word
begins_word-ascii b bytes low = ap begins_letter (chars-ascii b bytes low) ∙ is_letter-ascii b low

pub lead_of-ascii : (b : ℕ) (bytes : List ℕ) → b < 128 → lead_of (b ∷ bytes) ≡ ascii_lead b
lead_of-ascii b bytes low = ap (λ t. cond t words (mark_lead b)) (begins_word-ascii b bytes low)

-- neither white space nor the first byte of the byte order mark
abbrev pub is_plain : ℕ → Bool
is_plain b = not (is_white_space b) && not (b == 0xEF)

-- bytes that begin with a plain byte don't begin with the mark
pub no_mark-plain : (b : ℕ) (bytes : List ℕ) → is_plain b ≡ true
    → starts_with nat_eq (b ∷ bytes) byte_order_mark_bytes ≡ false
no_mark-plain b bytes plain =
    let parts = and_parts (not (is_white_space b)) (not (b == 0xEF)) plain in
    and_left (nat_eq 0xEF b) _
    (ne_eqb 0xEF b (λ e. eqb-false b 0xEF (not-true (b == 0xEF) parts.1) (sym e)))

-- the first byte of a spelling
pub record FirstByte (printed : List ℕ) : Type 0 where
  pub byte : ℕ
  pub others : List ℕ
  pub split : printed ≡ byte ∷ others
  pub white : is_white_space byte ≡ false
  pub no_mark : (rest : List ℕ) → starts_with nat_eq (printed ++ rest) byte_order_mark_bytes ≡ false

pub plain_first : (b : ℕ) (others : List ℕ) → is_plain b ≡ true → FirstByte (b ∷ others)
plain_first b others plain = record {
  byte = b;
  others = others;
  split = refl;
  white =
      not-true (is_white_space b) (and_parts (not (is_white_space b)) (not (b == 0xEF)) plain).0;
  no_mark = λ rest. no_mark-plain b (others ++ rest) plain;
}

pub digit_plain : (b : ℕ) → is_ascii_digit b ≡ true → is_plain b ≡ true
digit_plain b h = by_table is_ascii_digit is_plain refl b (digit_below b h) h

letter_plain : (b : ℕ) → is_ascii_letter b ≡ true → is_plain b ≡ true
letter_plain b h = by_table is_ascii_letter is_plain refl b (letter_below b h) h

-- keywords are letters of ASCII
abbrev pub is_ascii_word : List ℕ → Bool
is_ascii_word [] = false
is_ascii_word (c ∷ cs) = is_ascii_letter c && list_all is_ascii_letter cs

keywords_are_words : list_all is_ascii_word keywords ≡ true
unfolding keywords
keywords_are_words = refl

pub keyword_word : (word : List ℕ) → is_among keywords word ≡ true → is_ascii_word word ≡ true
keyword_word word h = test-is_among is_ascii_word keywords word keywords_are_words h

pub ascii_word-ascii : (word : List ℕ) → is_ascii_word word ≡ true → list_all is_ascii word ≡ true
ascii_word-ascii [] h = refl
ascii_word-ascii (c ∷ cs) h =
    list_all-weaker is_ascii_letter is_ascii (λ b e. lt-ltb b 128 (letter_below b e)) (c ∷ cs) h

-- operators begin with a mark and have at most two bytes more
abbrev is_marks : Lead → Bool
is_marks marks = true
is_marks words = false
is_marks texts = false
is_marks runes = false
is_marks raws = false
is_marks semicolons = false
is_marks numbers = false

marks_from : (lead : Lead) → is_marks lead ≡ true → lead ≡ marks
marks_from marks h = refl
marks_from words h = cc
marks_from texts h = cc
marks_from runes h = cc
marks_from raws h = cc
marks_from semicolons h = cc
marks_from numbers h = cc

abbrev is_mark : List ℕ → Bool
is_mark [] = false
is_mark (b ∷ rest) = is_marks (ascii_lead b) && is_plain b && nat_lt b 128 && nat_lt (length rest) 3
    && list_all is_ascii rest

operators_are_marks : list_all is_mark operators ≡ true
unfolding operators
operators_are_marks = refl

pub record IsMark (mark : List ℕ) : Type 0 where
  pub byte : ℕ
  pub others : List ℕ
  pub split : mark ≡ byte ∷ others
  pub lead : ascii_lead byte ≡ marks
  pub plain : is_plain byte ≡ true
  pub low : byte < 128
  pub short : length others < 3
  pub ascii : list_all is_ascii mark ≡ true

is_mark-IsMark : (mark : List ℕ) → is_mark mark ≡ true → IsMark mark
is_mark-IsMark [] h = absurd (both_ways false refl h)
is_mark-IsMark (b ∷ rest) h =
    let one =
    and_parts (is_marks (ascii_lead b) && is_plain b && nat_lt b 128 && nat_lt (length rest) 3)
    (list_all is_ascii rest) h in
    let two =
    and_parts (is_marks (ascii_lead b) && is_plain b && nat_lt b 128)
    (nat_lt (length rest) 3) one.0 in
    let three = and_parts (is_marks (ascii_lead b) && is_plain b) (nat_lt b 128) two.0 in
    let four = and_parts (is_marks (ascii_lead b)) (is_plain b) three.0 in
    record {
      byte = b;
      others = rest;
      split = refl;
      lead = marks_from (ascii_lead b) four.0;
      plain = four.1;
      low = ltb-true b 128 three.1;
      short = ltb-true (length rest) 3 two.1;
      ascii = and_from (is_ascii b) (list_all is_ascii rest) three.1 one.1;
    }

pub operator_mark : (mark : List ℕ) → is_among operators mark ≡ true → IsMark mark
operator_mark mark h =
    is_mark-IsMark mark (test-is_among is_mark operators mark operators_are_marks h)

begins_split : (bytes front : List ℕ) → starts_with nat_eq bytes front ≡ true → (rest : List ℕ)
    × (bytes ≡ front ++ rest)
begins_split bytes front h =
    (_, (starts_is Decides-eqb bytes front (starts_with nat_eq bytes front) refl).0 h)

pub mark_encoded : encode 0xFEFF ≡ byte_order_mark_bytes
unfolding encode
mark_encoded = refl

letter_no_mark : (c : ℕ) (rest : List ℕ) → is_letter c ≡ true
    → starts_with nat_eq (encode_utf8 c ++ rest) byte_order_mark_bytes ≡ false
letter_no_mark c rest letter =
    elim (cases_Bool (starts_with nat_eq (encode_utf8 c ++ rest) byte_order_mark_bytes)) [
      | inr never ↦ never
      | inl sure ↦
          let found = begins_split (encode_utf8 c ++ rest) byte_order_mark_bytes sure in
          let same =
          encode_same c 0xFEFF rest found.0 (found.1 ∙ ap (λ l. l ++ found.0) (sym mark_encoded)) in
          absurd (false≢true (sym mark_no_letter ∙ ap is_letter (sym same.0) ∙ letter))
    ]

high_white : (b : ℕ) → 128 ≤ b → is_white_space b ≡ false
high_white b high =
    let s : (b == 32) ≡ false = ne_eqb b 32 (λ e. omega arith) in
    let t : (b == 9) ≡ false = ne_eqb b 9 (λ e. omega arith) in
    let r : (b == 13) ≡ false = ne_eqb b 13 (λ e. omega arith) in
    let n : (b == 10) ≡ false = ne_eqb b 10 (λ e. omega arith) in
    rw (s, t, r, n) refl

first_of_identifier : (c : ℕ) (cs : List ℕ) → is_letter c ≡ true
    → FirstByte (encode_utf8_all (c ∷ cs))
first_of_identifier c cs letter =
    let e = encoded c in
    record {
      byte = e.byte;
      others = e.others ++ encode_utf8_all cs;
      split = ap (λ l. l ++ encode_utf8_all cs) e.split;
      white = elim (cases_lt c 128) [
        | inl low ↦
            let a : is_ascii_letter c ≡ true = sym (is_letter-ascii c low) ∙ letter in
            ap is_white_space (e.low low)
            ∙ not-true (is_white_space c)
            (and_parts (not (is_white_space c)) (not (c == 0xEF)) (letter_plain c a)).0
        | inr high ↦ high_white e.byte (e.high high)
      ];
      no_mark =
          λ rest. ap (λ l. starts_with nat_eq l byte_order_mark_bytes)
          (append_assoc (encode_utf8 c) (encode_utf8_all cs) rest)
          ∙ letter_no_mark c (encode_utf8_all cs ++ rest) letter;
    }

identifier_first : (characters : List ℕ) → is_identifier characters ≡ true
    → FirstByte (encode_utf8_all characters)
identifier_first [] h = absurd (false≢true h)
identifier_first (c ∷ cs) h =
    first_of_identifier c cs (and_parts (is_letter c) (list_all is_letter_or_digit cs) h).0

word_first : (word : List ℕ) → is_ascii_word word ≡ true → FirstByte word
word_first [] h = absurd (false≢true h)
word_first (c ∷ cs) h =
    plain_first c cs
    (letter_plain c (and_parts (is_ascii_letter c) (list_all is_ascii_letter cs) h).0)

-- numbers begin with a digit, or with a point and a digit
pub record NumberFirst (printed : List ℕ) : Type 0 where
  pub first : FirstByte printed
  pub begins : (rest : List ℕ) → begins_number (printed ++ rest) ≡ true

pub digit_begins : (d : ℕ) (bytes : List ℕ) → is_ascii_digit d ≡ true
    → begins_number (d ∷ bytes) ≡ true
digit_begins d [] h = h
digit_begins d (c ∷ bytes) h = rw h refl

digit_first : (d : ℕ) (others : List ℕ) → is_ascii_digit d ≡ true → NumberFirst (d ∷ others)
digit_first d others h =
    record {
      first = plain_first d others (digit_plain d h);
      begins =
          λ rest. digit_begins d (others ++ rest) h;
    }

point_first : (d : ℕ) (others : List ℕ) → is_ascii_digit d ≡ true
    → NumberFirst (full_stop ∷ d ∷ others)
point_first d others h =
    record { first = plain_first full_stop (d ∷ others) refl; begins = λ rest. h }

digits_first : (ds : List Digit) (more : List ℕ) → are_digits is_ascii_digit false ds ≡ true
    → NumberFirst (print_digits ds ++ more)
digits_first [] more h = absurd (false≢true h)
digits_first (digit d ∷ ds) more h =
    digit_first d (print_digits ds ++ more)
    (and_parts (is_ascii_digit d) (list_all (is_digit_of is_ascii_digit) ds) h).0
digits_first (separated d ∷ ds) more h = absurd (false≢true h)

decimal_digit : (d : ℕ) → is_in_range 49 57 d ≡ true → is_ascii_digit d ≡ true
decimal_digit d h =
    by_table (is_in_range 49 57) is_ascii_digit refl d (omega (arith, below_range 49 57 d h)) h

integer_first : (literal : Integer) (more : List ℕ) → is_integer literal ≡ true
    → NumberFirst (print_integer literal ++ more)
integer_first lone_zero more h = digit_first 48 more refl
integer_first (decimal d ds) more h =
    digit_first d (print_digits ds ++ more)
    (decimal_digit d
    (and_parts (is_in_range 49 57 d) (list_all (is_digit_of is_ascii_digit) ds) h).0)
integer_first (octal ds) more h = digit_first 48 (print_digits ds ++ more) refl
integer_first (based letter ds) more h = digit_first 48 (letter ∷ print_digits ds ++ more) refl

fraction_first : (ds : List Digit) (more : List ℕ) → are_digits is_ascii_digit false ds ≡ true
    → NumberFirst (full_stop ∷ print_digits ds ++ more)
fraction_first [] more h = absurd (false≢true h)
fraction_first (digit d ∷ ds) more h =
    point_first d (print_digits ds ++ more)
    (and_parts (is_ascii_digit d) (list_all (is_digit_of is_ascii_digit) ds) h).0
fraction_first (separated d ∷ ds) more h = absurd (false≢true h)

mantissa_first : (mantissa : Mantissa) (more : List ℕ)
    → is_mantissa is_ascii_digit false mantissa ≡ true
    → NumberFirst (print_mantissa mantissa ++ more)
mantissa_first (whole ds) more h = digits_first ds more h
mantissa_first (pointed [] fraction) more h = fraction_first fraction more h
mantissa_first (pointed (d ∷ ds) fraction) more h =
    subst NumberFirst
    (sym (append_assoc (print_digits (d ∷ ds)) (full_stop ∷ print_digits fraction) more))
    (digits_first (d ∷ ds) (full_stop ∷ print_digits fraction ++ more)
    (and_parts (are_digits is_ascii_digit false (d ∷ ds))
    (is_absent fraction || are_digits is_ascii_digit false fraction) h).0)

float_first : (literal : Float) (more : List ℕ) → is_float literal ≡ true
    → NumberFirst (print_float literal ++ more)
float_first (pointed_float ds fraction) more h = mantissa_first (pointed ds fraction) more h
float_first (scaled_float mantissa power) more h =
    subst NumberFirst (sym (append_assoc (print_mantissa mantissa) (print_exponent power) more))
    (mantissa_first mantissa (print_exponent power ++ more)
    (and_parts (is_mantissa is_ascii_digit false mantissa) (is_exponent false power) h).0)
float_first (hexadecimal_float letter mantissa power) more h =
    digit_first 48 (letter ∷ (print_mantissa mantissa ++ print_exponent power) ++ more) refl

part_first : (literal : Imaginary) (more : List ℕ) → is_imaginary literal ≡ true
    → NumberFirst (print_part literal ++ more)
part_first (of_integer part) more h = integer_first part more h
part_first (of_digits ds) more h = digits_first ds more h
part_first (of_float part) more h = float_first part more h

without_more : (printed : List ℕ) → NumberFirst (printed ++ []) → NumberFirst printed
without_more printed h = subst NumberFirst (append-nil printed) h

pub number_first : (spelling : Spelling) → IsSpelling spelling → is_number spelling ≡ true
    → NumberFirst (print_spelling spelling)
number_first (integer literal) h n =
    without_more (print_integer literal) (integer_first literal [] h)
number_first (float literal) h n = without_more (print_float literal) (float_first literal [] h)
number_first (imaginary literal) h n = part_first literal (105 ∷ []) h
number_first (identifier characters) h n = absurd (false≢true n)
number_first (keyword word) h n = absurd (false≢true n)
number_first (operator mark) h n = absurd (false≢true n)
number_first (rune element) h n = absurd (false≢true n)
number_first (text elements) h n = absurd (false≢true n)
number_first (raw_text content) h n = absurd (false≢true n)
number_first semicolon h n = absurd (false≢true n)

pub first_byte : (spelling : Spelling) → IsSpelling spelling → FirstByte (print_spelling spelling)
first_byte (identifier characters) h = identifier_first characters h.0
first_byte (keyword word) h = word_first word (keyword_word word h)
first_byte (operator mark) h = let m = operator_mark mark h in
    subst FirstByte (sym m.split) (plain_first m.byte m.others m.plain)
first_byte (integer literal) h = (number_first (integer literal) h refl).first
first_byte (float literal) h = (number_first (float literal) h refl).first
first_byte (imaginary literal) h = (number_first (imaginary literal) h refl).first
first_byte (rune element) h =
    plain_first single_quote (print_element element ++ single_quote ∷ []) refl
first_byte (text elements) h =
    plain_first double_quote (print_elements elements ++ double_quote ∷ []) refl
first_byte (raw_text content) h = plain_first back_quote (content ++ back_quote ∷ []) refl
first_byte semicolon h = plain_first 59 [] refl

-- a spelling that is never number tells its kind
word_lead : (word rest : List ℕ) → is_ascii_word word ≡ true → lead_of (word ++ rest) ≡ words
word_lead [] rest h = absurd (false≢true h)
word_lead (c ∷ cs) rest h =
    let letter = (and_parts (is_ascii_letter c) (list_all is_ascii_letter cs) h).0 in
    lead_of-ascii c (cs ++ rest) (letter_below c letter) ∙ rw letter refl

pub words_lead : (bytes : List ℕ) → begins_word bytes ≡ true → lead_of bytes ≡ words
unfolding begins_word chars
words_lead [] h = absurd (false≢true h)
words_lead (b ∷ bytes) h = ap (λ t. cond t words (mark_lead b)) h

pub begins_word-identifier : (characters rest : List ℕ) → is_identifier characters ≡ true
    → all_scalars characters ≡ true → begins_word (encode_utf8_all characters ++ rest) ≡ true
unfolding begins_word
begins_word-identifier [] rest h all = absurd (false≢true h)
begins_word-identifier (c ∷ cs) rest h all =
    ap begins_letter (chars-front (c ∷ cs) rest all)
    ∙ (and_parts (is_letter c) (list_all is_letter_or_digit cs) h).0

pub lead_of-print : (spelling : Spelling) (rest : List ℕ) → IsSpelling spelling
    → is_number spelling ≡ false → lead_of (print_spelling spelling ++ rest) ≡ leads spelling
lead_of-print (identifier characters) rest h n =
    words_lead (encode_utf8_all characters ++ rest) (begins_word-identifier characters rest h.0 h.1)
lead_of-print (keyword word) rest h n = word_lead word rest (keyword_word word h)
lead_of-print (operator mark) rest h n =
    let m = operator_mark mark h in
    ap (λ l. lead_of (l ++ rest)) m.split ∙ lead_of-ascii m.byte (m.others ++ rest) m.low ∙ m.lead
lead_of-print (rune element) rest h n = lead_of-ascii single_quote _ (omega arith)
lead_of-print (text elements) rest h n = lead_of-ascii double_quote _ (omega arith)
lead_of-print (raw_text content) rest h n = lead_of-ascii back_quote _ (omega arith)
lead_of-print semicolon rest h n = lead_of-ascii 59 rest (omega arith)
lead_of-print (integer literal) rest h n = absurd (false≢true (sym n))
lead_of-print (float literal) rest h n = absurd (false≢true (sym n))
lead_of-print (imaginary literal) rest h n = absurd (false≢true (sym n))

-- where never number begins, what the bytes begin with tells the kind of a spelling there
pub lead_of-begins : (bytes : List ℕ) (spelling : Spelling) → begins_number bytes ≡ false
    → IsSpelling spelling → Begins bytes (print_spelling spelling) → lead_of bytes ≡ leads spelling
lead_of-begins bytes spelling none valid begins = elim (cases_Bool (is_number spelling)) [
  | inl number ↦
      let first = number_first spelling valid number in
      absurd (false≢true (sym none ∙ ap begins_number begins.1 ∙ first.begins begins.0))
  | inr other ↦ ap lead_of begins.1 ∙ lead_of-print spelling begins.0 valid other
]
