-- What stands at the front, by the class of the first byte.
use Rattle.std.proofs.Common.{◌≡◌, ◌==◌, ℕ, suc, ◌<◌, ◌≤◌, Bool, true, false, ◌&&◌, ◌||◌, not}
use Rattle.std.proofs.Common.{List, [], ◌∷◌, length, drop, take, get_or, nat_eq, nat_lt, Some}
use Rattle.std.proofs.Common.{None, sym, ap, ◌∙◌, subst, refl, inl, inr, arith}
use Rattle.std.specs.Char.{is_ascii_digit}
use Rattle.std.proofs.lemmas.Bool.{or_cases, and_parts, or_parts, not-true, eqb-true, eqb-false}
use Rattle.std.proofs.lemmas.Bool.{eq-eqb}
use Rattle.std.proofs.lemmas.Bool.{ne_eqb, le-ltb, cases_Bool, cases_lt, agree_below, false≢true}
use Rattle.go_chars.specs.Identifiers.{is_among}
use Rattle.go_ast.specs.Characters.{newline, full_stop, double_quote, single_quote, back_quote}
use Rattle.go_ast.specs.Characters.{is_white_space}
use Rattle.go_ast.specs.Lexical.{operators, begins_number, begins_comment}
use Rattle.go_ast.specs.declared.token.TokenKind.TheVariants.{Operator, Semi}
use Rattle.go_scanner.specs.declared.class.Class.{Class}
use Rattle.go_scanner.specs.declared.class.Class.TheVariants as class
use Rattle.go_scanner.specs.declared.shape.Shape.TheVariants.{Blank, LineEnd, Comment, Token}
use Rattle.go_scanner.specs.Classes.{is_ascii_letter, is_closing, is_lone, class_of}
use Rattle.go_scanner.proofs.Marks.{operator_shape_of_length}
use Rattle.go_scanner.specs.Shapes.{item_shape, comment_length, general_shape, number_shape}
use Rattle.go_scanner.specs.FrontWords.{word_at}
use Rattle.go_scanner.specs.Shapes.{begins_word, word_shape, text_shape, rune_shape}
use Rattle.go_scanner.specs.Shapes.{raw_shape, operator_shape, marked_shape, spelling_shape}
use Rattle.go_literals.proofs.Ascii.{implies, by_table}
use Rattle.go_scanner.proofs.Standing.FirstBytes.{letter_below, digit_below}
use Rattle.go_scanner.proofs.Standing.FirstBytes.{begins_word-ascii, digit_begins, operator_mark}
use Rattle.go_scanner.proofs.Standing.Items.{spelling_item}
use Rattle.go_scanner.proofs.Standing.Spellings.{shape-number, shape-name, shape-marked}
use Rattle.go_scanner.proofs.Standing.Spellings.{marked-text, marked-rune, marked-raw}
use Rattle.go_scanner.proofs.Standing.Spellings.{marked-semicolon, marked-operator}

-- the number of a class
abbrev code : Class → ℕ
code class.LineEnd = 0
code class.Blank = 1
code class.Letter = 2
code class.Digit = 3
code class.DoubleQuote = 4
code class.SingleQuote = 5
code class.BackQuote = 6
code class.Semicolon = 7
code class.Slash = 8
code class.Point = 9
code class.Wide = 10
code class.Other = 11
code class.Closing = 12
code class.Lone = 13

abbrev is_class : ℕ → ℕ → Bool
is_class k b = code (class_of b) == k

in_class : (c : Class) (b : ℕ) → class_of b ≡ c → is_class (code c) b ≡ true
in_class c b h = ap (λ x. code x == code c) h ∙ eq-eqb (code c) (code c) refl

high_letter : (b : ℕ) → 128 ≤ b → is_ascii_letter b ≡ false
high_letter b high =
    elim (cases_Bool (is_ascii_letter b))
    [ inr never ↦ never | inl sure ↦ absurd (omega (arith, letter_below b sure)) ]

high_digit : (b : ℕ) → 128 ≤ b → is_ascii_digit b ≡ false
high_digit b high =
    elim (cases_Bool (is_ascii_digit b))
    [ inr never ↦ never | inl sure ↦ absurd (omega (arith, digit_below b sure)) ]

high_closing : (b : ℕ) → 128 ≤ b → is_closing b ≡ false
high_closing b high =
    let e : (b == 41) ≡ false = ne_eqb b 41 (λ e. omega arith) in
    let f : (b == 93) ≡ false = ne_eqb b 93 (λ e. omega arith) in
    let g : (b == 125) ≡ false = ne_eqb b 125 (λ e. omega arith) in
    rw (e, f, g) refl

high_lone : (b : ℕ) → 128 ≤ b → is_lone b ≡ false
high_lone b high =
    let e : (b == 40) ≡ false = ne_eqb b 40 (λ e. omega arith) in
    let f : (b == 44) ≡ false = ne_eqb b 44 (λ e. omega arith) in
    let g : (b == 91) ≡ false = ne_eqb b 91 (λ e. omega arith) in
    let h : (b == 123) ≡ false = ne_eqb b 123 (λ e. omega arith) in
    let i : (b == 126) ≡ false = ne_eqb b 126 (λ e. omega arith) in
    rw (e, f, g, h, i) refl

-- a byte past ASCII passes no test of ASCII
high_class : (b : ℕ) → 128 ≤ b → class_of b ≡ class.Wide
high_class b high =
    let n : (b == newline) ≡ false = ne_eqb b newline (λ e. omega arith) in
    let s : (b == 32) ≡ false = ne_eqb b 32 (λ e. omega arith) in
    let t : (b == 9) ≡ false = ne_eqb b 9 (λ e. omega arith) in
    let r : (b == 13) ≡ false = ne_eqb b 13 (λ e. omega arith) in
    let l : is_ascii_letter b ≡ false = high_letter b high in
    let d : is_ascii_digit b ≡ false = high_digit b high in
    let q : (b == double_quote) ≡ false = ne_eqb b double_quote (λ e. omega arith) in
    let o : (b == single_quote) ≡ false = ne_eqb b single_quote (λ e. omega arith) in
    let k : (b == back_quote) ≡ false = ne_eqb b back_quote (λ e. omega arith) in
    let m : (b == 59) ≡ false = ne_eqb b 59 (λ e. omega arith) in
    let v : (b == 47) ≡ false = ne_eqb b 47 (λ e. omega arith) in
    let p : (b == full_stop) ≡ false = ne_eqb b full_stop (λ e. omega arith) in
    let w : nat_lt b 128 ≡ false = le-ltb b 128 high in
    let x = high_closing b high in
    let y = high_lone b high in
    rw (n, s, t, r, l, d, q, o, k, m, v, p, x, y, w) refl

-- the bytes of a class other than the wide one
class_test : (c : Class) (test : ℕ → Bool)
    → agree_below (implies (is_class (code c)) test) (λ _. true) 128 ≡ true → (code c == 10) ≡ false
    → (b : ℕ) → class_of b ≡ c → test b ≡ true
class_test c test table other b h = elim (cases_lt b 128) [
  | inl low ↦ by_table (is_class (code c)) test table b low (in_class c b h)
  | inr high ↦ absurd (false≢true (sym other ∙ ap (λ x. code x == 10) (sym h ∙ high_class b high)))
]

class_low : (c : Class) → (code c == 10) ≡ false → (b : ℕ) → class_of b ≡ c → b < 128
class_low c other b h = elim (cases_lt b 128) [
  | inl low ↦ low
  | inr high ↦ absurd (false≢true (sym other ∙ ap (λ x. code x == 10) (sym h ∙ high_class b high)))
]

-- where a number begins
unnumbered : (b : ℕ) (rest : List ℕ) → is_ascii_digit b ≡ false → (b == full_stop) ≡ false
    → begins_number (b ∷ rest) ≡ false
unnumbered b [] digit point = digit
unnumbered b (c ∷ rest) digit point = rw (digit, point) refl

plain_item : (b : ℕ) (rest : List ℕ) → is_white_space b ≡ false → (b == 47) ≡ false
    → item_shape (b ∷ rest) ≡ spelling_shape b (b ∷ rest)
plain_item b rest white slash =
    let other : nat_eq 47 b ≡ false = ne_eqb 47 b (λ e. eqb-false b 47 slash (sym e)) in
    let none : begins_comment (b ∷ rest) ≡ false = rw other refl in
    spelling_item b rest white none

pub line_end : (b : ℕ) (rest : List ℕ) → class_of b ≡ class.LineEnd
    → item_shape (b ∷ rest) ≡ Some LineEnd
unfolding item_shape
line_end b rest h =
    let line : (b == newline) ≡ true = class_test class.LineEnd (λ b. b == newline) refl refl b h in
    rw line refl

pub blank : (b : ℕ) (rest : List ℕ) → class_of b ≡ class.Blank
    → item_shape (b ∷ rest) ≡ Some (Blank 1)
unfolding item_shape
blank b rest h =
    let parts =
    and_parts (not (b == newline)) (is_white_space b)
    (class_test class.Blank (λ b. not (b == newline) && is_white_space b) refl refl b h) in
    let line = not-true (b == newline) parts.0 in
    let white = parts.1 in
    rw (white, line) refl

pub letter : (b : ℕ) (rest : List ℕ) → class_of b ≡ class.Letter
    → item_shape (b ∷ rest) ≡ Some (word_shape (word_at (b ∷ rest)))
letter b rest h =
    let white =
    not-true (is_white_space b)
    (class_test class.Letter (λ b. not (is_white_space b)) refl refl b h) in
    let slash = not-true (b == 47) (class_test class.Letter (λ b. not (b == 47)) refl refl b h) in
    let digit =
    not-true (is_ascii_digit b)
    (class_test class.Letter (λ b. not (is_ascii_digit b)) refl refl b h) in
    let point =
    not-true (b == full_stop)
    (class_test class.Letter (λ b. not (b == full_stop)) refl refl b h) in
    let word = begins_word-ascii b rest (class_low class.Letter refl b h)
    ∙ class_test class.Letter is_ascii_letter refl refl b h in
    plain_item b rest white slash ∙ shape-name b (b ∷ rest) (unnumbered b rest digit point) word

pub digit : (b : ℕ) (rest : List ℕ) → class_of b ≡ class.Digit
    → item_shape (b ∷ rest) ≡ number_shape (b ∷ rest)
digit b rest h =
    let white =
    not-true (is_white_space b)
    (class_test class.Digit (λ b. not (is_white_space b)) refl refl b h) in
    let slash = not-true (b == 47) (class_test class.Digit (λ b. not (b == 47)) refl refl b h) in
    let sure = class_test class.Digit is_ascii_digit refl refl b h in
    plain_item b rest white slash ∙ shape-number b (b ∷ rest) (digit_begins b rest sure)

-- a byte of ASCII that begins neither a number nor a word nor a comment
marked_item : (b : ℕ) (rest : List ℕ) → b < 128 → is_white_space b ≡ false → (b == 47) ≡ false
    → is_ascii_digit b ≡ false → (b == full_stop) ≡ false → is_ascii_letter b ≡ false
    → item_shape (b ∷ rest) ≡ marked_shape b (b ∷ rest)
marked_item b rest low white slash digit point letter =
    plain_item b rest white slash
    ∙ shape-marked b (b ∷ rest) (unnumbered b rest digit point)
    (begins_word-ascii b rest low ∙ letter)

pub double : (b : ℕ) (rest : List ℕ) → class_of b ≡ class.DoubleQuote
    → item_shape (b ∷ rest) ≡ text_shape rest
double b rest h =
    let same : b ≡ double_quote =
    eqb-true b double_quote
    (class_test class.DoubleQuote (λ b. b == double_quote) refl refl b h) in
    subst (λ x. item_shape (x ∷ rest) ≡ text_shape rest) (sym same)
    (marked_item double_quote rest (omega arith) refl refl refl refl refl
    ∙ marked-text double_quote (double_quote ∷ rest) refl)

pub single : (b : ℕ) (rest : List ℕ) → class_of b ≡ class.SingleQuote
    → item_shape (b ∷ rest) ≡ rune_shape rest
single b rest h =
    let same : b ≡ single_quote =
    eqb-true b single_quote
    (class_test class.SingleQuote (λ b. b == single_quote) refl refl b h) in
    subst (λ x. item_shape (x ∷ rest) ≡ rune_shape rest) (sym same)
    (marked_item single_quote rest (omega arith) refl refl refl refl refl
    ∙ marked-rune single_quote (single_quote ∷ rest) refl refl)

pub back : (b : ℕ) (rest : List ℕ) → class_of b ≡ class.BackQuote
    → item_shape (b ∷ rest) ≡ raw_shape rest
back b rest h =
    let same : b ≡ back_quote =
    eqb-true b back_quote (class_test class.BackQuote (λ b. b == back_quote) refl refl b h) in
    subst (λ x. item_shape (x ∷ rest) ≡ raw_shape rest) (sym same)
    (marked_item back_quote rest (omega arith) refl refl refl refl refl
    ∙ marked-raw back_quote (back_quote ∷ rest) refl refl refl)

pub semicolon : (b : ℕ) (rest : List ℕ) → class_of b ≡ class.Semicolon
    → item_shape (b ∷ rest) ≡ Some (Token Semi false 1)
semicolon b rest h =
    let same : b ≡ 59 = eqb-true b 59 (class_test class.Semicolon (λ b. b == 59) refl refl b h) in
    subst (λ x. item_shape (x ∷ rest) ≡ Some (Token Semi false 1)) (sym same)
    (marked_item 59 rest (omega arith) refl refl refl refl refl
    ∙ marked-semicolon 59 (59 ∷ rest) refl refl refl refl)

abbrev is_operator_byte : ℕ → Bool
is_operator_byte b =
    not (is_white_space b || b == 47 || is_ascii_digit b || b == full_stop || is_ascii_letter b
    || b == double_quote || b == single_quote || b == back_quote || b == 59)

operator_item : (b : ℕ) (rest : List ℕ) → is_operator_byte b ≡ true → b < 128
    → item_shape (b ∷ rest) ≡ operator_shape (b ∷ rest)
operator_item b rest mark low =
    let none = not-true _ mark in
    let a =
    or_parts
    (is_white_space b || b == 47 || is_ascii_digit b || b == full_stop || is_ascii_letter b
    || b == double_quote || b == single_quote || b == back_quote) (b == 59) none in
    let e =
    or_parts
    (is_white_space b || b == 47 || is_ascii_digit b || b == full_stop || is_ascii_letter b
    || b == double_quote || b == single_quote) (b == back_quote) a.0 in
    let f =
    or_parts
    (is_white_space b || b == 47 || is_ascii_digit b || b == full_stop || is_ascii_letter b
    || b == double_quote) (b == single_quote) e.0 in
    let g =
    or_parts
    (is_white_space b || b == 47 || is_ascii_digit b || b == full_stop || is_ascii_letter b)
    (b == double_quote) f.0 in
    let i =
    or_parts (is_white_space b || b == 47 || is_ascii_digit b || b == full_stop)
    (is_ascii_letter b) g.0 in
    let j = or_parts (is_white_space b || b == 47 || is_ascii_digit b) (b == full_stop) i.0 in
    let k = or_parts (is_white_space b || b == 47) (is_ascii_digit b) j.0 in
    let l = or_parts (is_white_space b) (b == 47) k.0 in
    marked_item b rest low l.0 l.1 k.1 j.1 i.1 ∙ marked-operator b (b ∷ rest) g.1 f.1 e.1 a.1

pub other : (b : ℕ) (rest : List ℕ) → class_of b ≡ class.Other
    → item_shape (b ∷ rest) ≡ operator_shape (b ∷ rest)
other b rest h =
    operator_item b rest (class_test class.Other is_operator_byte refl refl b h)
    (class_low class.Other refl b h)

closing_shape : (b : ℕ) (rest : List ℕ) → is_closing b ≡ true
    → operator_shape (b ∷ rest) ≡ Some (Token Operator true 1)
closing_shape b rest h = elim (or_cases (b == 41 || b == 93) (b == 125) h) [
  | inl e ↦ elim (or_cases (b == 41) (b == 93) e) [
    | inl f ↦ rw (eqb-true b 41 f) (operator_shape_of_length (41 ∷ rest))
    | inr f ↦ rw (eqb-true b 93 f) (operator_shape_of_length (93 ∷ rest))
  ]
  | inr e ↦ rw (eqb-true b 125 e) (operator_shape_of_length (125 ∷ rest))
]

lone_shape : (b : ℕ) (rest : List ℕ) → is_lone b ≡ true
    → operator_shape (b ∷ rest) ≡ Some (Token Operator false 1)
lone_shape b rest h = elim (or_cases (b == 40 || b == 44 || b == 91 || b == 123) (b == 126) h) [
  | inl e ↦ elim (or_cases (b == 40 || b == 44 || b == 91) (b == 123) e) [
    | inl f ↦ elim (or_cases (b == 40 || b == 44) (b == 91) f) [
      | inl g ↦ elim (or_cases (b == 40) (b == 44) g) [
        | inl i ↦ rw (eqb-true b 40 i) (operator_shape_of_length (40 ∷ rest))
        | inr i ↦ rw (eqb-true b 44 i) (operator_shape_of_length (44 ∷ rest))
      ]
      | inr g ↦ rw (eqb-true b 91 g) (operator_shape_of_length (91 ∷ rest))
    ]
    | inr f ↦ rw (eqb-true b 123 f) (operator_shape_of_length (123 ∷ rest))
  ]
  | inr e ↦ rw (eqb-true b 126 e) (operator_shape_of_length (126 ∷ rest))
]

pub closing : (b : ℕ) (rest : List ℕ) → class_of b ≡ class.Closing
    → item_shape (b ∷ rest) ≡ Some (Token Operator true 1)
closing b rest h =
    operator_item b rest (class_test class.Closing is_operator_byte refl refl b h)
    (class_low class.Closing refl b h)
    ∙ closing_shape b rest (class_test class.Closing is_closing refl refl b h)

pub lone : (b : ℕ) (rest : List ℕ) → class_of b ≡ class.Lone
    → item_shape (b ∷ rest) ≡ Some (Token Operator false 1)
lone b rest h =
    operator_item b rest (class_test class.Lone is_operator_byte refl refl b h)
    (class_low class.Lone refl b h)
    ∙ lone_shape b rest (class_test class.Lone is_lone refl refl b h)

-- a slash
pub slash_line : (rest : List ℕ)
    → item_shape (47 ∷ 47 ∷ rest) ≡ Some (Comment (comment_length (47 ∷ 47 ∷ rest)))
unfolding item_shape
slash_line rest = refl

pub slash_general : (rest : List ℕ) → item_shape (47 ∷ 42 ∷ rest) ≡ general_shape rest
unfolding item_shape
slash_general rest = refl

slash_spelled : (rest : List ℕ) → begins_comment (47 ∷ rest) ≡ false
    → item_shape (47 ∷ rest) ≡ operator_shape (47 ∷ rest)
slash_spelled rest none =
    spelling_item 47 rest refl none
    ∙ shape-marked 47 (47 ∷ rest) (unnumbered 47 rest refl refl)
    (begins_word-ascii 47 rest (omega arith))
    ∙ marked-operator 47 (47 ∷ rest) refl refl refl refl

pub slash_alone : item_shape (47 ∷ []) ≡ operator_shape (47 ∷ [])
slash_alone = slash_spelled [] refl

pub slash_other : (b : ℕ) (rest : List ℕ) → (b ≡ 47 → ⊥) → (b ≡ 42 → ⊥)
    → item_shape (47 ∷ b ∷ rest) ≡ operator_shape (47 ∷ b ∷ rest)
slash_other b rest line general =
    let l : nat_eq 47 b ≡ false = ne_eqb 47 b (λ e. line (sym e)) in
    let g : nat_eq 42 b ≡ false = ne_eqb 42 b (λ e. general (sym e)) in
    slash_spelled (b ∷ rest) (rw (l, g) refl)

-- a full stop
pub point_number : (rest : List ℕ) → begins_number (46 ∷ rest) ≡ true
    → item_shape (46 ∷ rest) ≡ number_shape (46 ∷ rest)
point_number rest number = plain_item 46 rest refl refl ∙ shape-number 46 (46 ∷ rest) number

pub point_other : (rest : List ℕ) → begins_number (46 ∷ rest) ≡ false
    → item_shape (46 ∷ rest) ≡ operator_shape (46 ∷ rest)
point_other rest number =
    plain_item 46 rest refl refl
    ∙ shape-marked 46 (46 ∷ rest) number (begins_word-ascii 46 rest (omega arith))
    ∙ marked-operator 46 (46 ∷ rest) refl refl refl refl

-- past ASCII
wide_high : (b : ℕ) → class_of b ≡ class.Wide → 128 ≤ b
wide_high b h = elim (cases_lt b 128) [
  | inr high ↦ high
  | inl low ↦
      absurd (false≢true
      (sym refl ∙ by_table (is_class 10) (λ _. false) refl b low (in_class class.Wide b h)))
]

among_low : (b : ℕ) (rest : List ℕ) (n : ℕ) → 128 ≤ b
    → is_among operators (take (suc n) (b ∷ rest)) ≡ false
among_low b rest n high = elim (cases_Bool (is_among operators (take (suc n) (b ∷ rest)))) [
  | inr never ↦ never
  | inl sure ↦
      let m = operator_mark (take (suc n) (b ∷ rest)) sure in
      let same : b ≡ m.byte = cc in
      absurd (omega (arith, m.low))
]

no_operator : (b : ℕ) (rest : List ℕ) → 128 ≤ b → operator_shape (b ∷ rest) ≡ None
unfolding operator_shape
no_operator b rest high =
    let three = among_low b rest 2 high in
    let two = among_low b rest 1 high in
    let one = among_low b rest 0 high in
    rw (three, two, one) refl

wide_white : (b : ℕ) → 128 ≤ b → is_white_space b ≡ false
wide_white b high =
    let s : (b == 32) ≡ false = ne_eqb b 32 (λ e. omega arith) in
    let t : (b == 9) ≡ false = ne_eqb b 9 (λ e. omega arith) in
    let r : (b == 13) ≡ false = ne_eqb b 13 (λ e. omega arith) in
    let n : (b == 10) ≡ false = ne_eqb b 10 (λ e. omega arith) in
    rw (s, t, r, n) refl

pub wide_word : (b : ℕ) (rest : List ℕ) → class_of b ≡ class.Wide → begins_word (b ∷ rest) ≡ true
    → item_shape (b ∷ rest) ≡ Some (word_shape (word_at (b ∷ rest)))
wide_word b rest h word =
    let high = wide_high b h in
    plain_item b rest (wide_white b high) (ne_eqb b 47 (λ e. omega arith))
    ∙ shape-name b (b ∷ rest)
    (unnumbered b rest (high_digit b high) (ne_eqb b full_stop (λ e. omega arith))) word

pub wide_none : (b : ℕ) (rest : List ℕ) → class_of b ≡ class.Wide → begins_word (b ∷ rest) ≡ false
    → item_shape (b ∷ rest) ≡ None
wide_none b rest h word =
    let high = wide_high b h in
    plain_item b rest (wide_white b high) (ne_eqb b 47 (λ e. omega arith))
    ∙ shape-marked b (b ∷ rest)
    (unnumbered b rest (high_digit b high) (ne_eqb b full_stop (λ e. omega arith))) word
    ∙ marked-operator b (b ∷ rest) (ne_eqb b double_quote (λ e. omega arith))
    (ne_eqb b single_quote (λ e. omega arith)) (ne_eqb b back_quote (λ e. omega arith))
    (ne_eqb b 59 (λ e. omega arith))
    ∙ no_operator b rest high

no_wide : class_of 0 ≡ class.Wide → ⊥
no_wide h = cc

pub nothing : item_shape [] ≡ None
unfolding item_shape
nothing = refl

-- the same of some bytes, by the class of their first
pub at_line_end : (bytes : List ℕ) → 0 < length bytes → class_of (get_or bytes 0 0) ≡ class.LineEnd
    → item_shape bytes ≡ Some LineEnd
at_line_end [] some h = absurd (omega arith)
at_line_end (b ∷ rest) some h = line_end b rest h

pub at_blank : (bytes : List ℕ) → 0 < length bytes → class_of (get_or bytes 0 0) ≡ class.Blank
    → item_shape bytes ≡ Some (Blank 1)
at_blank [] some h = absurd (omega arith)
at_blank (b ∷ rest) some h = blank b rest h

pub at_letter : (bytes : List ℕ) → 0 < length bytes → class_of (get_or bytes 0 0) ≡ class.Letter
    → item_shape bytes ≡ Some (word_shape (word_at bytes))
at_letter [] some h = absurd (omega arith)
at_letter (b ∷ rest) some h = letter b rest h

pub at_digit : (bytes : List ℕ) → 0 < length bytes → class_of (get_or bytes 0 0) ≡ class.Digit
    → item_shape bytes ≡ number_shape bytes
at_digit [] some h = absurd (omega arith)
at_digit (b ∷ rest) some h = digit b rest h

pub at_double : (bytes : List ℕ) → 0 < length bytes
    → class_of (get_or bytes 0 0) ≡ class.DoubleQuote → item_shape bytes ≡ text_shape (drop 1 bytes)
at_double [] some h = absurd (omega arith)
at_double (b ∷ rest) some h = double b rest h

pub at_single : (bytes : List ℕ) → 0 < length bytes
    → class_of (get_or bytes 0 0) ≡ class.SingleQuote → item_shape bytes ≡ rune_shape (drop 1 bytes)
at_single [] some h = absurd (omega arith)
at_single (b ∷ rest) some h = single b rest h

pub at_back : (bytes : List ℕ) → 0 < length bytes → class_of (get_or bytes 0 0) ≡ class.BackQuote
    → item_shape bytes ≡ raw_shape (drop 1 bytes)
at_back [] some h = absurd (omega arith)
at_back (b ∷ rest) some h = back b rest h

pub at_semicolon : (bytes : List ℕ) → 0 < length bytes
    → class_of (get_or bytes 0 0) ≡ class.Semicolon → item_shape bytes ≡ Some (Token Semi false 1)
at_semicolon [] some h = absurd (omega arith)
at_semicolon (b ∷ rest) some h = semicolon b rest h

pub at_closing : (bytes : List ℕ) → 0 < length bytes → class_of (get_or bytes 0 0) ≡ class.Closing
    → item_shape bytes ≡ Some (Token Operator true 1)
at_closing [] some h = absurd (omega arith)
at_closing (b ∷ rest) some h = closing b rest h

pub at_lone : (bytes : List ℕ) → 0 < length bytes → class_of (get_or bytes 0 0) ≡ class.Lone
    → item_shape bytes ≡ Some (Token Operator false 1)
at_lone [] some h = absurd (omega arith)
at_lone (b ∷ rest) some h = lone b rest h

pub at_other : (bytes : List ℕ) → 0 < length bytes → class_of (get_or bytes 0 0) ≡ class.Other
    → item_shape bytes ≡ operator_shape bytes
at_other [] some h = absurd (omega arith)
at_other (b ∷ rest) some h = other b rest h

pub at_wide_word : (bytes : List ℕ) → class_of (get_or bytes 0 0) ≡ class.Wide
    → begins_word bytes ≡ true → item_shape bytes ≡ Some (word_shape (word_at bytes))
at_wide_word [] h word = absurd (no_wide h)
at_wide_word (b ∷ rest) h word = wide_word b rest h word

pub at_wide_none : (bytes : List ℕ) → class_of (get_or bytes 0 0) ≡ class.Wide
    → begins_word bytes ≡ false → item_shape bytes ≡ None
at_wide_none [] h word = nothing
at_wide_none (b ∷ rest) h word = wide_none b rest h word

pub at_point_number : (bytes : List ℕ) → get_or bytes 0 0 ≡ 46 → begins_number bytes ≡ true
    → item_shape bytes ≡ number_shape bytes
at_point_number [] h number = absurd (omega arith)
at_point_number (b ∷ rest) h number =
    subst (λ x. begins_number (x ∷ rest) ≡ true → item_shape (x ∷ rest) ≡ number_shape (x ∷ rest))
    (sym h) (point_number rest) number

pub at_point_other : (bytes : List ℕ) → get_or bytes 0 0 ≡ 46 → begins_number bytes ≡ false
    → item_shape bytes ≡ operator_shape bytes
at_point_other [] h number = absurd (omega arith)
at_point_other (b ∷ rest) h number =
    subst (λ x. begins_number (x ∷ rest) ≡ false
    → item_shape (x ∷ rest) ≡ operator_shape (x ∷ rest)) (sym h) (point_other rest) number

pub at_slash_line : (bytes : List ℕ) → get_or bytes 0 0 ≡ 47 → get_or bytes 1 0 ≡ 47
    → item_shape bytes ≡ Some (Comment (comment_length bytes))
at_slash_line [] h k = absurd (omega arith)
at_slash_line (a ∷ []) h k = absurd (omega arith)
at_slash_line (a ∷ b ∷ rest) h k =
    subst (λ x. item_shape (x ∷ b ∷ rest) ≡ Some (Comment (comment_length (x ∷ b ∷ rest)))) (sym h)
    (subst (λ x. item_shape (47 ∷ x ∷ rest) ≡ Some (Comment (comment_length (47 ∷ x ∷ rest))))
    (sym k) (slash_line rest))

pub two_bytes : (bytes : List ℕ) → get_or bytes 1 0 ≡ 42 → 2 ≤ length bytes
two_bytes [] k = absurd (omega arith)
two_bytes (a ∷ []) k = absurd (omega arith)
two_bytes (a ∷ b ∷ rest) k = omega arith

pub at_slash_general : (bytes : List ℕ) → get_or bytes 0 0 ≡ 47 → get_or bytes 1 0 ≡ 42
    → item_shape bytes ≡ general_shape (drop 2 bytes)
at_slash_general [] h k = absurd (omega arith)
at_slash_general (a ∷ []) h k = absurd (omega arith)
at_slash_general (a ∷ b ∷ rest) h k =
    subst (λ x. item_shape (x ∷ b ∷ rest) ≡ general_shape rest) (sym h)
    (subst (λ x. item_shape (47 ∷ x ∷ rest) ≡ general_shape rest) (sym k) (slash_general rest))

pub at_slash_other : (bytes : List ℕ) → get_or bytes 0 0 ≡ 47 → (get_or bytes 1 0 ≡ 47 → ⊥)
    → (get_or bytes 1 0 ≡ 42 → ⊥) → item_shape bytes ≡ operator_shape bytes
at_slash_other [] h line general = absurd (omega arith)
at_slash_other (a ∷ []) h line general =
    subst (λ x. item_shape (x ∷ []) ≡ operator_shape (x ∷ [])) (sym h) slash_alone
at_slash_other (a ∷ b ∷ rest) h line general =
    subst (λ x. item_shape (x ∷ b ∷ rest) ≡ operator_shape (x ∷ b ∷ rest)) (sym h)
    (slash_other b rest line general)

-- the byte of a class
pub slash_byte : (b : ℕ) → class_of b ≡ class.Slash → b ≡ 47
slash_byte b h = eqb-true b 47 (class_test class.Slash (λ b. b == 47) refl refl b h)

pub point_byte : (b : ℕ) → class_of b ≡ class.Point → b ≡ 46
point_byte b h = eqb-true b 46 (class_test class.Point (λ b. b == 46) refl refl b h)

pub quote_byte : (b : ℕ) → class_of b ≡ class.SingleQuote → b ≡ 39
quote_byte b h = eqb-true b 39 (class_test class.SingleQuote (λ b. b == 39) refl refl b h)
