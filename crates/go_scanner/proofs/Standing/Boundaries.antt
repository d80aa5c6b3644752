-- What follows an item of a text of UTF-8 is UTF-8.
use Rattle.std.proofs.Common.{◌≡◌, ◌==◌, ℕ, ◌<◌, Bool, true, ◌&&◌, ◌||◌, List, [], ◌∷◌, ◌++◌}
use Rattle.std.proofs.Common.{IsUtf8, sym, ap, ◌∙◌, subst, refl, inl, inr, arith}
use Rattle.std.proofs.Common.{append_assoc, append-nil}
use Rattle.std.specs.List.{list_all}
use Rattle.std.specs.Char.{is_ascii_digit, is_ascii_alphanumeric}
use Rattle.std.specs.Int.{is_in_range}
use Rattle.std.proofs.lemmas.Bool.{or_cases, and_parts, and_from, eqb-true, lt-ltb, cases_Bool}
use Rattle.std.proofs.lemmas.Bool.{MatchBool-at_true}
use Rattle.go_ast.specs.Characters.{newline, carriage_return, space, tab, underscore, full_stop}
use Rattle.go_ast.specs.Characters.{double_quote, single_quote, back_quote, is_white_space}
use Rattle.go_ast.specs.Characters.{byte_order_mark_bytes}
use Rattle.go_ast.specs.Numbers.{is_exponent_mark}
use Rattle.go_ast.specs.Texts.{print_element, print_elements}
use Rattle.go_ast.specs.Lexical.{Spelling, identifier, keyword, operator, integer, float}
use Rattle.go_ast.specs.Lexical.{imaginary, rune, text, raw_text, semicolon, Item, white_space}
use Rattle.go_ast.specs.Lexical.{byte_order_mark, line_comment, general_comment, spelled}
use Rattle.go_ast.specs.Lexical.{print_item, print_spelling, Stands, IsSpelled, IsWholeRun}
use Rattle.go_ast.specs.Lexical.{IsLongest, EndsComment, is_number, is_run_byte, goes_on}
use Rattle.go_ast.specs.Lexical.{run_after, number_run, is_hexadecimal, begins_number}
use Rattle.go_literals.proofs.Lists.{is_ascii, ascii_utf8}
use Rattle.go_literals.proofs.Characters.{rest_utf8, after_ascii_utf8, before_ascii_utf8}
use Rattle.go_literals.proofs.Ascii.{below_range}
use Rattle.go_scanner.proofs.Standing.FirstBytes.{digit_below, keyword_word}
use Rattle.go_scanner.proofs.Standing.FirstBytes.{ascii_word-ascii, operator_mark, number_first}
use Rattle.go_scanner.proofs.Standing.FirstBytes.{mark_encoded}

white_below : (b : ℕ) → is_white_space b ≡ true → b < 128
white_below b h =
    elim (or_cases (b == space || b == tab || b == carriage_return) (b == newline) h) [
      | inr e ↦ omega (arith, eqb-true b newline e)
      | inl three ↦ elim (or_cases (b == space || b == tab) (b == carriage_return) three) [
        | inr e ↦ omega (arith, eqb-true b carriage_return e)
        | inl two ↦ elim (or_cases (b == space) (b == tab) two) [
          | inl e ↦ omega (arith, eqb-true b space e)
          | inr e ↦ omega (arith, eqb-true b tab e)
        ]
      ]
    ]

mark_utf8 : IsUtf8 byte_order_mark_bytes
mark_utf8 = (0xFEFF ∷ [], (refl, append-nil _ ∙ mark_encoded))

-- the run of a number has bytes of ASCII alone
run_below : (b : ℕ) → is_run_byte b ≡ true → b < 128
run_below b h = elim (or_cases (is_ascii_alphanumeric b || b == underscore) (b == full_stop) h) [
  | inr e ↦ omega (arith, eqb-true b full_stop e)
  | inl two ↦ elim (or_cases (is_ascii_alphanumeric b) (b == underscore) two) [
    | inr e ↦ omega (arith, eqb-true b underscore e)
    | inl one ↦
        elim (or_cases (is_in_range 48 57 b || is_in_range 65 90 b) (is_in_range 97 122 b) one) [
          | inl f ↦ elim (or_cases (is_in_range 48 57 b) (is_in_range 65 90 b) f) [
            | inl e ↦ omega (arith, below_range 48 57 b e)
            | inr e ↦ omega (arith, below_range 65 90 b e)
          ]
          | inr e ↦ omega (arith, below_range 97 122 b e)
        ]
  ]
]

goes_below : (hexadecimal : Bool) (before b : ℕ) → goes_on hexadecimal before b ≡ true → b < 128
goes_below hexadecimal before b h =
    elim
    (or_cases (is_run_byte b) ((b == 43 || b == 45) && is_exponent_mark hexadecimal before) h) [
      | inl e ↦ run_below b e
      | inr e ↦
          elim (or_cases (b == 43) (b == 45)
          (and_parts (b == 43 || b == 45) (is_exponent_mark hexadecimal before) e).0) [
            | inl f ↦ omega (arith, eqb-true b 43 f)
            | inr f ↦ omega (arith, eqb-true b 45 f)
          ]
    ]

run_after-ascii : (hexadecimal : Bool) (before : ℕ) (bytes : List ℕ)
    → list_all is_ascii (run_after hexadecimal before bytes) ≡ true
run_after-ascii hexadecimal before [] = refl
run_after-ascii hexadecimal before (b ∷ bytes) = elim (cases_Bool (goes_on hexadecimal before b)) [
  | inl goes ↦
      rw goes
      (and_from (is_ascii b) (list_all is_ascii (run_after hexadecimal b bytes))
      (lt-ltb b 128 (goes_below hexadecimal before b goes)) (run_after-ascii hexadecimal b bytes))
  | inr stops ↦ rw stops refl
]

begins_below : (b : ℕ) (bytes : List ℕ) → begins_number (b ∷ bytes) ≡ true → b < 128
begins_below b [] h = digit_below b h
begins_below b (c ∷ bytes) h =
    elim (or_cases (is_ascii_digit b) (b == full_stop && is_ascii_digit c) h) [
      | inl e ↦ digit_below b e
      | inr e ↦
          omega (arith, eqb-true b full_stop (and_parts (b == full_stop) (is_ascii_digit c) e).0)
    ]

run_ascii : (bytes : List ℕ) → begins_number bytes ≡ true
    → list_all is_ascii (number_run bytes) ≡ true
unfolding number_run
run_ascii [] h = refl
run_ascii (b ∷ bytes) h =
    and_from (is_ascii b) (list_all is_ascii (run_after (is_hexadecimal (b ∷ bytes)) b bytes))
    (lt-ltb b 128 (begins_below b bytes h)) (run_after-ascii (is_hexadecimal (b ∷ bytes)) b bytes)

number_ascii : (spelling : Spelling) (after : List ℕ) → IsSpelled spelling after
    → is_number spelling ≡ true → list_all is_ascii (print_spelling spelling) ≡ true
number_ascii spelling after h number =
    let bytes = print_spelling spelling ++ after in
    let begins = (number_first spelling h.valid number).begins after in
    let run =
    MatchBool-at_true (IsWholeRun spelling bytes) (IsLongest spelling bytes) begins h.extent in
    subst (λ l. list_all is_ascii l ≡ true) run.1 (run_ascii bytes begins)

ascii_rest : (xs ys : List ℕ) → list_all is_ascii xs ≡ true → IsUtf8 (xs ++ ys) → IsUtf8 ys
ascii_rest xs ys h whole = rest_utf8 xs ys (ascii_utf8 xs h) whole

-- after a closing mark
closed : (mark : ℕ) (inner after : List ℕ) → mark < 128
    → IsUtf8 ((mark ∷ inner ++ mark ∷ []) ++ after) → IsUtf8 after
closed mark inner after low whole =
    let same : (mark ∷ inner ++ mark ∷ []) ++ after ≡ (mark ∷ inner) ++ mark ∷ after =
    ap (λ l. mark ∷ l) (append_assoc inner (mark ∷ []) after) in
    after_ascii_utf8 (mark ∷ inner) mark after low (subst IsUtf8 same whole)

spelled_rest : (spelling : Spelling) (after : List ℕ) → IsSpelled spelling after
    → IsUtf8 (print_spelling spelling ++ after) → IsUtf8 after
spelled_rest (identifier characters) after h whole =
    rest_utf8 (print_spelling (identifier characters)) after (characters, (h.valid.1, refl)) whole
spelled_rest (keyword word) after h whole =
    ascii_rest word after (ascii_word-ascii word (keyword_word word h.valid)) whole
spelled_rest (operator mark) after h whole =
    ascii_rest mark after (operator_mark mark h.valid).ascii whole
spelled_rest (integer literal) after h whole =
    ascii_rest (print_spelling (integer literal)) after
    (number_ascii (integer literal) after h refl) whole
spelled_rest (float literal) after h whole =
    ascii_rest (print_spelling (float literal)) after (number_ascii (float literal) after h refl)
    whole
spelled_rest (imaginary literal) after h whole =
    ascii_rest (print_spelling (imaginary literal)) after
    (number_ascii (imaginary literal) after h refl) whole
spelled_rest (rune element) after h whole =
    closed single_quote (print_element element) after (omega arith) whole
spelled_rest (text elements) after h whole =
    closed double_quote (print_elements elements) after (omega arith) whole
spelled_rest (raw_text content) after h whole = closed back_quote content after (omega arith) whole
spelled_rest semicolon after h whole = after_ascii_utf8 [] 59 after (omega arith) whole

comment_rest : (content after : List ℕ) → EndsComment content after
    → IsUtf8 (47 ∷ 47 ∷ content ++ after) → IsUtf8 after
comment_rest content [] h whole = ([], (refl, refl))
comment_rest content (b ∷ rest) h whole =
    before_ascii_utf8 (47 ∷ 47 ∷ content) b rest
    (elim h [ inl e ↦ omega (arith, e.0) | inr e ↦ omega (arith, e.0) ]) whole

general_rest : (content after : List ℕ) → IsUtf8 (47 ∷ 42 ∷ (content ++ 42 ∷ 47 ∷ []) ++ after)
    → IsUtf8 after
general_rest content after whole =
    let same : (content ++ 42 ∷ 47 ∷ []) ++ after ≡ (content ++ 42 ∷ []) ++ 47 ∷ after =
    append_assoc content (42 ∷ 47 ∷ []) after ∙ sym (append_assoc content (42 ∷ []) (47 ∷ after)) in
    after_ascii_utf8 (47 ∷ 42 ∷ content ++ 42 ∷ []) 47 after (omega arith)
    (subst (λ l. IsUtf8 (47 ∷ 42 ∷ l)) same whole)

pub utf8_after : (offset : ℕ) (item : Item) (after : List ℕ) → Stands offset item after
    → IsUtf8 (print_item item ++ after) → IsUtf8 after
utf8_after offset (white_space b) after stands whole =
    after_ascii_utf8 [] b after (white_below b stands) whole
utf8_after offset byte_order_mark after stands whole =
    rest_utf8 byte_order_mark_bytes after mark_utf8 whole
utf8_after offset (line_comment content) after stands whole =
    comment_rest content after stands.end whole
utf8_after offset (general_comment content) after stands whole = general_rest content after whole
utf8_after offset (spelled spelling) after stands whole = spelled_rest spelling after stands whole
