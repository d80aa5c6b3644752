-- Where a quote begins, the program and the definition find the same text, rune or raw text.
use Rattle.std.proofs.Common.{◌≡◌, ◌==◌, ℕ, ◌+◌, ◌-◌, ◌<◌, Bool, true, false, ◌&&◌, List, [], ◌∷◌}
use Rattle.std.proofs.Common.{◌++◌, length, take, drop, get_or, slice_index, nat_lt, Option, Some}
use Rattle.std.proofs.Common.{None, option_map, IsUtf8, sym, ap, ◌∙◌, refl, arith, length-append}
use Rattle.std.proofs.Common.{append_assoc}
use Rattle.std.specs.List.{list_all}
use Rattle.std.proofs.lemmas.Bool.{and_parts, lt-ltb, ltb-true, eq-eqb, eqb-true}
use Rattle.std.proofs.lemmas.List.{get_or_at, get_or_past, length-take-le, append_cancel_left}
use Rattle.go_ast.specs.declared.token.TokenKind.TheVariants.{Rune, Text}
use Rattle.go_ast.specs.Characters.{Begins, double_quote, single_quote, back_quote}
use Rattle.go_ast.specs.Texts.{Element, print_element, print_elements, is_element}
use Rattle.go_ast.specs.Lexical.{Spelling, identifier, keyword, operator, integer, float}
use Rattle.go_ast.specs.Lexical.{imaginary, rune, text, raw_text, semicolon, spelled}
use Rattle.go_ast.specs.Lexical.{print_spelling, IsSpelling, is_raw, begins_number}
use Rattle.go_scanner.specs.declared.shape.Shape.{Shape}
use Rattle.go_scanner.specs.declared.shape.Shape.TheVariants.{Token}
use Rattle.go_scanner.specs.Shapes.{shape_of, text_of_length, text_shape, rune_shape, raw_shape}
use Rattle.go_literals.specs.Extents.{string_length, rune_length, raw_length}
use Rattle.go_literals.proofs.Lists.{by_if, around, place_until, place_passes}
use Rattle.go_literals.proofs.Lists.{list_all-take_prefix_len}
use Rattle.go_literals.proofs.Characters.{after_ascii_utf8}
use Rattle.go_scanner.proofs.Standing.FirstBytes.{texts, runes, raws, leads}
use Rattle.go_scanner.proofs.Standing.FirstBytes.{lead_of-ascii, lead_of-begins}
use Rattle.go_scanner.proofs.Standing.Fronts.{SpelledAt, SpelledAs, extent_of-longest}
use Rattle.go_literals.proofs.Quoted.{text_complete, text_sound, rune_complete, rune_sound}
use Rattle.go_literals.proofs.Quoted.{element_some}

-- what stands between two marks, and after them
between : (mark : ℕ) (rest inner after : List ℕ)
    → mark ∷ rest ≡ (mark ∷ inner ++ mark ∷ []) ++ after → rest ≡ inner ++ mark ∷ after
between mark rest inner after split =
    let tail : rest ≡ (inner ++ mark ∷ []) ++ after =
    append_cancel_left (mark ∷ []) rest ((inner ++ mark ∷ []) ++ after) split in
    tail ∙ append_assoc inner (mark ∷ []) after

around_marks : (mark : ℕ) (inner after : List ℕ)
    → mark ∷ inner ++ mark ∷ after ≡ (mark ∷ inner ++ mark ∷ []) ++ after
around_marks mark inner after = ap (λ l. mark ∷ l) (sym (append_assoc inner (mark ∷ []) after))

length-marks : (mark : ℕ) (inner : List ℕ) → length (mark ∷ inner ++ mark ∷ []) ≡ length inner + 2
length-marks mark inner = omega (arith, length-append inner (mark ∷ []))

-- texts
record Quoted (spelling : Spelling) : Type 0 where
  elements : List Element
  valid : list_all (is_element double_quote) elements ≡ true
  printed : print_spelling spelling ≡ double_quote ∷ print_elements elements ++ double_quote ∷ []
  shape : shape_of (spelled spelling) ≡ Token Text true (length (print_spelling spelling))

quoted_of : (spelling : Spelling) → leads spelling ≡ texts → IsSpelling spelling → Quoted spelling
quoted_of (text elements) lead h =
    record { elements = elements; valid = h; printed = refl; shape = refl }
quoted_of (identifier characters) lead h = cc
quoted_of (keyword word) lead h = cc
quoted_of (operator mark) lead h = cc
quoted_of (integer literal) lead h = cc
quoted_of (float literal) lead h = cc
quoted_of (imaginary literal) lead h = cc
quoted_of (rune element) lead h = cc
quoted_of (raw_text content) lead h = cc
quoted_of semicolon lead h = cc

text_shape-length : (rest : List ℕ) (n : ℕ) → string_length double_quote 0 rest ≡ Some n
    → text_shape rest ≡ Some (Token Text true (n + 1))
unfolding text_shape
text_shape-length rest n h = rw h refl

length_cases : (found : Option ℕ) (shape : Shape) → option_map text_of_length found ≡ Some shape
    → (n : ℕ) × (found ≡ Some n) × (Token Text true (n + 1) ≡ shape)
length_cases None shape h = cc
length_cases (Some n) shape h = (n, refl, cc)

text_shape-cases : (rest : List ℕ) (shape : Shape) → text_shape rest ≡ Some shape
    → (n : ℕ) × (string_length double_quote 0 rest ≡ Some n) × (Token Text true (n + 1) ≡ shape)
unfolding text_shape
text_shape-cases rest shape h = length_cases (string_length double_quote 0 rest) shape h

module _ (rest : List ℕ) (number : begins_number (double_quote ∷ rest) ≡ false) where
  begins_text : (spelling : Spelling) → IsSpelling spelling
      → Begins (double_quote ∷ rest) (print_spelling spelling) → Quoted spelling
  begins_text spelling valid begins =
      quoted_of spelling (sym (lead_of-begins (double_quote ∷ rest) spelling number valid begins)
      ∙ lead_of-ascii double_quote rest (omega arith)) valid

  -- how long a text at the front is
  text_long : (spelling : Spelling) (after : List ℕ) → IsSpelling spelling
      → double_quote ∷ rest ≡ print_spelling spelling ++ after
      → string_length double_quote 0 rest ≡ Some (length (print_spelling spelling) - 1)
  text_long spelling after valid split =
      let q = begins_text spelling valid (after, split) in
      let inner = print_elements q.elements in
      let follows =
      between double_quote rest inner after (split ∙ ap (λ l. l ++ after) q.printed) in
      ap (string_length double_quote 0) follows
      ∙ text_complete double_quote q.elements after refl q.valid
      ∙ ap Some (omega (arith, ap length q.printed, length-marks double_quote inner))

  pub text_found : (spelling : Spelling) (after : List ℕ)
      → SpelledAt (double_quote ∷ rest) spelling after
      → text_shape rest ≡ Some (shape_of (spelled spelling))
  text_found spelling after h =
      let q = begins_text spelling h.valid (after, h.split) in
      let size : length (print_spelling spelling) - 1 + 1 ≡ length (print_spelling spelling) =
      omega (arith, ap length q.printed) in
      text_shape-length rest (length (print_spelling spelling) - 1)
      (text_long spelling after h.valid h.split)
      ∙ ap (λ n. Some (Token Text true n)) size ∙ ap Some (sym q.shape)

  pub text_stands : (shape : Shape) → IsUtf8 (double_quote ∷ rest) → text_shape rest ≡ Some shape
      → SpelledAs (double_quote ∷ rest) shape
  text_stands shape utf8 found =
      let long = text_shape-cases rest shape found in
      let n = long.0 in
      let t =
      text_sound double_quote refl (length rest) rest n (omega arith)
      (after_ascii_utf8 [] double_quote rest (omega arith) utf8) long.1 in
      let inner = print_elements t.elements in
      let size : length (print_spelling (text t.elements)) ≡ n + 1 =
      omega (arith, length-marks double_quote inner, t.size) in
      record {
        spelling = text t.elements;
        after = t.after;
        stands = record {
          split = ap (λ l. double_quote ∷ l) t.split ∙ around_marks double_quote inner t.after;
          valid = t.valid;
          extent =
              extent_of-longest (double_quote ∷ rest) (text t.elements) number
              (λ other valid begins.
              let same : Some (length (print_spelling other) - 1) ≡ Some n =
              sym (text_long other begins.0 valid begins.1) ∙ long.1 in
              let lengths : length (print_spelling other) - 1 ≡ n = cc in
              omega arith);
        };
        same = ap (λ k. Token Text true k) size ∙ long.2;
      }

-- runes
record Rounded (spelling : Spelling) : Type 0 where
  element : Element
  valid : is_element single_quote element ≡ true
  printed : print_spelling spelling ≡ single_quote ∷ print_element element ++ single_quote ∷ []
  shape : shape_of (spelled spelling) ≡ Token Rune true (length (print_spelling spelling))

rounded_of : (spelling : Spelling) → leads spelling ≡ runes → IsSpelling spelling → Rounded spelling
rounded_of (rune element) lead h =
    record { element = element; valid = h; printed = refl; shape = refl }
rounded_of (identifier characters) lead h = cc
rounded_of (keyword word) lead h = cc
rounded_of (operator mark) lead h = cc
rounded_of (integer literal) lead h = cc
rounded_of (float literal) lead h = cc
rounded_of (imaginary literal) lead h = cc
rounded_of (text elements) lead h = cc
rounded_of (raw_text content) lead h = cc
rounded_of semicolon lead h = cc

rune_shape-length : (rest : List ℕ) (n : ℕ) → rune_length rest ≡ n → 0 < n
    → slice_index rest n ≡ single_quote → rune_shape rest ≡ Some (Token Rune true (n + 2))
unfolding rune_shape
rune_shape-length rest n long some closing =
    let there : nat_lt 0 n ≡ true = lt-ltb 0 n some in
    let closed : (slice_index rest n == single_quote) ≡ true =
    eq-eqb (slice_index rest n) single_quote closing in
    rw (long, there, closed) refl

rune_shape-cases : (rest : List ℕ) (shape : Shape) → rune_shape rest ≡ Some shape
    → (0 < rune_length rest) × (slice_index rest (rune_length rest) ≡ single_quote)
    × (Token Rune true (rune_length rest + 2) ≡ shape)
unfolding rune_shape
rune_shape-cases rest shape h =
    by_if (nat_lt 0 (rune_length rest) && slice_index rest (rune_length rest) == single_quote) _ _ _
    h
    (λ test e.
    let parts =
    and_parts (nat_lt 0 (rune_length rest))
    (slice_index rest (rune_length rest) == single_quote) test in (
      ltb-true 0 (rune_length rest) parts.0,
      eqb-true (slice_index rest (rune_length rest)) single_quote parts.1,
      cc,
    ))
    (λ test e. cc)

-- the mark at a place stands there
mark_at : (mark : ℕ) (front rest : List ℕ) → 0 < mark
    → slice_index (front ++ rest) (length front) ≡ mark → (after : List ℕ) × (rest ≡ mark ∷ after)
mark_at mark front [] some h =
    absurd (omega (
      arith,
      sym (get_or_past (front ++ []) (length front) 0 (omega (arith, length-append front [])))
          ∙ h,
    ))
mark_at mark front (x ∷ rest) some h =
    (rest, ap (λ y. y ∷ rest) (sym (get_or_at front x rest 0 (length front) refl) ∙ h))

module _ (rest : List ℕ) (number : begins_number (single_quote ∷ rest) ≡ false) where
  begins_rune : (spelling : Spelling) → IsSpelling spelling
      → Begins (single_quote ∷ rest) (print_spelling spelling) → Rounded spelling
  begins_rune spelling valid begins =
      rounded_of spelling (sym (lead_of-begins (single_quote ∷ rest) spelling number valid begins)
      ∙ lead_of-ascii single_quote rest (omega arith)) valid

  -- how long a rune at the front is
  rune_long : (spelling : Spelling) (after : List ℕ) → IsSpelling spelling
      → single_quote ∷ rest ≡ print_spelling spelling ++ after
      → (rune_length rest + 2 ≡ length (print_spelling spelling))
      × (slice_index rest (rune_length rest) ≡ single_quote) × (0 < rune_length rest)
  rune_long spelling after valid split =
      let r = begins_rune spelling valid (after, split) in
      let inner = print_element r.element in
      let follows =
      between single_quote rest inner after (split ∙ ap (λ l. l ++ after) r.printed) in
      let long : rune_length rest ≡ length inner = ap rune_length follows
      ∙ rune_complete r.element (single_quote ∷ after) r.valid in (
        omega (arith, ap length r.printed, length-marks single_quote inner),
        ap (λ n. slice_index rest n) long ∙ ap (λ l. slice_index l (length inner)) follows
            ∙ get_or_at inner single_quote after 0 (length inner) refl,
        omega (arith, element_some r.element),
      )

  pub rune_found : (spelling : Spelling) (after : List ℕ)
      → SpelledAt (single_quote ∷ rest) spelling after
      → rune_shape rest ≡ Some (shape_of (spelled spelling))
  rune_found spelling after h =
      let r = begins_rune spelling h.valid (after, h.split) in
      let long = rune_long spelling after h.valid h.split in
      rune_shape-length rest (rune_length rest) refl long.2 long.1
      ∙ ap (λ n. Some (Token Rune true n)) long.0 ∙ ap Some (sym r.shape)

  pub rune_stands : (shape : Shape) → IsUtf8 (single_quote ∷ rest) → rune_shape rest ≡ Some shape
      → SpelledAs (single_quote ∷ rest) shape
  rune_stands shape utf8 found =
      let test = rune_shape-cases rest shape found in
      let e = rune_sound rest (after_ascii_utf8 [] single_quote rest (omega arith) utf8) test.0 in
      let inner = print_element e.element in
      let here : slice_index (inner ++ e.rest) (length inner) ≡ single_quote =
      ap (λ n. slice_index (inner ++ e.rest) n) e.size
      ∙ ap (λ l. slice_index l (rune_length rest)) (sym e.split) ∙ test.1 in
      let closing = mark_at single_quote inner e.rest (omega arith) here in
      let split : rest ≡ inner ++ single_quote ∷ closing.0 =
      e.split ∙ ap (λ l. inner ++ l) closing.1 in
      let size : length (print_spelling (rune e.element)) ≡ rune_length rest + 2 =
      omega (arith, length-marks single_quote inner, e.size) in
      record {
        spelling = rune e.element;
        after = closing.0;
        stands = record {
          split = ap (λ l. single_quote ∷ l) split ∙ around_marks single_quote inner closing.0;
          valid = e.valid;
          extent =
              extent_of-longest (single_quote ∷ rest) (rune e.element) number
              (λ other valid begins. omega (
                arith,
                (rune_long other begins.0 valid begins.1).0,
                size,
              ));
        };
        same = ap (λ k. Token Rune true k) size ∙ test.2;
      }

-- raw texts
record Backed (spelling : Spelling) : Type 0 where
  content : List ℕ
  valid : list_all is_raw content ≡ true
  printed : print_spelling spelling ≡ back_quote ∷ content ++ back_quote ∷ []
  shape : shape_of (spelled spelling) ≡ Token Text true (length (print_spelling spelling))

backed_of : (spelling : Spelling) → leads spelling ≡ raws → IsSpelling spelling → Backed spelling
backed_of (raw_text content) lead h =
    record { content = content; valid = h; printed = refl; shape = refl }
backed_of (identifier characters) lead h = cc
backed_of (keyword word) lead h = cc
backed_of (operator mark) lead h = cc
backed_of (integer literal) lead h = cc
backed_of (float literal) lead h = cc
backed_of (imaginary literal) lead h = cc
backed_of (rune element) lead h = cc
backed_of (text elements) lead h = cc
backed_of semicolon lead h = cc

abbrev is_back : ℕ → Bool
is_back b = b == back_quote

raw_shape-within : (rest : List ℕ) → raw_length rest < length rest
    → raw_shape rest ≡ Some (Token Text true (raw_length rest + 2))
unfolding raw_shape
raw_shape-within rest within = let there : nat_lt (raw_length rest) (length rest) ≡ true =
    lt-ltb (raw_length rest) (length rest) within in rw there refl

raw_shape-cases : (rest : List ℕ) (shape : Shape) → raw_shape rest ≡ Some shape
    → (raw_length rest < length rest) × (Token Text true (raw_length rest + 2) ≡ shape)
unfolding raw_shape
raw_shape-cases rest shape h = by_if (nat_lt (raw_length rest) (length rest)) _ _ _ h
    (λ test e. (ltb-true (raw_length rest) (length rest) test, cc))
    (λ test e. cc)

module _ (rest : List ℕ) (number : begins_number (back_quote ∷ rest) ≡ false) where
  begins_raw : (spelling : Spelling) → IsSpelling spelling
      → Begins (back_quote ∷ rest) (print_spelling spelling) → Backed spelling
  begins_raw spelling valid begins =
      backed_of spelling (sym (lead_of-begins (back_quote ∷ rest) spelling number valid begins)
      ∙ lead_of-ascii back_quote rest (omega arith)) valid

  raw_long : (spelling : Spelling) (after : List ℕ) → IsSpelling spelling
      → back_quote ∷ rest ≡ print_spelling spelling ++ after
      → (raw_length rest + 2 ≡ length (print_spelling spelling)) × (raw_length rest < length rest)
  raw_long spelling after valid split =
      let r = begins_raw spelling valid (after, split) in
      let follows =
      between back_quote rest r.content after (split ∙ ap (λ l. l ++ after) r.printed) in
      let long : raw_length rest ≡ length r.content =
      ap raw_length follows ∙ place_until is_back r.content back_quote after r.valid refl in (
        omega (arith, ap length r.printed, length-marks back_quote r.content),
        omega (arith, ap length follows, length-append r.content (back_quote ∷ after)),
      )

  pub raw_found : (spelling : Spelling) (after : List ℕ)
      → SpelledAt (back_quote ∷ rest) spelling after
      → raw_shape rest ≡ Some (shape_of (spelled spelling))
  raw_found spelling after h =
      let r = begins_raw spelling h.valid (after, h.split) in
      let long = raw_long spelling after h.valid h.split in
      raw_shape-within rest long.1 ∙ ap (λ n. Some (Token Text true n)) long.0
      ∙ ap Some (sym r.shape)

  pub raw_stands : (shape : Shape) → raw_shape rest ≡ Some shape
      → SpelledAs (back_quote ∷ rest) shape
  raw_stands shape found =
      let test = raw_shape-cases rest shape found in
      let n = raw_length rest in
      let content = take n rest in
      let after = drop (n + 1) rest in
      let closing : get_or rest n 0 ≡ back_quote =
      eqb-true (get_or rest n 0) back_quote (place_passes is_back rest test.0) in
      let split : rest ≡ content ++ back_quote ∷ after =
      around n rest test.0 ∙ ap (λ x. content ++ x ∷ after) closing in
      let size : length (print_spelling (raw_text content)) ≡ n + 2 =
      omega (
        arith,
        length-marks back_quote content,
        length-take-le n rest (omega (arith, test.0)),
      ) in
      record {
        spelling = raw_text content;
        after = after;
        stands = record {
          split = ap (λ l. back_quote ∷ l) split ∙ around_marks back_quote content after;
          valid = list_all-take_prefix_len is_raw rest;
          extent =
              extent_of-longest (back_quote ∷ rest) (raw_text content) number
              (λ other valid begins. omega (
                arith,
                (raw_long other begins.0 valid begins.1).0,
                size,
              ));
        };
        same = ap (λ k. Token Text true k) size ∙ test.1;
      }
