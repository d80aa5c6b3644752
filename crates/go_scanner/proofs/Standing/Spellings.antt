-- Where no comment begins, the program and the definition find the same spelling.
use Rattle.std.proofs.Common.{◌≡◌, ℕ, true, false, List, [], ◌∷◌, length, drop, ◌==◌, Some, IsUtf8}
use Rattle.std.proofs.Common.{sym, ap, ◌∙◌, subst, refl, inl, inr, arith}
use Rattle.std.proofs.lemmas.Bool.{cases_Bool, eqb-true}
use Rattle.go_ast.specs.declared.token.TokenKind.TheVariants.{Semi}
use Rattle.go_ast.specs.Characters.{Begins, double_quote, single_quote, back_quote}
use Rattle.go_ast.specs.Lexical.{Spelling, identifier, keyword, operator, integer, float}
use Rattle.go_ast.specs.Lexical.{imaginary, rune, text, raw_text, semicolon, spelled}
use Rattle.go_ast.specs.Lexical.{print_spelling, IsSpelling, begins_number}
use Rattle.go_scanner.specs.declared.shape.Shape.{Shape}
use Rattle.go_scanner.specs.declared.shape.Shape.TheVariants.{Token}
use Rattle.go_scanner.specs.FrontWords.{word_at}
use Rattle.go_scanner.specs.Shapes.{shape_of, begins_word, word_shape, number_shape}
use Rattle.go_scanner.specs.Shapes.{text_shape, rune_shape, raw_shape, operator_shape}
use Rattle.go_scanner.specs.Shapes.{marked_shape, spelling_shape}
use Rattle.go_literals.proofs.Lists.{by_if}
use Rattle.go_scanner.proofs.Standing.FirstBytes.{marks, semicolons, leads, lead_of, lead_of-ascii}
use Rattle.go_scanner.proofs.Standing.FirstBytes.{lead_of-begins}
use Rattle.go_scanner.proofs.Standing.Fronts.{SpelledAt, SpelledAs, SpelledAs-Some}
use Rattle.go_scanner.proofs.Standing.Fronts.{extent_of-longest}
use Rattle.go_scanner.proofs.Standing.Names.{name_found, name_stands}
use Rattle.go_scanner.proofs.Standing.Numbers.{number_found, number_stands}
use Rattle.go_scanner.proofs.Standing.Operators.{operator_found, operator_stands}
use Rattle.go_scanner.proofs.Standing.Texts.{text_found, text_stands, rune_found, rune_stands}
use Rattle.go_scanner.proofs.Standing.Texts.{raw_found, raw_stands}

abbrev semicolon_byte : ℕ
semicolon_byte = 59

record Semicolon (spelling : Spelling) : Type 0 where
  printed : print_spelling spelling ≡ semicolon_byte ∷ []
  shape : shape_of (spelled spelling) ≡ Token Semi false 1

semicolon_of : (spelling : Spelling) → leads spelling ≡ semicolons → Semicolon spelling
semicolon_of semicolon lead = record { printed = refl; shape = refl }
semicolon_of (identifier characters) lead = cc
semicolon_of (keyword word) lead = cc
semicolon_of (operator mark) lead = cc
semicolon_of (integer literal) lead = cc
semicolon_of (float literal) lead = cc
semicolon_of (imaginary literal) lead = cc
semicolon_of (rune element) lead = cc
semicolon_of (text elements) lead = cc
semicolon_of (raw_text content) lead = cc

module _ (rest : List ℕ) (number : begins_number (semicolon_byte ∷ rest) ≡ false) where
  begins_semicolon : (spelling : Spelling) → IsSpelling spelling
      → Begins (semicolon_byte ∷ rest) (print_spelling spelling) → Semicolon spelling
  begins_semicolon spelling valid begins =
      semicolon_of spelling
      (sym (lead_of-begins (semicolon_byte ∷ rest) spelling number valid begins)
      ∙ lead_of-ascii semicolon_byte rest (omega arith))

  semicolon_found : (spelling : Spelling) (after : List ℕ)
      → SpelledAt (semicolon_byte ∷ rest) spelling after
      → Some (Token Semi false 1) ≡ Some (shape_of (spelled spelling))
  semicolon_found spelling after h =
      ap Some (sym (begins_semicolon spelling h.valid (after, h.split)).shape)

  semicolon_stands : SpelledAs (semicolon_byte ∷ rest) (Token Semi false 1)
  semicolon_stands = record {
    spelling = semicolon;
    after = rest;
    stands = record {
      split = refl;
      valid = tt;
      extent =
          extent_of-longest (semicolon_byte ∷ rest) semicolon number
          (λ other valid begins. omega
          (arith, ap length (begins_semicolon other valid begins).printed));
    };
    same = refl;
  }

-- no other kind of spelling begins with the byte
lead_of-mark : (b : ℕ) (rest : List ℕ) → begins_word (b ∷ rest) ≡ false
    → (b == double_quote) ≡ false → (b == single_quote) ≡ false → (b == back_quote) ≡ false
    → (b == semicolon_byte) ≡ false → lead_of (b ∷ rest) ≡ marks
lead_of-mark b rest word double single back semi = rw (word, double, single, back, semi) refl

-- what the program does by the first byte
module _ (b : ℕ) (bytes : List ℕ) where
  pub shape-number : begins_number bytes ≡ true → spelling_shape b bytes ≡ number_shape bytes
  unfolding spelling_shape
  shape-number number = rw number refl

  pub shape-name : begins_number bytes ≡ false → begins_word bytes ≡ true
      → spelling_shape b bytes ≡ Some (word_shape (word_at bytes))
  unfolding spelling_shape
  shape-name number word = rw (number, word) refl

  pub shape-marked : begins_number bytes ≡ false → begins_word bytes ≡ false
      → spelling_shape b bytes ≡ marked_shape b bytes
  unfolding spelling_shape
  shape-marked number word = rw (number, word) refl

  pub marked-text : (b == double_quote) ≡ true → marked_shape b bytes ≡ text_shape (drop 1 bytes)
  unfolding marked_shape
  marked-text double = rw double refl

  pub marked-rune : (b == double_quote) ≡ false → (b == single_quote) ≡ true
      → marked_shape b bytes ≡ rune_shape (drop 1 bytes)
  unfolding marked_shape
  marked-rune double single = rw (double, single) refl

  pub marked-raw : (b == double_quote) ≡ false → (b == single_quote) ≡ false
      → (b == back_quote) ≡ true → marked_shape b bytes ≡ raw_shape (drop 1 bytes)
  unfolding marked_shape
  marked-raw double single back = rw (double, single, back) refl

  pub marked-semicolon : (b == double_quote) ≡ false → (b == single_quote) ≡ false
      → (b == back_quote) ≡ false → (b == semicolon_byte) ≡ true
      → marked_shape b bytes ≡ Some (Token Semi false 1)
  unfolding marked_shape
  marked-semicolon double single back semi = rw (double, single, back, semi) refl

  pub marked-operator : (b == double_quote) ≡ false → (b == single_quote) ≡ false
      → (b == back_quote) ≡ false → (b == semicolon_byte) ≡ false
      → marked_shape b bytes ≡ operator_shape bytes
  unfolding marked_shape
  marked-operator double single back semi = rw (double, single, back, semi) refl

module _ (b : ℕ) (rest : List ℕ) (number : begins_number (b ∷ rest) ≡ false)
    (word : begins_word (b ∷ rest) ≡ false) where
  marked_found : (spelling : Spelling) (after : List ℕ) → SpelledAt (b ∷ rest) spelling after
      → marked_shape b (b ∷ rest) ≡ Some (shape_of (spelled spelling))
  marked_found spelling after h =
      elim (cases_Bool (b == double_quote)) [
        | inl double ↦
            let same : b ≡ double_quote = eqb-true b double_quote double in
            marked-text b (b ∷ rest) double
            ∙ text_found rest (subst (λ x. begins_number (x ∷ rest) ≡ false) same number) spelling
            after (subst (λ x. SpelledAt (x ∷ rest) spelling after) same h)
        | inr double ↦ elim (cases_Bool (b == single_quote)) [
          | inl single ↦
              let same : b ≡ single_quote = eqb-true b single_quote single in
              marked-rune b (b ∷ rest) double single
              ∙ rune_found rest (subst (λ x. begins_number (x ∷ rest) ≡ false) same number) spelling
              after (subst (λ x. SpelledAt (x ∷ rest) spelling after) same h)
          | inr single ↦ elim (cases_Bool (b == back_quote)) [
            | inl back ↦
                let same : b ≡ back_quote = eqb-true b back_quote back in
                marked-raw b (b ∷ rest) double single back
                ∙ raw_found rest (subst (λ x. begins_number (x ∷ rest) ≡ false) same number)
                spelling after (subst (λ x. SpelledAt (x ∷ rest) spelling after) same h)
            | inr back ↦ elim (cases_Bool (b == semicolon_byte)) [
              | inl semi ↦
                  let same : b ≡ semicolon_byte = eqb-true b semicolon_byte semi in
                  marked-semicolon b (b ∷ rest) double single back semi
                  ∙ semicolon_found rest (subst (λ x. begins_number (x ∷ rest) ≡ false) same number)
                  spelling after (subst (λ x. SpelledAt (x ∷ rest) spelling after) same h)
              | inr semi ↦
                  marked-operator b (b ∷ rest) double single back semi
                  ∙ operator_found b rest (lead_of-mark b rest word double single back semi) number
                  spelling after h
            ]
          ]
        ]
      ]

  marked_stands : (shape : Shape) → IsUtf8 (b ∷ rest) → marked_shape b (b ∷ rest) ≡ Some shape
      → SpelledAs (b ∷ rest) shape
  unfolding marked_shape
  marked_stands shape utf8 found =
      by_if (b == double_quote) _ _ _ found
      (λ double e.
      let same : b ≡ double_quote = eqb-true b double_quote double in
      subst (λ x. SpelledAs (x ∷ rest) shape) (sym same)
      (text_stands rest (subst (λ x. begins_number (x ∷ rest) ≡ false) same number) shape
      (subst (λ x. IsUtf8 (x ∷ rest)) same utf8) e))
      (λ double e. by_if (b == single_quote) _ _ _ e
      (λ single e.
      let same : b ≡ single_quote = eqb-true b single_quote single in
      subst (λ x. SpelledAs (x ∷ rest) shape) (sym same)
      (rune_stands rest (subst (λ x. begins_number (x ∷ rest) ≡ false) same number) shape
      (subst (λ x. IsUtf8 (x ∷ rest)) same utf8) e))
      (λ single e. by_if (b == back_quote) _ _ _ e
      (λ back e.
      let same : b ≡ back_quote = eqb-true b back_quote back in
      subst (λ x. SpelledAs (x ∷ rest) shape) (sym same)
      (raw_stands rest (subst (λ x. begins_number (x ∷ rest) ≡ false) same number) shape e))
      (λ back e. by_if (b == semicolon_byte) _ _ _ e
      (λ semi e.
      let same : b ≡ semicolon_byte = eqb-true b semicolon_byte semi in
      SpelledAs-Some (b ∷ rest) _ shape e
      (subst (λ x. SpelledAs (x ∷ rest) (Token Semi false 1)) (sym same)
      (semicolon_stands rest (subst (λ x. begins_number (x ∷ rest) ≡ false) same number))))
      (λ semi e. operator_stands b rest (lead_of-mark b rest word double single back semi) number
      shape e))))

module _ (b : ℕ) (rest : List ℕ) (utf8 : IsUtf8 (b ∷ rest)) where
  pub spelling_found : (spelling : Spelling) (after : List ℕ) → SpelledAt (b ∷ rest) spelling after
      → spelling_shape b (b ∷ rest) ≡ Some (shape_of (spelled spelling))
  spelling_found spelling after h =
      elim (cases_Bool (begins_number (b ∷ rest))) [
        | inl number ↦ shape-number b (b ∷ rest) number
            ∙ number_found (b ∷ rest) spelling after number h
        | inr number ↦ elim (cases_Bool (begins_word (b ∷ rest))) [
          | inl word ↦ shape-name b (b ∷ rest) number word
              ∙ ap Some (name_found (b ∷ rest) utf8 word number spelling after h)
          | inr word ↦ shape-marked b (b ∷ rest) number word
              ∙ marked_found b rest number word spelling after h
        ]
      ]

  pub spelling_stands : (shape : Shape) → spelling_shape b (b ∷ rest) ≡ Some shape
      → SpelledAs (b ∷ rest) shape
  unfolding spelling_shape
  spelling_stands shape found =
      by_if (begins_number (b ∷ rest)) _ _ _ found
      (λ number e. number_stands (b ∷ rest) shape number e)
      (λ number e. by_if (begins_word (b ∷ rest)) _ _ _ e
      (λ word e. SpelledAs-Some (b ∷ rest) _ shape e (name_stands (b ∷ rest) utf8 word number))
      (λ word e. marked_stands b rest number word shape utf8 e))
