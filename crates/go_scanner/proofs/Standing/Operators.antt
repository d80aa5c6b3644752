-- Where no other kind of spelling begins, the program and the definition find the same operator.
use Rattle.std.proofs.Common.{◌≡◌, ℕ, ◌≤◌, ◌<◌, true, false, List, ◌∷◌, ◌++◌, length, take, drop}
use Rattle.std.proofs.Common.{Some, sym, ap, ◌∙◌, subst, refl, inl, inr, arith, length-take}
use Rattle.std.proofs.lemmas.Bool.{cases_Bool, both_ways}
use Rattle.std.proofs.lemmas.List.{take_at}
use Rattle.go_chars.specs.Identifiers.{is_among}
use Rattle.go_ast.specs.Characters.{Begins}
use Rattle.go_ast.specs.Lexical.{Spelling, identifier, keyword, operator, integer, float, imaginary}
use Rattle.go_ast.specs.Lexical.{rune, text, raw_text, semicolon, spelled, print_spelling}
use Rattle.go_ast.specs.Lexical.{IsSpelling, IsLongest, operators, begins_number}
use Rattle.go_scanner.specs.declared.shape.Shape.{Shape}
use Rattle.go_scanner.specs.Shapes.{shape_of, mark_shape, operator_shape}
use Rattle.go_literals.proofs.Lists.{by_if, same_fronts, front_within, split_at}
use Rattle.go_scanner.proofs.Standing.FirstBytes.{marks, leads, lead_of, lead_of-begins}
use Rattle.go_scanner.proofs.Standing.FirstBytes.{operator_mark}
use Rattle.go_scanner.proofs.Standing.Fronts.{SpelledAt, SpelledAs, SpelledAs-Some, longest}
use Rattle.go_scanner.proofs.Standing.Fronts.{extent_of-longest}

-- a spelling that is an operator
record Operator (spelling : Spelling) : Type 0 where
  mark : List ℕ
  among : is_among operators mark ≡ true
  printed : print_spelling spelling ≡ mark
  shape : shape_of (spelled spelling) ≡ mark_shape mark

operator_of : (spelling : Spelling) → leads spelling ≡ marks → IsSpelling spelling
    → Operator spelling
operator_of (operator mark) lead h = record { mark = mark; among = h; printed = refl; shape = refl }
operator_of (identifier characters) lead h = cc
operator_of (keyword word) lead h = cc
operator_of (text elements) lead h = cc
operator_of (rune element) lead h = cc
operator_of (raw_text content) lead h = cc
operator_of semicolon lead h = cc
operator_of (integer literal) lead h = cc
operator_of (float literal) lead h = cc
operator_of (imaginary literal) lead h = cc

-- an operator has one to three bytes
length-operator : (mark : List ℕ) → is_among operators mark ≡ true → (0 < length mark)
    × (length mark ≤ 3)
length-operator mark among =
    let m = operator_mark mark among in
    let e : length mark ≡ length (m.byte ∷ m.others) = ap length m.split in
    let short : length m.others < 3 = m.short in
    (omega arith, omega arith)

module _ (bytes : List ℕ) where
  three_found : is_among operators (take 3 bytes) ≡ true
      → operator_shape bytes ≡ Some (mark_shape (take 3 bytes))
  unfolding operator_shape
  three_found h = rw h refl

  two_found : is_among operators (take 3 bytes) ≡ false → is_among operators (take 2 bytes) ≡ true
      → operator_shape bytes ≡ Some (mark_shape (take 2 bytes))
  unfolding operator_shape
  two_found h3 h2 = rw (h3, h2) refl

  one_found : is_among operators (take 3 bytes) ≡ false → is_among operators (take 2 bytes) ≡ false
      → is_among operators (take 1 bytes) ≡ true
      → operator_shape bytes ≡ Some (mark_shape (take 1 bytes))
  unfolding operator_shape
  one_found h3 h2 h1 = rw (h3, h2, h1) refl

  -- no operator of n bytes stands at the front where the first n bytes are none
  other_length : (n : ℕ) (mark after : List ℕ) → is_among operators (take n bytes) ≡ false
      → is_among operators mark ≡ true → bytes ≡ mark ++ after → length mark ≡ n → ⊥
  other_length n mark after none among split len =
      let taken : take n bytes ≡ mark = ap (take n) split ∙ take_at mark after n len in
      both_ways (is_among operators (take n bytes)) none (ap (is_among operators) taken ∙ among)

  within_take : (n : ℕ) (mark after : List ℕ) → bytes ≡ mark ++ after → length mark ≤ n
      → length mark ≤ length (take n bytes)
  within_take n mark after split h =
      omega (arith, length-take n bytes, front_within bytes mark after split)

  module _ (mark after : List ℕ) (among : is_among operators mark ≡ true)
      (split : bytes ≡ mark ++ after) (long : IsLongest (operator mark) bytes) where
    taken : (n : ℕ) → length mark ≤ n → is_among operators (take n bytes) ≡ true
        → take n bytes ≡ mark
    taken n h is =
        let below : length (take n bytes) ≤ length mark =
        long (operator (take n bytes)) is (drop n bytes, split_at n bytes) in
        let above = within_take n mark after split h in
        same_fronts bytes (take n bytes) mark (drop n bytes) after (split_at n bytes) split
        (omega arith)

    mark_found : operator_shape bytes ≡ Some (mark_shape mark)
    mark_found =
        let bounds = length-operator mark among in
        elim (cases_Bool (is_among operators (take 3 bytes))) [
          | inl is3 ↦ three_found is3 ∙ ap (λ x. Some (mark_shape x)) (taken 3 bounds.1 is3)
          | inr not3 ↦
              let n3 = other_length 3 mark after not3 among split in
              elim (cases_Bool (is_among operators (take 2 bytes))) [
                | inl is2 ↦ two_found not3 is2
                    ∙ ap (λ x. Some (mark_shape x)) (taken 2 (omega (arith, n3)) is2)
                | inr not2 ↦
                    let n2 = other_length 2 mark after not2 among split in
                    let l1 : length mark ≡ 1 = omega (arith, n3, n2) in
                    let t1 : take 1 bytes ≡ mark = ap (take 1) split ∙ take_at mark after 1 l1 in
                    one_found not3 not2 (ap (is_among operators) t1 ∙ among)
                    ∙ ap (λ x. Some (mark_shape x)) t1
              ]
        ]

module _ (b : ℕ) (rest : List ℕ) (mark : lead_of (b ∷ rest) ≡ marks)
    (number : begins_number (b ∷ rest) ≡ false) where
  -- a spelling that begins with such a byte is an operator
  begins_operator : (spelling : Spelling) → IsSpelling spelling
      → Begins (b ∷ rest) (print_spelling spelling) → Operator spelling
  begins_operator spelling valid begins =
      operator_of spelling (sym (lead_of-begins (b ∷ rest) spelling number valid begins) ∙ mark)
      valid

  pub operator_found : (spelling : Spelling) (after : List ℕ) → SpelledAt (b ∷ rest) spelling after
      → operator_shape (b ∷ rest) ≡ Some (shape_of (spelled spelling))
  operator_found spelling after h =
      let o = begins_operator spelling h.valid (after, h.split) in
      let long = longest (b ∷ rest) spelling after number h in
      mark_found (b ∷ rest) o.mark after o.among (h.split ∙ ap (λ x. x ++ after) o.printed)
      (λ other valid begins. subst (λ x. length (print_spelling other) ≤ length x) o.printed
      (long other valid begins))
      ∙ ap Some (sym o.shape)

  -- the operator of the first n bytes, where none that stands there is longer
  stands_taken : (n : ℕ) → is_among operators (take n (b ∷ rest)) ≡ true
      → ((other after : List ℕ) → is_among operators other ≡ true → b ∷ rest ≡ other ++ after
      → length other ≤ n)
      → SpelledAs (b ∷ rest) (mark_shape (take n (b ∷ rest)))
  stands_taken n among within = record {
    spelling = operator (take n (b ∷ rest));
    after = drop n (b ∷ rest);
    stands = record {
      split = split_at n (b ∷ rest);
      valid = among;
      extent =
          extent_of-longest (b ∷ rest) (operator (take n (b ∷ rest))) number
          (λ spelling valid begins.
          let o = begins_operator spelling valid begins in
          let split : b ∷ rest ≡ o.mark ++ begins.0 =
          begins.1 ∙ ap (λ x. x ++ begins.0) o.printed in
          let below : length o.mark ≤ length (take n (b ∷ rest)) =
          within_take (b ∷ rest) n o.mark begins.0 split
          (within o.mark begins.0 o.among split) in
          subst (λ x. length x ≤ length (take n (b ∷ rest))) (sym o.printed) below);
    };
    same = refl;
  }

  pub operator_stands : (shape : Shape) → operator_shape (b ∷ rest) ≡ Some shape
      → SpelledAs (b ∷ rest) shape
  unfolding operator_shape
  operator_stands shape found =
      by_if (is_among operators (take 3 (b ∷ rest))) _ _ _ found
      (λ is3 e. SpelledAs-Some (b ∷ rest) _ shape e
      (stands_taken 3 is3 (λ other after among split. (length-operator other among).1)))
      (λ not3 found2. by_if (is_among operators (take 2 (b ∷ rest))) _ _ _ found2
      (λ is2 e. SpelledAs-Some (b ∷ rest) _ shape e (stands_taken 2 is2 (λ other after among split.
      omega (
        arith,
        (length-operator other among).1,
        other_length (b ∷ rest) 3 other after not3 among split,
      ))))
      (λ not2 found1. by_if (is_among operators (take 1 (b ∷ rest))) _ _ _ found1
      (λ is1 e. SpelledAs-Some (b ∷ rest) _ shape e (stands_taken 1 is1 (λ other after among split.
      omega (
        arith,
        (length-operator other among).1,
        other_length (b ∷ rest) 3 other after not3 among split,
        other_length (b ∷ rest) 2 other after not2 among split,
      ))))
      (λ not1 e. cc)))
