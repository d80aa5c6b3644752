-- What operands are worth by their bytes.
use Rattle.std.proofs.Common.{◌≡◌, ℕ, List, [], ◌∷◌, ◌==◌, true, false, refl, sym, ap, subst, ℤ}
use Rattle.std.proofs.Common.{pos, arith}
use Rattle.std.specs.Prelude.{Option, Some, None, if◌then◌else◌, option_map}
use Rattle.std.specs.Char.{is_ascii_digit}
use Rattle.std.specs.Int.{is_in_range}
use Rattle.std.specs.List.{list_all}
use Rattle.std.proofs.lemmas.Bool.Decides.{nat_tests}
use Rattle.go_ast.specs.Characters.{single_quote}
use Rattle.go_ast.specs.Numbers.{Integer, lone_zero, decimal, octal, based, print_integer}
use Rattle.go_ast.specs.Numbers.{is_integer, is_digit_of}
use Rattle.const_eval.specs.declared.value.Value.{Value}
use Rattle.const_eval.specs.Operators.{within}
use Rattle.const_eval.specs.Expressions.{begins_literal, IsOperandWorth, an_integer, a_rune, a_name}
use Rattle.go_literals.specs.Reading.{read_integer, read_rune}
use Rattle.const_eval.specs.Reading.{read_literal, as_number, one_level}
use Rattle.const_eval.specs.Reading.{operand_value}
use Rattle.go_literals.proofs.Options.{bind_some, some_is}
use Rattle.go_literals.proofs.IntegerLaws.{both, integer_complete, integer_sound}
use Rattle.go_literals.proofs.RuneLaws.{rune_complete, rune_sound}

abbrev pub Names : (List ℕ → Option ℤ) → List ℕ → ℤ → Type 0
Names names text number = names text ≡ Some number

begins_at : (b : ℕ) → is_in_range 49 57 b ≡ true → (b == single_quote) ≡ false
begins_at b h = grind (arith, nat_tests)

-- an integer begins as a literal, and not as a rune
integer_read : (i : Integer) → is_integer i ≡ true → (begins_literal (print_integer i) ≡ true)
    × (read_literal (print_integer i) ≡ as_number (read_integer (print_integer i)))
integer_read lone_zero h = (refl, refl)
integer_read (octal ds) h = (refl, refl)
integer_read (based letter ds) h = (refl, refl)
integer_read (decimal d ds) h =
    let p = (both (is_in_range 49 57 d) (list_all (is_digit_of is_ascii_digit) ds) h).0 in
    (grind (arith, nat_tests, p), rw (begins_at d p) refl)

module _ (names : List ℕ → Option ℤ) where
  pub operand_complete : (text : List ℕ) (number : ℤ) → IsOperandWorth (Names names) text number
      → operand_value names text ≡ Some (one_level number)
  operand_complete text n (an_integer i h number p) =
      let r = integer_read i h in
      rw (r.0, r.1, integer_complete i h, p) refl
  operand_complete text n (a_rune element h number p) = rw (rune_complete element h, p) refl
  operand_complete t n (a_name text number b p) = rw (b, p) refl

  literal_sound : (text : List ℕ) (number : ℤ) → read_literal text ≡ Some number
      → IsOperandWorth (Names names) text number
  literal_sound [] number p = cc
  literal_sound (b ∷ bytes) number p = (elim (b == single_quote) as (λ t.
      (if t then as_number (read_rune (b ∷ bytes)) else as_number (read_integer (b ∷ bytes))) ≡ Some
      number → IsOperandWorth (Names names) (b ∷ bytes) number) [
        | true ↦ λ q. let r = bind_some (read_rune (b ∷ bytes)) (λ n. within (pos n)) number q in
            let s = rune_sound (b ∷ bytes) r.0 r.1 in
            subst (λ t. IsOperandWorth (Names names) t number) s.printed
            (a_rune s.element s.valid number (rw s.worth r.2))
        | false ↦ λ q. let r = bind_some (read_integer (b ∷ bytes)) (λ n. within (pos n)) number
            q in
            let s = integer_sound (b ∷ bytes) r.0 r.1 in
            subst (λ t. IsOperandWorth (Names names) t number) s.printed
            (an_integer s.literal s.valid number (rw s.worth r.2))
      ]) p

  leveled : (text : List ℕ) (found : Option ℤ) (v : Value) → option_map one_level found ≡ Some v
      → (found ≡ Some v.number) × (v.levels ≡ 1)
  leveled text None v p = cc
  leveled text (Some number) v p = let e : one_level number ≡ v = some_is _ v p in
      (ap (λ (t : Value). Some t.number) e, sym (ap (λ (t : Value). t.levels) e))

  pub operand_sound : (text : List ℕ) (v : Value) → operand_value names text ≡ Some v
      → IsOperandWorth (Names names) text v.number × (v.levels ≡ 1)
  operand_sound text v p =
      let q = leveled text (if begins_literal text then read_literal text else names text) v p in (
        (elim (begins_literal text) as (λ t. begins_literal text ≡ t
            → (if t then read_literal text else names text) ≡ Some v.number
            → IsOperandWorth (Names names) text v.number) [
              | true ↦ λ e r. literal_sound text v.number r
              | false ↦ λ e r. a_name text v.number e r
            ]) refl q.0,
        q.1,
      )
