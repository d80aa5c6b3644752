-- Cited by private clauses and proofs. What operands are worth by their bytes.
use Rattle.std.specs.Prelude.{ℕ, List, [], ◌∷◌, if◌then◌else◌, ◌==◌, Option, Some, None}
use Rattle.std.specs.Prelude.{option_map, ℤ, pos, codes}
use Rattle.std.specs.Str.{bytes_eq}
use Rattle.go_ast.specs.Characters.{single_quote}
use Rattle.go_literals.specs.Options.{◌|>◌}
use Rattle.go_literals.specs.Reading.{read_integer, read_rune}
use Rattle.const_eval.specs.Operators.{within}
use Rattle.const_eval.specs.Expressions.{begins_literal}
use Rattle.const_eval.specs.declared.value.Value.{Value}

-- a value, where it is below 2^127
abbrev pub as_number : Option ℕ → Option ℤ
as_number found = found |> λ n. within (pos n)

-- the value of a literal; one that begins with a quote is a rune
abbrev pub read_literal : List ℕ → Option ℤ
read_literal [] = None
read_literal (b ∷ bytes) = if b == single_quote then as_number (read_rune (b ∷ bytes))
    else as_number (read_integer (b ∷ bytes))

-- what a name is worth, with the number for `iota` where there is one
abbrev pub name_value : Option ℕ → (List ℕ → Option ℤ) → List ℕ → Option ℤ
name_value None constants text = constants text
name_value (Some number) constants text = if bytes_eq text (codes "iota") then Some (pos number)
    else constants text

abbrev pub one_level : ℤ → Value
one_level number = record { number = number; levels = 1 }

abbrev pub operand_value : (List ℕ → Option ℤ) → List ℕ → Option Value
operand_value names text =
    option_map one_level (if begins_literal text then read_literal text else names text)
