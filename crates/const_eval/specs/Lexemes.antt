-- Cited by public clauses. What tokens are to an expression: brackets, operators and operands by
-- their texts.
use Rattle.std.specs.Prelude.{ℕ, List, [], ◌∷◌, codes, if◌then◌else◌}
use Rattle.std.specs.Str.{bytes_eq}
use Rattle.const_eval.specs.declared.operator.Operator.TheVariants as o
use Rattle.const_eval.specs.declared.lexeme.Lexeme.{Lexeme}
use Rattle.const_eval.specs.declared.lexeme.Lexeme.TheVariants as l

-- what stands next to the first of the texts that is this one
abbrev pub lexeme_among : List (List ℕ × Lexeme) → List ℕ → Lexeme
lexeme_among [] text = l.Operand
lexeme_among (entry ∷ entries) text = if bytes_eq text entry.0 then entry.1
    else lexeme_among entries text

abbrev pub lexemes : List (List ℕ × Lexeme)
lexemes =
    (codes "(", l.Open) ∷ (codes ")", l.Close)
    ∷ (codes "+", l.Operator o.Add) ∷ (codes "-", l.Operator o.Subtract)
    ∷ (codes "|", l.Operator o.Or) ∷ (codes "^", l.Operator o.Xor)
    ∷ (codes "*", l.Operator o.Multiply) ∷ (codes "/", l.Operator o.Divide)
    ∷ (codes "%", l.Operator o.Remainder) ∷ (codes "<<", l.Operator o.ShiftLeft)
    ∷ (codes ">>", l.Operator o.ShiftRight) ∷ (codes "&", l.Operator o.And)
    ∷ (codes "&^", l.Operator o.AndNot) ∷ []

unfoldable pub lexeme_of : List ℕ → Lexeme
lexeme_of text = lexeme_among lexemes text
