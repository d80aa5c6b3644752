-- Cited by public clauses. Lengths of arrays (The Go Programming Language Specification, "Array
-- types"): a constant expression that is worth a number of at least 0, and else its text.
use Rattle.std.specs.Prelude.{◌≡◌, ℕ, ◌-◌, List, [], ◌∷◌, ◌++◌, map, take, drop, pos}
use Rattle.std.specs.Str.Lossy.{utf8_lossy}
use Rattle.go_ast.specs.Characters.{space}
use Rattle.go_ast.specs.Marks.{text_of}
use Rattle.go_ast.specs.declared.token.Token.{Token}
use Rattle.go_ast.specs.declared.token.TokenRange.{TokenRange}
use Rattle.const_eval.specs.declared.array.Length.{Length}
use Rattle.const_eval.specs.declared.array.Length.TheVariants as lengths
use Rattle.const_eval.specs.declared.constants.Constants.{Constants}
use Rattle.const_eval.specs.Constants.{Gives}
use Rattle.const_eval.specs.Expressions.{HasValue}

-- the texts of tokens
abbrev pub texts_of : List ℕ → List Token → List (List ℕ)
texts_of source tokens = map (λ token. text_of source token.span) tokens

-- the tokens of a range
abbrev pub tokens_in : TokenRange → List Token → List Token
tokens_in run tokens = take (run.after - run.first) (drop run.first tokens)

abbrev pub spaced : List (List ℕ) → List ℕ
spaced [] = []
spaced (text ∷ texts) = space ∷ text ++ spaced texts

-- the texts with one space between them
abbrev pub joined : List (List ℕ) → List ℕ
joined [] = []
joined (text ∷ texts) = text ++ spaced texts

-- the length that these texts are where the constants give names their numbers; bytes that are no
-- UTF-8 stand as U+FFFD in its text
abbrev pub IsLength : List (List ℕ) → Constants → Length → Type 0
IsLength texts constants (lengths.Known n) = HasValue (Gives constants) texts (pos n)
IsLength texts constants (lengths.AsText text) =
    ((n : ℕ) → HasValue (Gives constants) texts (pos n) → ⊥) × (text ≡ utf8_lossy (joined texts))
