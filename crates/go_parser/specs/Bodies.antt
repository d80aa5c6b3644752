-- Cited by private clauses and proofs. The tokens that are read for a declaration: those before its
-- body.
use Rattle.std.specs.Prelude.{◌≡◌, ◌≢◌, List, [], ◌∷◌, Option, Some, None, ⊤}
use Rattle.go_ast.specs.declared.token.TokenRange.{TokenRange}
use Rattle.go_ast.specs.declared.word.Mark.TheVariants as m
use Rattle.go_ast.specs.declared.word.Word.{Word}
use Rattle.go_ast.specs.Declarations.{Precedes}

abbrev pub before_body : TokenRange → Option TokenRange → TokenRange
before_body range None = range
before_body range (Some body) = record { first = range.first; after = body.first }

-- the words before the body of a function, or all words of another declaration
abbrev pub AreReadFor : List Word → List Word → Option TokenRange → Type 0
AreReadFor [] front body = ⊤
AreReadFor (w ∷ ws) front body = (w.mark ≡ m.Func → Precedes (w ∷ ws) front body)
    × (w.mark ≢ m.Func → front ≡ w ∷ ws)
