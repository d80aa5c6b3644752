-- Cited by private clauses and proofs. A function value that reads types of at most so many levels.
use Rattle.std.specs.Prelude.{◌≡◌, ℕ, List, Option, Result, IfOk}
use Rattle.std.specs.declared.alloc.Global.{Global}
use denote.Ref.{Bor}
use Rattle.plain_data.specs.declared.errors.NoMemory.{NoMemory}
use Rattle.go_ast.specs.declared.tree.TypeExpr.{TypeExpr}
use Rattle.go_ast.specs.declared.word.Word.{Word}
use Rattle.type_parser.specs.Reading.{type_of}

pub record ReadsParts (levels : ℕ) (pre : Global → ℕ → Bor (List Word) → Type 0)
    (post : Global → ℕ → Bor (List Word) → Result (Option TypeExpr) NoMemory → Type 0) : Type 0
  where
    pub callable : (alloc : Global) (ws : Bor (List Word)) → pre alloc levels ws
    pub reads : (alloc : Global) (ws : Bor (List Word)) (r : Result (Option TypeExpr) NoMemory)
        → post alloc levels ws r
        → IfOk r (λ o. o ≡ type_of levels ws.now)
