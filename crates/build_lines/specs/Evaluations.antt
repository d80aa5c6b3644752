-- Cited by private clauses and proofs. What a symbol makes of an `Evaluation`.
use Rattle.std.specs.Prelude.{◌≡◌, Bool, Some, None, MatchBool, reverse}
use Rattle.build_lines.specs.declared.evaluation.Evaluation.{Evaluation}
use Rattle.build_lines.specs.declared.symbol.Symbol.{Symbol}
use Rattle.build_lines.specs.Reading.{Evaluating, evaluate_symbol, evaluating}

abbrev pub evaluation_of : Evaluation → Evaluating
evaluation_of e = evaluating (reverse e.outer.items) e.frame e.complete

-- the symbol was taken, and these are the values after it; or it may not stand there
abbrev pub IsAfter : Evaluation → Symbol → Bool → Evaluation → Type 0
IsAfter old symbol taken new = let next =
    evaluate_symbol (reverse old.outer.items) old.frame old.complete symbol in
    MatchBool taken (next ≡ Some (evaluation_of new)) (next ≡ None)
