-- Cited by private clauses and proofs. The outcome of a file that a call on its source refused.
use Rattle.std.specs.Prelude.{◌≡◌}
use Rattle.go_ast.specs.declared.fault.Refused.{Refused}
use Rattle.go_ast.specs.declared.fault.Refused.TheVariants as refusals
use Rattle.corpus_piece.specs.declared.outcome.Outcome.{Outcome}
use Rattle.corpus_piece.specs.declared.outcome.Outcome.TheVariants.{Faulty}

-- the source was refused for a fault, which is the outcome
abbrev pub IsRefusalOf : Refused → Outcome → Type 0
IsRefusalOf (refusals.Fault fault) outcome = outcome ≡ Faulty fault
IsRefusalOf refusals.NoMemory outcome = ⊥
