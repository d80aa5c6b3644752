-- Cited by public clauses. What the result of a call says of the tokens of a file.
use Rattle.std.specs.Prelude.{ℕ, List, ⊤}
use Rattle.go_ast.specs.declared.fault.Refused.{Refused}
use Rattle.go_ast.specs.declared.fault.Refused.TheVariants as refusals
use Rattle.go_ast.specs.declared.token.Token.{Token}
use Rattle.go_ast.specs.Files.{FileFault}

-- tokens are refused for their fault, or for lack of memory
abbrev pub RefusedFor : List ℕ → List Token → Refused → Type 0
RefusedFor source tokens (refusals.Fault fault) = FileFault source tokens fault
RefusedFor source tokens refusals.NoMemory = ⊤
