-- Cited by public clauses. What the result of a call says of a source.
use Rattle.std.specs.Prelude.{◌≡◌, ℕ, ◌≤◌, List, [], ◌∷◌, ⊤}
use Rattle.go_ast.specs.declared.fault.Refused.{Refused}
use Rattle.go_ast.specs.declared.fault.Refused.TheVariants as refusals
use Rattle.go_ast.specs.declared.fault.Fault.{Fault}
use Rattle.go_ast.specs.declared.token.Token.{Token}
use Rattle.go_ast.specs.declared.token.Comment.{Comment}
use Rattle.go_ast.specs.Reading.{Reads, ScanFault}

-- a source is refused for its fault, or for lack of memory
abbrev pub RefusedFor : List ℕ → Refused → Type 0
RefusedFor bytes (refusals.Fault fault) = ScanFault bytes fault
RefusedFor bytes refusals.NoMemory = ⊤

-- a refusal for this fault, or for lack of memory
abbrev pub IsRefusedAs : Fault → Refused → Type 0
IsRefusedAs fault (refusals.Fault found) = found ≡ fault
IsRefusedAs fault refusals.NoMemory = ⊤

-- the source has a reading
abbrev pub IsRead : List ℕ → Type 0
IsRead bytes = (tokens : List Token) × (comments : List Comment) × Reads bytes tokens comments

-- the source has a fault
abbrev pub IsFaulty : List ℕ → Type 0
IsFaulty bytes = (fault : Fault) × ScanFault bytes fault

-- the spans of the tokens stand one after another, from one offset to another
abbrev pub AreInOrder : ℕ → List Token → ℕ → Type 0
AreInOrder from [] to = from ≤ to
AreInOrder from (token ∷ tokens) to =
    (from ≤ token.span.start) × (token.span.start ≤ token.span.end)
    × AreInOrder token.span.end tokens to
