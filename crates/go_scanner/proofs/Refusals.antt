-- What a refusal says of a source.
use Rattle.std.proofs.Common.{◌≡◌, ℕ, List, refl, subst}
use Rattle.go_ast.specs.declared.token.Token.{Token}
use Rattle.go_ast.specs.declared.token.Comment.{Comment}
use Rattle.go_ast.specs.declared.fault.Fault.{Fault}
use Rattle.go_ast.specs.declared.fault.Refused.{Refused}
use Rattle.go_ast.specs.declared.fault.Refused.TheVariants as refusals
use Rattle.go_ast.specs.Reading.{Reads, ScanFault}
use Rattle.go_scanner.specs.Results.{IsRead, IsRefusedAs, RefusedFor}
use Rattle.go_scanner.proofs.OneReading.{not_both, one_fault}

-- a source that has a reading is refused for memory alone
pub only_memory : (bytes : List ℕ) (refused : Refused) → RefusedFor bytes refused
    → (tokens : List Token) (comments : List Comment) → Reads bytes tokens comments
    → refused ≡ refusals.NoMemory
only_memory bytes (refusals.Fault fault) because tokens comments read =
    absurd (not_both bytes tokens comments fault read because)
only_memory bytes refusals.NoMemory because tokens comments read = refl

-- one that has a fault, for that fault or for memory
pub refused_as : (bytes : List ℕ) (refused : Refused) → RefusedFor bytes refused → (fault : Fault)
    → ScanFault bytes fault → IsRefusedAs fault refused
refused_as bytes (refusals.Fault found) because fault known =
    one_fault bytes found fault because known
refused_as bytes refusals.NoMemory because fault known = tt

-- one that is refused for a fault has no reading
pub unread : (bytes : List ℕ) (refused : Refused) → RefusedFor bytes refused → (fault : Fault)
    → refused ≡ refusals.Fault fault → IsRead bytes → ⊥
unread bytes refused because fault is read =
    not_both bytes read.0 read.1 fault read.2 (subst (RefusedFor bytes) is because)
