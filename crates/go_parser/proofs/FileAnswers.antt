-- What the answer of a parse says of every file and every fault.
use Rattle.std.proofs.Common.{◌≡◌, refl, ℕ, List, Result, Ok, Err, IfOk, IfErr, MatchResult}
use Rattle.go_ast.specs.declared.declaration.File.{File}
use Rattle.go_ast.specs.declared.fault.Fault.{Fault}
use Rattle.go_ast.specs.declared.fault.Refused.{Refused}
use Rattle.go_ast.specs.declared.fault.Refused.TheVariants as refusals
use Rattle.go_ast.specs.declared.token.Token.{Token}
use Rattle.go_ast.specs.Files.{FileFault, SpellsFile}
use Rattle.go_parser.specs.Results.{RefusedFor}
use Rattle.go_scanner.specs.Results.{IsRefusedAs}
use Rattle.go_parser.proofs.FileLaws.{file-not-fault, one-file, one-file-fault}

pub found-is : (source : List ℕ) (tokens : List Token) (r : Result File Refused)
    → IfOk r (λ f. SpellsFile source tokens f) → IfErr r (RefusedFor source tokens) → (f : File)
    → SpellsFile source tokens f
    → MatchResult r (λ found. found ≡ f) (λ refused. refused ≡ refusals.NoMemory)
found-is source tokens (Ok found) s e f p = one-file source tokens found f s p
found-is source tokens (Err (refusals.Fault x)) s e f p =
    absurd (file-not-fault source tokens f x p e)
found-is source tokens (Err refusals.NoMemory) s e f p = refl

pub refused-is : (source : List ℕ) (tokens : List Token) (r : Result File Refused)
    → IfOk r (λ f. SpellsFile source tokens f) → IfErr r (RefusedFor source tokens) → (x : Fault)
    → FileFault source tokens x → MatchResult r (λ f. ⊥) (λ refused. IsRefusedAs x refused)
refused-is source tokens (Ok found) s e x p = file-not-fault source tokens found x s p
refused-is source tokens (Err (refusals.Fault y)) s e x p = one-file-fault source tokens y x e p
refused-is source tokens (Err refusals.NoMemory) s e x p = tt
