use Rattle.std.proofs.Common.{◌≡◌, ap, sym, subst, ◌<◌, ◌≤◌, All, IfErr, IfOk, length, arith}
use Rattle.go_ast.specs.Files.{SpellsFile}
use Rattle.go_ast.specs.Tokens.{IsWithin}
use Rattle.go_parser.specs.Results.{RefusedFor}
use Rattle.go_parser.proofs.FileAnswers.{found-is, refused-is}
use Rattle.go_parser.proofs.TokenCounts.{few_tokens}
use Rattle.go_scanner.proofs.ScanLaws.{within}
use Rattle.go_parser.proofs.parse.parse_file.Goals as goal

pub file_in-requires-clause-few : goal.file_in-requires-clause-few
file_in-requires-clause-few c =
    let same = ap length c.as_slice.ensures in
    let few = few_tokens c.args.source.now c.args.scanned.now.tokens c.args.scanned.now.comments
    c.requires.read in
    omega (arith, same, few, c.requires.size)

pub file_in-requires-clause-spans : goal.file_in-requires-clause-spans
file_in-requires-clause-spans c =
    subst (λ ts. All (IsWithin (length c.args.source.now)) ts) (sym c.as_slice.ensures)
    (within c.args.source.now c.args.scanned.now.tokens c.args.scanned.now.comments c.requires.read)

pub returns-clause-found : goal.returns-clause-found
returns-clause-found c =
    found-is c.args.source.now c.args.scanned.now.tokens c.file_in.result
    (subst (λ ts. IfOk c.file_in.result (λ f. SpellsFile c.args.source.now ts f)) c.as_slice.ensures
    c.file_in.ensures.file)
    (subst (λ ts. IfErr c.file_in.result (RefusedFor c.args.source.now ts)) c.as_slice.ensures
    c.file_in.ensures.fault)

pub returns-clause-refused : goal.returns-clause-refused
returns-clause-refused c =
    refused-is c.args.source.now c.args.scanned.now.tokens c.file_in.result
    (subst (λ ts. IfOk c.file_in.result (λ f. SpellsFile c.args.source.now ts f)) c.as_slice.ensures
    c.file_in.ensures.file)
    (subst (λ ts. IfErr c.file_in.result (RefusedFor c.args.source.now ts)) c.as_slice.ensures
    c.file_in.ensures.fault)
