use Rattle.go_parser.proofs.DeclLaws.{one-decl}
use Rattle.go_parser.proofs.laws.declaration_spelled_once.Goals as goal

pub returns : goal.returns
returns c = one-decl
