use Rattle.go_ast.specs.declared.tree.TheConstants.{MAX_TYPE_LEVELS}
use Rattle.type_parser.proofs.TypeLaws.{one-type}
use Rattle.type_parser.proofs.laws.spelled_once.Goals as goal

pub returns : goal.returns
returns c = one-type MAX_TYPE_LEVELS
