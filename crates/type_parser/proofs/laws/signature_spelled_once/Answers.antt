use Rattle.go_ast.specs.Types.{IsSignature, Spells}
use Rattle.go_ast.specs.declared.tree.TheConstants.{MAX_TYPE_LEVELS}
use Rattle.type_parser.specs.Reading.{read_signature, type_of}
use Rattle.type_parser.proofs.TypeParamLaws.{once, read_signature-complete}
use Rattle.type_parser.proofs.laws.signature_spelled_once.Goals as goal

pub returns : goal.returns
returns c =
    once (read_signature (type_of MAX_TYPE_LEVELS)) (IsSignature (Spells MAX_TYPE_LEVELS))
    read_signature-complete
