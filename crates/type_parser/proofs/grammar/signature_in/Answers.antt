use Rattle.go_ast.specs.Types.{IsSignature, Spells}
use Rattle.go_ast.specs.declared.tree.TheConstants.{MAX_TYPE_LEVELS}
use Rattle.type_parser.specs.Reading.{read_signature, type_of}
use Rattle.type_parser.proofs.TypeParamLaws.{answers, read_signature-sound, read_signature-complete}
use Rattle.type_parser.proofs.grammar.signature_in.Goals as goal

pub returns-clause-spelled : goal.returns-clause-spelled
returns-clause-spelled c =
    answers (read_signature (type_of MAX_TYPE_LEVELS)) (IsSignature (Spells MAX_TYPE_LEVELS))
    read_signature-sound read_signature-complete c.args.words.now c.signature.result
    c.signature.ensures
