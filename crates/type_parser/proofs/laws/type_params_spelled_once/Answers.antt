use Rattle.go_ast.specs.TypeParameters.{AreTypeParams}
use Rattle.go_ast.specs.declared.tree.TheConstants.{MAX_TYPE_LEVELS}
use Rattle.type_parser.specs.Reading.{type_of}
use Rattle.type_parser.specs.TypeParams.{read_type_params}
use Rattle.type_parser.proofs.TypeParamLaws.{once, one-entries, read_type_params-complete}
use Rattle.type_parser.proofs.laws.type_params_spelled_once.Goals as goal

pub returns-clause-entries : goal.returns-clause-entries
returns-clause-entries c = one-entries

pub returns-clause-words : goal.returns-clause-words
returns-clause-words c = once (read_type_params (type_of MAX_TYPE_LEVELS)) AreTypeParams
    read_type_params-complete
