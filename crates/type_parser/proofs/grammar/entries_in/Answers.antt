use Rattle.go_ast.specs.Cutting.{pieces}
use Rattle.go_ast.specs.TypeParameters.{Entries}
use Rattle.go_ast.specs.declared.tree.TheConstants.{MAX_TYPE_LEVELS}
use Rattle.go_ast.specs.declared.word.Mark.TheVariants as m
use Rattle.type_parser.specs.Reading.{type_of}
use Rattle.type_parser.specs.TypeParams.{read_entries}
use Rattle.type_parser.proofs.TypeParamLaws.{answers, read_entries-sound, read_entries-complete}
use Rattle.type_parser.proofs.grammar.entries_in.Goals as goal

pub returns-clause-spelled : goal.returns-clause-spelled
returns-clause-spelled c =
    answers (read_entries (type_of MAX_TYPE_LEVELS)) (λ ws ps. Entries (pieces m.Comma ws) ps)
    read_entries-sound read_entries-complete c.args.words.now c.type_params.result
    c.type_params.ensures
