use Rattle.go_ast.specs.declared.tree.TheConstants.{MAX_TYPE_LEVELS}
use Rattle.type_parser.proofs.TypeLaws.{answer-is}
use Rattle.type_parser.proofs.grammar.type_in.Goals as goal

pub returns-clause-spelled : goal.returns-clause-spelled
returns-clause-spelled c =
    answer-is MAX_TYPE_LEVELS c.args.words.now c.type_of.result c.type_of.ensures
