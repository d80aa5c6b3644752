use Rattle.type_parser.proofs.TypeParamLaws.{declared-answers}
use Rattle.type_parser.proofs.grammar.declared_in.Goals as goal

pub returns-clause-spelled : goal.returns-clause-spelled
returns-clause-spelled c =
    declared-answers c.args.words.now c.declared.result c.declared.ensures
