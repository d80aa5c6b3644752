use Rattle.type_parser.proofs.TypeParamLaws.{one-declared}
use Rattle.type_parser.proofs.laws.declared_once.Goals as goal

pub returns-clause-names : goal.returns-clause-names
returns-clause-names c = λ words xs ys x y s r. (one-declared words xs ys x y s r).0

pub returns-clause-typ : goal.returns-clause-typ
returns-clause-typ c = λ words xs ys x y s r. (one-declared words xs ys x y s r).1
