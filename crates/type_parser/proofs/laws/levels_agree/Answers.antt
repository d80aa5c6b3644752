use Rattle.type_parser.proofs.Levels.{levels-up, same-type}
use Rattle.type_parser.proofs.laws.levels_agree.Goals as goal

pub returns-clause-more : goal.returns-clause-more
returns-clause-more c = levels-up

pub returns-clause-same : goal.returns-clause-same
returns-clause-same c = same-type
