use Rattle.comment_blocks.proofs.Cuttings.{a_cutting, only_cutting}
use Rattle.comment_blocks.proofs.laws.lines_have_one_cutting.Goals as goal

pub returns-clause-one : goal.returns-clause-one
returns-clause-one c = a_cutting

pub returns-clause-no_other : goal.returns-clause-no_other
returns-clause-no_other c = only_cutting
