use Rattle.const_eval.proofs.OneTree.{one_tree}
use Rattle.const_eval.proofs.laws.one_tree_for_each_run.Goals as goal

pub returns : goal.returns
returns c = one_tree
