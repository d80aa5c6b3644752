use Rattle.std.specs.BTreeMap.{get_by_text}
use Rattle.const_eval.specs.Progress.{IsKnown, missing}
use Rattle.const_eval.proofs.constants.Constants.make.Given as goal

abbrev pub invariant-loop-values : goal.invariant-loop-values
invariant-loop-values l = IsKnown l.fn.specs (get_by_text l.values)

abbrev pub decreases-loop-values : goal.decreases-loop-values
decreases-loop-values l = missing l.fn.specs (get_by_text l.values)
