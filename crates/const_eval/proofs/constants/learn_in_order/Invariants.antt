use Rattle.std.specs.BTreeMap.{get_by_text}
use Rattle.const_eval.specs.Progress.{IsKnown}
use Rattle.const_eval.proofs.constants.learn_in_order.Given as goal

abbrev pub invariant-loop : goal.invariant-loop
invariant-loop l = IsKnown l.fn.facts (get_by_text l.values)

abbrev pub invariant-loop-place : goal.invariant-loop-place
invariant-loop-place l = IsKnown l.fn.facts (get_by_text l.values)
