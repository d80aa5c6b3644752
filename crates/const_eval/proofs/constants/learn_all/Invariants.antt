use Rattle.std.specs.BTreeMap.{get_by_text}
use Rattle.const_eval.specs.Progress.{IsKnown, Passes}
use Rattle.const_eval.proofs.constants.learn_all.Given as goal

abbrev pub invariant-loop-place : goal.invariant-loop-place
invariant-loop-place l = record {
  known : IsKnown l.fn.facts (get_by_text l.values);
  pass : Passes l.fn.facts l.place l.fn.values l.values l.changed;
}
