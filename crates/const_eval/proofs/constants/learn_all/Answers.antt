use Rattle.const_eval.proofs.Finding.{pass_on}
use Rattle.const_eval.proofs.constants.learn_all.Goals as goal

pub loop-place-preserved : goal.loop-place-preserved
loop-place-preserved c = record {
  known = c.in_ok-found.ensures.known;
  pass = pass_on c.args.facts.now c.loop-place.place c.args.values.now c.loop-place.values
      c.learn.new.values c.loop-place.changed
      c.in_ok-found.found c.loop-place.invariant.pass c.in_ok-found.ensures.attempt;
}
