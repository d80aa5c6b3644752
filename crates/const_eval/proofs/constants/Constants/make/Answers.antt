use Rattle.std.proofs.Common.{subst, length}
use Rattle.const_eval.specs.Progress.{Passes}
use Rattle.const_eval.proofs.Finding.{all_found}
use Rattle.const_eval.proofs.constants.Constants.make.Goals as goal

pub returns : goal.returns
returns c = all_found c.args.specs.now c.loop-values.values c.learn_all.new.values
    c.loop-values.invariant c.in_ok-learn_all.ensures.known
    (subst (Passes c.args.specs.now (length c.args.specs.now) c.loop-values.values
    c.learn_all.new.values) c.if-branch.false c.in_ok-learn_all.ensures.pass)
