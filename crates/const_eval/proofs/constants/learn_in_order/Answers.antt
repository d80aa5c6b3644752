use Rattle.std.proofs.Common.{sym, subst}
use Rattle.std.specs.BTreeMap.{get_by_text}
use Rattle.const_eval.specs.Progress.{IsKnown}
use Rattle.const_eval.proofs.constants.learn_in_order.Goals as goal
use Rattle.const_eval.proofs.constants.learn_in_order.Goals.{in-Enter+then-not-index+in_ok-push-in-Enter+in_ok-enter_named-in-Enter}
use Rattle.const_eval.proofs.constants.learn_in_order.Goals.{in-Enter+else-not-index}
use Rattle.const_eval.proofs.constants.learn_in_order.Goals.{in-Enter+then-place-facts+else-place-len}
use Rattle.const_eval.proofs.constants.learn_in_order.Goals.{in-Enter+else-place-facts}
use Rattle.const_eval.proofs.constants.learn_in_order.Goals.{in-Leave+in_ok-learn-in-Leave}
use Rattle.const_eval.proofs.constants.learn_in_order.Goals.{in-Leave+else-place-facts-2}

pub loop-preserved : goal.loop-preserved
loop-preserved c = elim c.match-task.branch [
  | in-Enter+then-not-index+in_ok-push-in-Enter+in_ok-enter_named-in-Enter w ↦ subst
      (λ t. IsKnown c.args.facts.now (get_by_text t)) (sym w.values-is) c.loop.invariant
  | in-Enter+else-not-index w ↦ subst (λ t. IsKnown c.args.facts.now (get_by_text t))
      (sym w.values-is) c.loop.invariant
  | in-Enter+then-place-facts+else-place-len w ↦ subst
      (λ t. IsKnown c.args.facts.now (get_by_text t)) (sym w.values-is) c.loop.invariant
  | in-Enter+else-place-facts w ↦ subst (λ t. IsKnown c.args.facts.now (get_by_text t))
      (sym w.values-is) c.loop.invariant
  | in-Leave+in_ok-learn-in-Leave w ↦ subst (λ t. IsKnown c.args.facts.now (get_by_text t))
      (sym w.values-is) w.in_ok-learn-in-Leave.ensures.known
  | in-Leave+else-place-facts-2 w ↦ subst (λ t. IsKnown c.args.facts.now (get_by_text t))
      (sym w.values-is) c.loop.invariant
]
