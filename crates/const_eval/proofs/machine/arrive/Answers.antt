use Rattle.std.proofs.Common.{◌≡◌, ◌∷◌, [], ◌++◌, ◌∙◌, sym, ap}
use Rattle.std.specs.Prelude.{Some, reverse}
use Rattle.const_eval.specs.declared.machine.Frame.TheVariants as f
use Rattle.const_eval.specs.Values.{apply_unary, apply_binary}
use Rattle.const_eval.proofs.MachineSteps.{front_kept, unary_step, product_step}
use Rattle.const_eval.proofs.machine.arrive.Goals as goal

pub returns-in-Product-clause-value : goal.returns-in-Product-clause-value
returns-in-Product-clause-value c =
    let e : c.loop-last.rest.now ≡ c.in-Some.before.now
    ++ f.Product c.in-Product.left c.in-Product.operator ∷ []
    = c.in-Some.ensures.cases.0 ∙ ap (λ t. c.in-Some.before.now ++ t ∷ []) c.in-Product.is in
    let h : apply_binary c.in-Product.operator c.in-Product.left c.loop-last.value ≡ Some
    c.in_ok-product-in-Product.product = sym c.apply_binary.ensures
    ∙ c.in_ok-product-in-Product.was in
    ap (λ t. Some (reverse t, c.in_ok-product-in-Product.product))
    (sym (front_kept _ _ _ _ c.loop-last.invariant.front e))
    ∙ sym (product_step _ _ _ _ _ _ e h) ∙ c.loop-last.invariant.same

pub loop-last-preserved : goal.loop-last-preserved
loop-last-preserved c =
    let e : c.loop-last.rest.now ≡ c.in-Some.before.now ++ f.Unary c.in-Unary.operator ∷ []
    = c.in-Some.ensures.cases.0 ∙ ap (λ t. c.in-Some.before.now ++ t ∷ []) c.in-Unary.is in
    let h : apply_unary c.in-Unary.operator c.loop-last.value ≡ Some c.in_ok-value-in-Unary.value =
    sym c.apply_unary.ensures ∙ c.in_ok-value-in-Unary.was in
    record {
      front = front_kept _ _ _ _ c.loop-last.invariant.front e;
      same = sym (unary_step _ _ _ _ _ e h) ∙ c.loop-last.invariant.same;
    }
