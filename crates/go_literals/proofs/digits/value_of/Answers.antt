use Rattle.std.proofs.Common.{◌<◌, ◌+◌, ◌*◌, ◌^◌, drop, sym, ◌∙◌, ap, arith}
use Rattle.go_ast.specs.Texts.{value_after}
use Rattle.go_literals.proofs.Values.{one_digit, digits_fit, value_step}
use Rattle.go_literals.proofs.digits.value_of.Goals as goal

pub overflow_mul-value : goal.overflow_mul-value
overflow_mul-value c =
    let one =
    one_digit c.loop-digit.digit-index c.loop-digit.value c.args.base 0
    c.loop-digit.invariant.small c.requires.base (omega arith) in
    let fits : c.loop-digit.value * c.args.base + 0 < 2 ^ 64 =
    digits_fit c.loop-digit.digit-index _ (omega (arith, c.requires.few)) one in
    omega arith

pub overflow_add-value : goal.overflow_add-value
overflow_add-value c =
    let one =
    one_digit c.loop-digit.digit-index c.loop-digit.value c.args.base c.digit_value.result
    c.loop-digit.invariant.small c.requires.base c.digit_value.ensures.small in
    let fits : c.loop-digit.value * c.args.base + c.digit_value.result < 2 ^ 64 =
    digits_fit c.loop-digit.digit-index _ (omega (arith, c.requires.few)) one in
    omega arith

pub loop-digit-preserved : goal.loop-digit-preserved
loop-digit-preserved c = record {
  value =
      ap (λ d. value_after c.args.base (c.loop-digit.value * c.args.base + d)
      (drop (c.loop-digit.digit-index + 1) c.args.digits.now)) c.digit_value.ensures.value
      ∙ sym (value_step c.args.base c.loop-digit.value c.args.digits.now c.loop-digit.digit-index
      c.loop-digit-test.true) ∙ c.loop-digit.invariant.value;
  small =
      one_digit c.loop-digit.digit-index c.loop-digit.value c.args.base c.digit_value.result
      c.loop-digit.invariant.small c.requires.base c.digit_value.ensures.small;
}
