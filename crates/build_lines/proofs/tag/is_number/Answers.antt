use Rattle.std.proofs.Common.{◌+◌, ◌*◌, sym, ◌∙◌, ap}
use Rattle.build_lines.specs.Tags.{is_number}
use Rattle.build_lines.proofs.Versions.{test_passed}
use Rattle.build_lines.proofs.tag.is_number.Goals as goal

pub returns-then-value-most : goal.returns-then-value-most
returns-then-value-most c =
    sym (test_passed c.from-most.result c.loop-digit.value c.args.digits.now
    c.loop-digit.digit-index _ c.loop-digit-test.true
    (sym c.is_ascii_digit.ensures.value ∙ c.if-not-is_ascii_digit.false)
    (ap (λ n. c.loop-digit.value * 10 + n) c.from.ensures) c.if-value-most.true)
    ∙ c.loop-digit.invariant.same
    ∙ ap (λ n. is_number n c.args.digits.now) c.from-most.ensures
