use Rattle.std.proofs.Common.{◌≡◌, ◌∙◌, ◌<◌, ◌==◌, false, sym, ap, arith, get_or}
use Rattle.std.specs.Char.{digit_value}
use Rattle.std.proofs.lemmas.Bool.Decides.{nat_tests}
use Rattle.go_ast.specs.Characters.{underscore}
use Rattle.go_literals.specs.Options.{◌|>◌}
use Rattle.go_literals.specs.Reading.{in_range}
use Rattle.go_literals.proofs.DigitRuns.{stuck}
use Rattle.go_literals.proofs.integer.digits_value.Goals as goal

pub returns-in-None : goal.returns-in-None
returns-in-None c =
    let small : digit_value (get_or c.args.digits.now c.loop-byte.byte-index 0) < c.args.base =
    c.in_ok-digit.ensures.value.0 in
    let same : c.in_ok-digit.digit ≡ digit_value
    (get_or c.args.digits.now c.loop-byte.byte-index 0) = c.in_ok-digit.ensures.value.1 in
    let other : (get_or c.args.digits.now c.loop-byte.byte-index 0 == underscore) ≡ false =
    grind (arith, nat_tests, c.if-byte-eq95.false) in
    sym (ap (λ o. o |> in_range) (sym c.loop-byte.invariant.same)
    ∙ stuck c.args.base c.loop-byte.value c.loop-byte.marked c.args.digits.now
    c.loop-byte.byte-index c.requires.low
    c.loop-byte-test.true other small (λ h. c.in-None.ensures (rw same h)))
