use Rattle.std.proofs.Common.{arith}
use Rattle.std.proofs.lemmas.Int.{ints}
use Rattle.const_eval.proofs.Arithmetic.{left}
use Rattle.const_eval.proofs.operator.shifted_left.Goals as goal

pub returns-in-0-to-126 : goal.returns-in-0-to-126
returns-in-0-to-126 c = left c.checked_mul.result c.args.x c.args.count (omega (arith, ints))
    (omega (arith, ints)) c.ranges.x c.checked_mul.ensures
