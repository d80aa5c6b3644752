use Rattle.const_eval.proofs.Arithmetic.{quotient}
use Rattle.const_eval.proofs.operator.Operator.apply_binary.Goals as goal
use Rattle.std.proofs.Common.{arith}
use Rattle.std.proofs.lemmas.Int.{to_z-of_z}

pub returns-in-Divide : goal.returns-in-Divide
returns-in-Divide c =
    grind (arith, to_z-of_z, quotient c.checked_div.result c.args.x c.args.y c.ranges.y)
