-- Cited by private clauses and proofs. A value with its levels, as the evaluation keeps them.
use Rattle.std.specs.Prelude.{ℕ, suc, max, ℤ, if◌then◌else◌, nat_lt, Option, Some, None}
use Rattle.go_literals.specs.Options.{◌|>◌}
use Rattle.const_eval.specs.declared.operator.Operator.{Operator}
use Rattle.const_eval.specs.declared.value.Value.{Value}
use Rattle.const_eval.specs.Operators.{unary_value, binary_value}

-- a number one level above these
abbrev pub above : ℕ → ℤ → Option Value
above levels number = if nat_lt levels 100
    then Some (record { number = number; levels = suc levels }) else None

abbrev pub parenthesize : Value → Option Value
parenthesize x = above x.levels x.number

abbrev pub apply_unary : Operator → Value → Option Value
apply_unary operator x = unary_value operator x.number |> above x.levels

abbrev pub apply_binary : Operator → Value → Value → Option Value
apply_binary operator x y = binary_value operator x.number y.number |> above (max x.levels y.levels)
