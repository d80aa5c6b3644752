use Rattle.std.proofs.Common.{◌≡◌, ◌≤◌, ◌^◌, drop}
use Rattle.go_ast.specs.Texts.{value_after, value_of}
use Rattle.go_literals.proofs.digits.value_of.Given as goal

-- the value of what is left after the value so far, which is small
abbrev pub invariant-loop-digit : goal.invariant-loop-digit
invariant-loop-digit l = record {
  value : value_after l.base l.value (drop l.digit-index l.digits) ≡ value_of l.base l.digits;
  small : l.value ≤ 64 ^ l.digit-index;
}
