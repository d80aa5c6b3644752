use Rattle.std.proofs.Common.{◌≡◌, ◌<◌, ◌^◌, drop, false}
use Rattle.go_literals.specs.Reading.{read_digits}
use Rattle.go_literals.proofs.integer.digits_value.Given as goal

abbrev pub invariant-loop-byte : goal.invariant-loop-byte
invariant-loop-byte l = record {
  same : read_digits l.base l.marked l.value (drop l.byte-index l.digits) ≡ read_digits l.base false
      0 l.digits;
  small : l.value < 2 ^ 128;
}
