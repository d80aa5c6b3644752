use Rattle.std.proofs.Common.{◌≡◌, drop}
use Rattle.go_scanner.specs.Bases.{digits_of}
use Rattle.go_scanner.specs.NumberBytes.{are_separated}
use Rattle.go_scanner.proofs.number.are_separated.Given as goal

-- the answer is that of what is left
abbrev pub invariant-loop-byte : goal.invariant-loop-byte
invariant-loop-byte l =
    are_separated (digits_of l.base) l.after_mark (drop l.byte-index l.bytes) ≡ are_separated
    (digits_of l.base) l.fn.after_mark l.bytes
