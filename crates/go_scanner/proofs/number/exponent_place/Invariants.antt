use Rattle.std.proofs.Common.{◌≡◌, ◌+◌, drop}
use Rattle.go_scanner.specs.NumberBytes.{exponent_place}
use Rattle.go_scanner.proofs.number.exponent_place.Given as goal

-- the place in what is left, counted on
abbrev pub invariant-loop-place : goal.invariant-loop-place
invariant-loop-place l =
    l.place + exponent_place l.hexadecimal (drop l.place l.bytes)
    ≡ exponent_place l.hexadecimal l.bytes
