use Rattle.std.proofs.Common.{◌≡◌, false, drop}
use Rattle.go_scanner.specs.TextBytes.{is_unclosed}
use Rattle.go_scanner.proofs.fault.is_unclosed.Given as goal

-- the answer is that of what is left
abbrev pub invariant-loop-byte : goal.invariant-loop-byte
invariant-loop-byte l =
    is_unclosed l.quote l.escaped (drop l.byte-index l.bytes) ≡ is_unclosed l.quote false l.bytes
