use Rattle.std.proofs.Common.{◌≡◌, ◌+◌, drop}
use Rattle.std.specs.List.{prefix_len}
use Rattle.go_scanner.specs.Classes.{is_blank}
use Rattle.go_scanner.proofs.scanner.blank_length.Given as goal

-- the white space so far and what follows is all
abbrev pub invariant-loop-i : goal.invariant-loop-i
invariant-loop-i l = l.i + prefix_len is_blank (drop l.i l.bytes) ≡ prefix_len is_blank l.bytes
