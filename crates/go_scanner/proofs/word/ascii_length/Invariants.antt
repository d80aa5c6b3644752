use Rattle.std.proofs.Common.{◌≡◌, ◌+◌, drop}
use Rattle.std.specs.List.{prefix_len}
use Rattle.go_scanner.specs.Classes.{is_word_byte}
use Rattle.go_scanner.proofs.word.ascii_length.Given as goal

-- the letters and digits so far and those that follow are all
abbrev pub invariant-loop-i : goal.invariant-loop-i
invariant-loop-i l =
    l.i + prefix_len is_word_byte (drop l.i l.bytes) ≡ prefix_len is_word_byte l.bytes
