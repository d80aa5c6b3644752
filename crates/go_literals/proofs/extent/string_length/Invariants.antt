use Rattle.std.proofs.Common.{◌-◌, length}
use Rattle.go_literals.proofs.StringScan.{TextFrom}
use Rattle.go_literals.proofs.extent.string_length.Given as goal

-- the text so far and what is left of it are the text
abbrev pub invariant-loop-plain : goal.invariant-loop-plain
invariant-loop-plain l = TextFrom l.bytes l.at

abbrev pub decreases-loop-plain : goal.decreases-loop-plain
decreases-loop-plain l = length l.bytes - l.at
