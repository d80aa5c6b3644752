use Rattle.std.proofs.Common.{◌-◌, length}
use Rattle.go_scanner.proofs.Words.{WordFrom}
use Rattle.go_scanner.proofs.word.length_past_ascii.Given as goal

-- the name so far and what is left of it are the name
abbrev pub invariant-loop-end : goal.invariant-loop-end
invariant-loop-end l = WordFrom l.text l.end

abbrev pub decreases-loop-end : goal.decreases-loop-end
decreases-loop-end l = length l.text - l.end
