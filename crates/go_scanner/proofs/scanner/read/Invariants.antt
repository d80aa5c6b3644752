use Rattle.std.proofs.Common.{◌-◌, length}
use Rattle.go_scanner.proofs.Progress.{Reached}
use Rattle.go_scanner.proofs.scanner.read.Given as goal

-- what was found so far continues to all that there is
abbrev pub invariant-loop-at : goal.invariant-loop-at
invariant-loop-at l = Reached l.text l.at l.pending l.tokens.items l.comments.items

abbrev pub decreases-loop-at : goal.decreases-loop-at
decreases-loop-at l = length l.source - l.at
