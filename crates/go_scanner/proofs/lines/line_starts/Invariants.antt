use Rattle.std.proofs.Common.{◌-◌, length}
use Rattle.go_scanner.proofs.Newlines.{Grows}
use Rattle.go_scanner.proofs.lines.line_starts.Given as goal

-- the lines so far and those that begin after the offset are all
abbrev pub invariant-loop-line : goal.invariant-loop-line
invariant-loop-line l = Grows l.source l.lines.items l.at

abbrev pub decreases-loop-line : goal.decreases-loop-line
decreases-loop-line l = length l.source - l.at
