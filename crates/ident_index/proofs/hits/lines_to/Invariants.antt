use Rattle.std.proofs.Common.{◌-◌, length}
use Rattle.ident_index.specs.Places.{AreLinesTo}
use Rattle.ident_index.proofs.hits.lines_to.Given as goal

abbrev pub invariant-loop-count : goal.invariant-loop-count
invariant-loop-count l = AreLinesTo l.starts l.offset l.count

abbrev pub decreases-loop-count : goal.decreases-loop-count
decreases-loop-count l = length l.initial.starts - l.count
