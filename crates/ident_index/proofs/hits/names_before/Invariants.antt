use Rattle.std.proofs.Common.{◌-◌, length}
use Rattle.ident_index.specs.Places.{AreNamesBefore}
use Rattle.ident_index.proofs.hits.names_before.Given as goal

abbrev pub invariant-loop-count : goal.invariant-loop-count
invariant-loop-count l = AreNamesBefore l.names l.offset l.count

abbrev pub decreases-loop-count : goal.decreases-loop-count
decreases-loop-count l = length l.initial.names - l.count
