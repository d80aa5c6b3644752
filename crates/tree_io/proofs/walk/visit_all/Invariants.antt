use Rattle.tree_io.specs.Walks.{Continues}
use Rattle.tree_io.proofs.walk.visit_all.Given as goal

abbrev pub invariant-loop-entry : goal.invariant-loop-entry
invariant-loop-entry g l =
    (goal.iterator-loop-entry g).can_next l.entry-iterator ×
    (goal.iterator-loop-entry g).is_finite l.entry-iterator ×
    Continues l.initial.walk l.walk
