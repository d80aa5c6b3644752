use Rattle.tree_io.specs.Walks.{IsWalk}
use Rattle.tests_data.proofs.trees.entries_met.Given as goal

abbrev pub invariant-loop-met : goal.invariant-loop-met
invariant-loop-met l = IsWalk l.walk
