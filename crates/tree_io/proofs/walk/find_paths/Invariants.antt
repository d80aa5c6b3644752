use Rattle.tree_io.specs.Walks.{IsWalk, most_ahead}
use Rattle.tree_io.proofs.walk.find_paths.Given as goal

abbrev pub invariant-loop-folder : goal.invariant-loop-folder
invariant-loop-folder g l = IsWalk l.walk

abbrev pub decreases-loop-folder : goal.decreases-loop-folder
decreases-loop-folder g l = most_ahead l.walk
