use Rattle.std.proofs.Common.{◌≡◌, take}
use Rattle.tree_io.specs.Entries.{IsReadSoFar}
use Rattle.tests_data.proofs.trees.scan.Given as goal

abbrev pub invariant-loop-path : goal.invariant-loop-path
invariant-loop-path g l = record {
  same_scans : g.T.Tree.scans l.tree ≡ g.T.Tree.scans l.initial.tree;
  so_far : IsReadSoFar (g.T.Tree.scans l.initial.tree) (take l.path-index l.path-items) l.sources
      (g.T.Tree.read_faults l.initial.tree) (g.T.Tree.read_faults l.tree);
}
