use Rattle.std.proofs.Common.{◌≡◌, ◌≤◌, ◌++◌}
use Rattle.std.specs.Vec.Iter.{into_iter_items}
use Rattle.corpus.specs.Snapshots.{bytes_of, scan_bytes_limit}
use Rattle.tree_io.specs.Entries.{IsReadSoFar}
use Rattle.godoc_commands.proofs.scan.read_files.Given as goal

-- the files so far are read, and their bytes aren't too many
abbrev pub invariant-loop-path : goal.invariant-loop-path
invariant-loop-path g l = record {
  all : l.yielded ++ into_iter_items l.path-iterator ≡ l.fn.paths;
  read : IsReadSoFar (g.T.Tree.scans l.fn.tree) l.yielded l.sources
      (g.T.Tree.read_faults l.fn.tree) (g.T.Tree.read_faults l.tree);
  bytes_are : l.bytes ≡ bytes_of l.sources;
  within : l.bytes ≤ scan_bytes_limit;
  later : g.T.Tree.read_faults l.fn.tree ≤ g.T.Tree.read_faults l.tree;
  same_scans : g.T.Tree.scans l.tree ≡ g.T.Tree.scans l.fn.tree;
  same_list_faults : g.T.Tree.list_faults l.tree ≡ g.T.Tree.list_faults l.fn.tree;
}
