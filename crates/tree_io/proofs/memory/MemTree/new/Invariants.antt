use Rattle.std.proofs.Common.{◌≡◌, ◌++◌, map}
use Rattle.std.specs.List.{AllZip}
use Rattle.std.specs.Vec.Iter.{into_iter_items}
use Rattle.tree_io.specs.MemTree.{IsTold}
use Rattle.tree_io.specs.Files.{files_of}
use Rattle.tree_io.proofs.memory.MemTree.new.Given as goal

abbrev pub invariant-loop-version : goal.invariant-loop-version
invariant-loop-version l =
    (l.yielded ++ into_iter_items l.version-iterator ≡ l.fn.versions)
    × AllZip IsTold l.yielded (map files_of l.told.items)
