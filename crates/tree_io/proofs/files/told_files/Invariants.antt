use Rattle.std.proofs.Common.{◌≡◌, ℕ, ◌++◌, List, length}
use Rattle.tree_io.specs.Path.{Belongs, HasSourcePaths}
use Rattle.tree_io.specs.Sources.{bytes_at}
use Rattle.tree_io.specs.Files.{files_of}
use Rattle.tree_io.proofs.files.told_files.Given as goal

abbrev pub invariant-loop-path : goal.invariant-loop-path
invariant-loop-path l =
    HasSourcePaths (files_of l.files) ×
    ((done : List (List ℕ × List ℕ)) × (l.initial.version ≡ l.version ++ done)
    × ((path : List ℕ) → Belongs path → bytes_at (files_of l.files) path ≡ bytes_at done path))

abbrev pub decreases-loop-path : goal.decreases-loop-path
decreases-loop-path l = length l.version
