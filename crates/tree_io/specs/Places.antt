-- Cited by public clauses. Where a path below the root stands. The project's own.
use Rattle.std.specs.Prelude.{ℕ, List, [], ◌∷◌, ◌++◌}
use Rattle.tree_io.specs.Path.{slash}

-- the path of an entry of a folder; the root has the empty path
abbrev pub joined : List ℕ → List ℕ → List ℕ
joined [] name = name
joined (b ∷ folder) name = (b ∷ folder) ++ slash ∷ name

-- the path of what stands at a path below a root; the empty path is that of the root itself
abbrev pub full : List ℕ → List ℕ → List ℕ
full root [] = root
full root (b ∷ path) = root ++ slash ∷ b ∷ path
