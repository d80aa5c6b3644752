-- Cited by public clauses. How far a walk through a folder may have come, and what it
-- does at an entry. The project's own.
use Rattle.std.specs.Prelude.{◌≡◌, ℕ, ◌+◌, ◌-◌, ◌≤◌, ◌⊎◌, List, [], ◌∷◌, ◌++◌, map, All}
use Rattle.std.specs.Prelude.{string_bytes, vec_len}
use Rattle.std.specs.Fs.{IsDir}
use Rattle.std.specs.declared.fs.attrs.FileType.{FileType}
use Rattle.tree_io.specs.Path.{Belongs}
use Rattle.tree_io.specs.declared.walk.Walk.{Walk}

-- the most entries that a walk meets
abbrev pub entry_limit : ℕ
entry_limit = 4000000

-- the folders that are still to be walked, and the paths found so far
abbrev pub folders_in : Walk → List (List ℕ)
folders_in walk = map string_bytes walk.folders.items

abbrev pub paths_in : Walk → List (List ℕ)
paths_in walk = map string_bytes walk.paths.items

-- the paths found so far belong
abbrev pub FindsSources : Walk → Type 0
FindsSources walk = All (λ path. Belongs (string_bytes path)) walk.paths.items

-- a walk has met no more entries than one may, and the paths that it found belong
pub record IsWalk (walk : Walk) : Type 0 where
  pub met : walk.met ≤ entry_limit
  pub belong : FindsSources walk

-- the most folders that a walk may still read: those it has found, and one for each entry that it
-- may still meet
abbrev pub most_ahead : Walk → ℕ
most_ahead walk = vec_len walk.folders + (entry_limit - walk.met)

-- a walk continued, and has no more ahead than it had
pub record Continues (old new : Walk) : Type 0 where
  pub walk : IsWalk new
  pub nearer : most_ahead new ≤ most_ahead old

-- a walk gained this folder, this path, or nothing, and no more than that
pub record GainsFolder (path : List ℕ) (old new : Walk) : Type 0 where
  pub folders : folders_in new ≡ folders_in old ++ path ∷ []
  pub paths : paths_in new ≡ paths_in old

pub record GainsPath (path : List ℕ) (old new : Walk) : Type 0 where
  pub folders : folders_in new ≡ folders_in old
  pub paths : paths_in new ≡ paths_in old ++ path ∷ []

pub record GainsNothing (old new : Walk) : Type 0 where
  pub folders : folders_in new ≡ folders_in old
  pub paths : paths_in new ≡ paths_in old

-- what a walk gained at an entry with this path that isn't a folder: the path if it belongs, and
-- otherwise nothing
abbrev pub MeetsFile : List ℕ → Walk → Walk → Type 0
MeetsFile path old new =
    (Belongs path × GainsPath path old new) ⊎ ((¬ Belongs path) × GainsNothing old new)

-- what a walk gained at an entry with this path, whatever its kind is
abbrev pub MeetsEither : List ℕ → Walk → Walk → Type 0
MeetsEither path old new = GainsFolder path old new ⊎ MeetsFile path old new

-- what a walk gained at an entry with this path and of this kind
pub record Meets (path : List ℕ) (kind : FileType) (old new : Walk) : Type 0 where
  pub folder : IsDir kind → GainsFolder path old new
  pub file : ¬ IsDir kind → Belongs path → GainsPath path old new
  pub other : ¬ IsDir kind → ¬ Belongs path → GainsNothing old new
