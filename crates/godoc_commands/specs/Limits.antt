-- Cited by public clauses. Which trees are too large. The project's own.
use Rattle.std.specs.Prelude.{◌≡◌, ℕ, ◌<◌, ◌≤◌, ◌⊎◌, List, [], ◌∷◌, ◌++◌, length, All, Option}
use Rattle.corpus.specs.Snapshots.{bytes_of, files_limit, scan_bytes_limit}
use Rattle.tree_io.specs.declared.tree.Entry.{Entry}
use Rattle.tree_io.specs.Entries.{IsReadSoFar}
use Rattle.tree_io.specs.Path.{Belongs, IsRising, paths_of}
use Rattle.tree_io.specs.Scans.{IsListed}
use Rattle.tree_io.specs.Sources.{Contents, Sources}

-- the paths of the scan under way
pub record AreListed (scans : Option (List Contents)) (paths : List (List ℕ)) : Type 0 where
  pub belong : All Belongs paths
  pub rising : IsRising paths
  pub listed : IsListed scans paths

-- the scan under way has so many files, which are too many; no read failed while the count of read
-- faults went from before to now
pub record HasTooManyFiles (scans : Option (List Contents)) (before now files : ℕ) : Type 0 where
  pub paths : List (List ℕ)
  pub listed : AreListed scans paths
  pub files_is : files ≡ length paths
  pub passed : files_limit < files
  pub no_read_failed : now ≡ before

-- the first of these paths have sources of so many bytes, which are too many with the last of them
-- and not before; they were read while the count of read faults went from before to now
pub record PassBytes (scans : Option (List Contents)) (paths : List (List ℕ))
    (before now bytes : ℕ) : Type 0 where
  pub first : Sources
  pub last : List ℕ × Entry
  pub rest : List (List ℕ)
  pub all : paths_of (first ++ last ∷ []) ++ rest ≡ paths
  pub read : IsReadSoFar scans (paths_of (first ++ last ∷ [])) (first ++ last ∷ []) before now
  pub within : bytes_of first ≤ scan_bytes_limit
  pub bytes_is : bytes ≡ bytes_of (first ++ last ∷ [])
  pub passed : scan_bytes_limit < bytes

-- the files of the scan under way aren't too many, but the first of them have so many bytes, which
-- are too many
pub record HasTooManyBytes (scans : Option (List Contents)) (before now bytes : ℕ) : Type 0 where
  pub paths : List (List ℕ)
  pub listed : AreListed scans paths
  pub few : length paths ≤ files_limit
  pub first : PassBytes scans paths before now bytes

-- the scan under way is too large, by so many files or by so many bytes; the other number is 0
abbrev pub IsTooLarge : Option (List Contents) → ℕ → ℕ → ℕ → ℕ → Type 0
IsTooLarge scans before now files bytes =
    (HasTooManyFiles scans before now files × (bytes ≡ 0))
    ⊎ ((files ≡ 0) × HasTooManyBytes scans before now bytes)
