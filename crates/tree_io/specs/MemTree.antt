-- Cited by public clauses. What contracts see of a `MemTree`, and how its calls change it. This is
-- the project's own.
use Rattle.std.specs.Prelude.{◌≡◌, ℕ, ◌-◌, List, [], ◌∷◌, ◌++◌, length, min, slice_index_or}
use Rattle.plain_data.specs.Counts.{Numbered, called, one_more}
use Rattle.tree_io.specs.Path.{Belongs, HasSourcePaths}
use Rattle.tree_io.specs.Sources.{Contents, bytes_at}

-- a tree in memory: the contents of its versions, those of the scans opened so far, its calls over
-- the three methods of a tree, and the two counts of faults
pub record State : Type 0 where
  pub versions : List Contents
  pub scans : List Contents
  pub calls : Numbered
  pub list_faults : ℕ
  pub read_faults : ℕ

-- the contents that are told of a version: of the paths that belong, each once, with its first
-- bytes
pub record IsTold (version : List (List ℕ × List ℕ)) (contents : Contents) : Type 0 where
  pub paths : HasSourcePaths contents
  pub first : (path : List ℕ) → Belongs path → bytes_at contents path ≡ bytes_at version path

-- the version with this number, counted from 0; the last one past the end, and empty contents where
-- there is none
abbrev pub version_at : List Contents → ℕ → Contents
version_at versions n = slice_index_or versions (min n (length versions - 1)) []

-- the tree after a call that changes nothing else
abbrev pub after_call : State → State
after_call tree = record tree { calls = called tree.calls }

-- the tree after a scan was opened
abbrev pub opened : State → State
opened tree = record tree {
  calls = called tree.calls;
  scans = tree.scans ++ version_at tree.versions (length tree.scans) ∷ [];
}

-- the tree after a call of `open_scan` or `list` that failed, and after one of `read`
abbrev pub list_failed : State → State
list_failed tree = record tree {
  calls = called tree.calls;
  list_faults = one_more tree.list_faults;
}

abbrev pub read_failed : State → State
read_failed tree = record tree {
  calls = called tree.calls;
  read_faults = one_more tree.read_faults;
}
