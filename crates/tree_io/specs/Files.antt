-- Cited by private clauses and proofs. The maps in which a `MemTree` keeps its versions, seen as
-- contents.
use Rattle.std.specs.Prelude.{ℕ, ◌≤◌, List, All, map, string_bytes}
use Rattle.std.specs.List.{range_with_len}
use Rattle.std.specs.BTreeMap.{BTreeMap}
use Rattle.std.specs.declared.string.String.{String}
use Rattle.tree_io.specs.Path.{HasSourcePaths}
use Rattle.tree_io.specs.Sources.{Contents}
use Rattle.tree_io.specs.MemTree.{version_at}
use Rattle.tree_io.specs.Scans.{under_way}

-- the contents of a map from paths to bytes
abbrev pub files_of : {A : Type 0} → BTreeMap (String A) (List ℕ) → Contents
files_of files = map (λ file. (string_bytes file.0, file.1)) files.entries

-- the contents of the first n scans
abbrev pub scans_of : List Contents → ℕ → List Contents
scans_of versions n = map (version_at versions) (range_with_len 0 n)

-- the files of the last of the first n scans
abbrev pub files_under_way : {A : Type 0} → List (BTreeMap (String A) (List ℕ)) → ℕ → Contents
files_under_way versions n = under_way (scans_of (map files_of versions) n)

-- what a `MemTree` keeps of its versions and its counts
pub record IsKept (versions : List Contents) (opened calls : ℕ) : Type 0 where
  pub versions_belong : All HasSourcePaths versions
  pub opened_by_calls : opened ≤ calls
