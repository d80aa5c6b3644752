-- Cited by public clauses. What reading the files of a scan one after another gives. The project's
-- own.
use Rattle.std.specs.Prelude.{◌≡◌, ℕ, ◌≤◌, List, length, option_map, Option, All, IfSome, ⊤}
use Rattle.plain_data.specs.Causes.{RoseBy}
use Rattle.tree_io.specs.Path.{paths_of}
use Rattle.tree_io.specs.Sources.{Contents, Sources, IsFrom, IsSources, file_limit, unread_count}
use Rattle.tree_io.specs.Scans.{under_way}
use Rattle.tree_io.specs.declared.tree.Entry.{Entry}
use Rattle.tree_io.specs.declared.tree.Entry.TheVariants.{Bytes}

-- the sources that reads of these paths have given, while the count of read faults went from before
-- to now
pub record IsReadSoFar (scans : Option (List Contents)) (paths : List (List ℕ)) (sources : Sources)
    (before now : ℕ) : Type 0 where
  pub same_paths : paths_of sources ≡ paths
  pub entries : IfSome scans (λ told. All (IsFrom (under_way told)) sources)
  pub failed_reads : RoseBy (unread_count sources) before now

-- a set of sources that a scan of these contents gave, where the tree exposes them: it has their
-- paths, and at each path what they have there or `Unread`; so many entries are `Unread`
pub record IsScanOf (contents : Option Contents) (sources : Sources) (unread : ℕ) : Type 0 where
  pub valid : IsSources sources
  pub paths : IfSome contents (λ found. paths_of sources ≡ paths_of found)
  pub entries : IfSome contents (λ found. All (IsFrom found) sources)
  pub unread_is : unread ≡ unread_count sources

-- sources of the last of these scans, of which as many are `Unread` as the count of failed reads
-- rose by, up to its end
pub record IsScannedFrom (scans : Option (List Contents)) (sources : Sources)
    (before now : ℕ) : Type 0 where
  pub contents : Option Contents
  pub rise : ℕ
  pub scan : IsScanOf contents sources rise
  pub last : contents ≡ option_map under_way scans
  pub rose : RoseBy rise before now

-- an entry that has at most `file_limit` bytes
abbrev pub IsSmall : Entry → Type 0
IsSmall (Bytes bytes) = length bytes ≤ file_limit
IsSmall entry = ⊤
