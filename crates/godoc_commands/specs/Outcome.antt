-- Cited by public clauses. What a run did to its tree and its output. The project's own.
use Rattle.std.specs.Prelude.{◌≡◌, ◌≢◌, ℕ, ◌≤◌, ◌⊎◌, List, ◌++◌, Option, ⊤}
use Rattle.corpus.specs.Snapshots.{IsWithinLimits, source_set}
use Rattle.go_ast.specs.declared.config.Config.{Config}
use Rattle.link_io.specs.Streams.{Adds}
use Rattle.plain_data.specs.Causes.{IsCaused}
use Rattle.tree_io.specs.Entries.{IsScannedFrom}
use Rattle.tree_io.specs.Scans.{OpensScan}
use Rattle.tree_io.specs.Sources.{Contents, Sources}
use Rattle.godoc_commands.specs.declared.status.Status.{Status}
use Rattle.godoc_commands.specs.declared.status.Status.TheVariants as statuses
use Rattle.godoc_commands.specs.Changes.{Change, IsUnchanged, OutputState, TreeState, after, before}
use Rattle.godoc_commands.specs.Find.{IsFindText}
use Rattle.godoc_commands.specs.Limits.{IsTooLarge}

-- at most one scan was opened
abbrev pub OpensAtMostOne : Option (List Contents) → Option (List Contents) → Type 0
OpensAtMostOne before now = (now ≡ before) ⊎ OpensScan before now

-- what a command's one scan came to
pub record ScansOnce {T : Type 0} (tree : Change T TreeState) (status : Status) : Type 0 where
  -- the command opens a scan, unless the tree can't be listed or `NoMemory` comes before
  pub opened : status ≢ statuses.TreeFault → status ≢ statuses.NoMemory
      → OpensScan (before tree).scans (after tree).scans
  -- the tree is too large by its files, or by the bytes of those that were read
  pub limit : (files bytes : ℕ) → status ≡ statuses.Limit files bytes
      → IsTooLarge (after tree).scans (before tree).read_faults (after tree).read_faults files bytes
  -- the tree can't be listed only where the count of list faults rose by one, or stands at its end,
  -- and otherwise this count is unchanged
  pub list_faults : IsCaused (before tree).list_faults (after tree).list_faults
      (status ≡ statuses.TreeFault)
  -- the count of read faults hasn't fallen
  pub later : (before tree).read_faults ≤ (after tree).read_faults
  -- where the tree can't be listed no read failed
  pub no_file_read : status ≡ statuses.TreeFault
      → (after tree).read_faults ≡ (before tree).read_faults

-- the text of `find`, by this configuration, over the sources of the scan under way, which are
-- within the limits
pub record FindsFrom {T : Type 0} (config : Config) (name : List ℕ) (tree : Change T TreeState)
    (text : List ℕ) : Type 0 where
  pub sources : Sources
  pub scanned : IsScannedFrom (after tree).scans sources (before tree).read_faults
      (after tree).read_faults
  pub within : IsWithinLimits sources
  pub all : IsFindText name (source_set config sources) text

-- the output gained exactly that text
pub record WritesFound {T O : Type 0} (config : Config) (name : List ℕ) (tree : Change T TreeState)
    (out : Change O OutputState) : Type 0 where
  pub text : List ℕ
  pub found : FindsFrom config name tree text
  pub written : Adds (before out).held text (after out).held

-- the output gained a prefix of that text
pub record WritesPrefix {T O : Type 0} (config : Config) (name : List ℕ) (tree : Change T TreeState)
    (out : Change O OutputState) : Type 0 where
  pub prefix : List ℕ
  pub rest : List ℕ
  pub found : FindsFrom config name tree (prefix ++ rest)
  pub written : Adds (before out).held prefix (after out).held

-- a status after which nothing was made of the tree: it could not be listed, or is too large
abbrev pub IsOfTree : Status → Type 0
IsOfTree statuses.TreeFault = ⊤
IsOfTree (statuses.Limit files bytes) = ⊤
IsOfTree status = ⊥

-- a status that `find` has
abbrev pub IsOfFind : Status → Type 0
IsOfFind statuses.Done = ⊤
IsOfFind statuses.TreeFault = ⊤
IsOfFind (statuses.Limit files bytes) = ⊤
IsOfFind statuses.WriteFault = ⊤
IsOfFind statuses.NoMemory = ⊤
IsOfFind status = ⊥

-- what `find` did for a name, by this configuration
pub record FindsPlan {T O : Type 0} (config : Config) (name : List ℕ) (tree : Change T TreeState)
    (out : Change O OutputState) (status : Status) : Type 0 where
  pub of_find : IsOfFind status
  pub scan : ScansOnce tree status
  pub found : status ≡ statuses.Done → WritesFound config name tree out
  pub prefix : status ≡ statuses.WriteFault → WritesPrefix config name tree out
  pub no_memory : status ≡ statuses.NoMemory
      → IsUnchanged out ⊎ WritesPrefix config name tree out
  -- a write failed only where the count of write faults rose by one, or stands at its end
  pub write_faults : IsCaused (before out).faults (after out).faults (status ≡ statuses.WriteFault)

-- an end without a fault: all was done, an allocation was refused, or the tree is too large
abbrev pub IsWithoutFault : Status → Type 0
IsWithoutFault statuses.Done = ⊤
IsWithoutFault (statuses.Limit files bytes) = ⊤
IsWithoutFault statuses.NoMemory = ⊤
IsWithoutFault status = ⊥
