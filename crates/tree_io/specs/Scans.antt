-- Cited by public clauses. The scans that a tree tells, each as the contents that it found. This is
-- the project's own.
use Rattle.std.specs.Prelude.{◌≡◌, ℕ, ◌-◌, List, [], ◌∷◌, ◌++◌, length, Option, Some, None, IfSome}
use Rattle.std.specs.Prelude.{IsSome, slice_index_or}
use Rattle.std.specs.Option.{ForSome}
use Rattle.tree_io.specs.Path.{HasSourcePaths, paths_of}
use Rattle.tree_io.specs.Sources.{Contents, bytes_at, entry_of}
use Rattle.tree_io.specs.declared.tree.Entry.{Entry}

-- the contents of the scan under way: those of the last one, and none before the first
abbrev pub under_way : List Contents → Contents
under_way scans = slice_index_or scans (length scans - 1) []

-- where scans are told there is one more, a set of files whose paths belong; else there are still
-- none
abbrev pub OpensScan : Option (List Contents) → Option (List Contents) → Type 0
OpensScan None None = Unit {0}
OpensScan None (Some now) = ⊥
OpensScan (Some before) None = ⊥
OpensScan (Some before) (Some now) =
    (contents : Contents) × HasSourcePaths contents × (now ≡ before ++ contents ∷ [])

-- where scans are told, these are the paths of the one under way
abbrev pub IsListed : Option (List Contents) → List (List ℕ) → Type 0
IsListed scans paths = IfSome scans (λ told. paths ≡ paths_of (under_way told))

-- where scans are told, the one under way has the path
abbrev pub IsKnown : Option (List Contents) → List ℕ → Type 0
IsKnown scans path = ForSome scans (λ told. IsSome (bytes_at (under_way told) path))

-- where scans are told, this is the entry of the bytes that the one under way has at the path
abbrev pub IsReadAs : Option (List Contents) → List ℕ → Entry → Type 0
IsReadAs scans path entry = IfSome scans
    (λ told. IfSome (bytes_at (under_way told) path) (λ bytes. entry ≡ entry_of bytes))
