-- Cited by public clauses. The contents of a tree, the sources that a scan of them gives, and what
-- a read gives of bytes. All this is the project's own.
use Rattle.std.specs.Prelude.{◌≡◌, ℕ, ◌≤◌, Bool, true, false, List, length, Option, IsSomeAnd, ◌⊎◌}
use Rattle.std.specs.Prelude.{count_by, if◌then◌else◌, nat_lt}
use Rattle.std.specs.Map.{lookup}
use Rattle.std.specs.Str.{bytes_eq}
use Rattle.tree_io.specs.Path.{HasSourcePaths}
use Rattle.tree_io.specs.declared.tree.Entry.{Entry}
use Rattle.tree_io.specs.declared.tree.Entry.TheVariants.{Bytes, Large, Unread}

-- the most bytes that are kept of a file
abbrev pub file_limit : ℕ
file_limit = 4194304

-- paths, each with the bytes of its file
abbrev pub Contents : Type 0
Contents = List (List ℕ × List ℕ)

-- paths, each with what a scan has of its file
abbrev pub Sources : Type 0
Sources = List (List ℕ × Entry)

-- a set of sources: its paths belong, and rise strictly by bytes
abbrev pub IsSources : Sources → Type 0
IsSources sources = HasSourcePaths sources

-- the bytes at the first place of a path
abbrev pub bytes_at : Contents → List ℕ → Option (List ℕ)
bytes_at contents path = lookup (bytes_eq path) contents

-- what a read of these bytes gives
abbrev pub entry_of : List ℕ → Entry
entry_of bytes = if nat_lt file_limit (length bytes) then Large else Bytes bytes

-- an entry that a read can give
abbrev pub IsReadable : Entry → Type 0
IsReadable (Bytes bytes) = length bytes ≤ file_limit
IsReadable Large = Unit {0}
IsReadable Unread = ⊥

abbrev pub is_unread : Entry → Bool
is_unread Unread = true
is_unread entry = false

-- how many entries are `Unread`
abbrev pub unread_count : Sources → ℕ
unread_count sources = count_by (λ source. is_unread source.1) sources

-- a path with its entry, after a scan of the contents: `Unread`, or what the contents have there
abbrev pub IsFrom : Contents → List ℕ × Entry → Type 0
IsFrom contents source =
    (source.1 ≡ Unread)
    ⊎ IsSomeAnd (bytes_at contents source.0) (λ bytes. source.1 ≡ entry_of bytes)
