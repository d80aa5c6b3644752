-- Cited by public clauses. Where a byte offset stands in a source, as an editor counts: lines from
-- 1, and columns in bytes from 1.
use Rattle.std.specs.Prelude.{ℕ, ◌+◌, List, [], ◌∷◌, take, if◌then◌else◌, ◌==◌, count_by}
use Rattle.go_ast.specs.Characters.{newline}

-- the line of an offset: one more than the newlines before it
abbrev pub line_of : List ℕ → ℕ → ℕ
line_of bytes offset = 1 + count_by (λ b. b == newline) (take offset bytes)

-- the column after some bytes: a newline goes back to the first, and each other byte one on
abbrev pub column_after : ℕ → List ℕ → ℕ
column_after column [] = column
column_after column (b ∷ bytes) = column_after (if b == newline then 1 else column + 1) bytes

-- the column of an offset
abbrev pub column_of : List ℕ → ℕ → ℕ
column_of bytes offset = column_after 1 (take offset bytes)

-- the offsets after the newlines of bytes that begin at this offset
abbrev pub offsets_after_newlines : ℕ → List ℕ → List ℕ
offsets_after_newlines offset [] = []
offsets_after_newlines offset (b ∷ bytes) =
    if b == newline then (offset + 1) ∷ offsets_after_newlines (offset + 1) bytes
    else offsets_after_newlines (offset + 1) bytes

-- the offsets where the lines of a source begin
abbrev pub line_starts : List ℕ → List ℕ
line_starts bytes = 0 ∷ offsets_after_newlines 0 bytes
