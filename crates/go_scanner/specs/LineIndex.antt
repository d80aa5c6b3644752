-- Cited by public clauses. A position in a source by the offsets where its lines begin.
use Rattle.std.specs.Prelude.{◌≡◌, ℕ, ◌+◌, ◌<◌, ◌≤◌, List, length, slice_index}

-- offsets where lines begin: the first line at 0, each one after those before it
pub record AreLineStarts (starts : List ℕ) : Type 0 where
  pub some : 0 < length starts
  pub first : slice_index starts 0 ≡ 0
  pub rising : (i j : ℕ) → i < j → j < length starts → slice_index starts i < slice_index starts j

-- the line with this index, counted from 0, has the offset
pub record IsLineIndex (starts : List ℕ) (offset index : ℕ) : Type 0 where
  pub within : index < length starts
  pub in_line : slice_index starts index ≤ offset
  pub before_next : index + 1 < length starts → offset < slice_index starts (index + 1)

-- the offset is in this line, and in this column of it, both counted from 1
pub record IsPosition (starts : List ℕ) (offset line column : ℕ) : Type 0 where
  pub index : ℕ
  pub in_line : IsLineIndex starts offset index
  pub line_is : line ≡ index + 1
  pub column_is : column + slice_index starts index ≡ offset + 1
