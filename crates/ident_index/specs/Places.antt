-- Cited by private clauses and proofs. How far a pass over the tokens has come in the lines of a
-- source and the names that it declares. The project's own.
use Rattle.std.specs.Prelude.{ℕ, ◌<◌, ◌≤◌, List, length, slice_index, slice_index_or}
use Rattle.ident_index.specs.Naming.{Name}

-- so many lines begin at or before the offset
pub record AreLinesTo (starts : List ℕ) (offset count : ℕ) : Type 0 where
  pub within : count ≤ length starts
  pub before : (i : ℕ) → i < count → slice_index starts i ≤ offset

-- so many names stand before the offset
pub record AreNamesBefore (names : List Name) (offset count : ℕ) : Type 0 where
  pub within : count ≤ length names
  pub before : (i : ℕ) (d : Name) → i < count → (slice_index_or names i d).0 < offset
