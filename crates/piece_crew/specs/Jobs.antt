-- Cited by public clauses. Jobs and their outputs. The project's own.
use Rattle.std.specs.Prelude.{◌≡◌, ℕ, List, slice_get, Some}

-- The output at each place, counted from 0, is one that the job with that number gives.
abbrev pub AreInOrder : {O : Type 0} → (ℕ → O → Type 0) → List O → Type 0
AreInOrder {O} gives outputs = (number : ℕ) (output : O)
    → slice_get outputs number ≡ Some output → gives number output

-- No job gives two different outputs.
abbrev pub GivesOne : {O : Type 0} → (ℕ → O → Type 0) → Type 0
GivesOne {O} gives = (number : ℕ) (one other : O)
    → gives number one → gives number other → one ≡ other
