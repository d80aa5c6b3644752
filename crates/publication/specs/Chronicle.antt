-- Cited by private clauses and proofs. The log that carries a history, and the rule under which it
-- grows. An entry of the log is an edition, or, as None, the closing entry.
use Rattle.std.specs.Prelude.{◌≡◌, ℕ, suc, ◌<◌, ◌≤◌, ◌==◌, true, false, List, [], ◌∷◌, ◌++◌, length, MatchBool, Option, Some, None}
use Rattle.logbook.specs.Pages.{Cell, cell, Nib, nib, may_write, may_make, Step, View, Book, Named}

-- the editions of a log
abbrev pub editions_of : {E : Type 0} → List (Option E) → List E
editions_of [] = []
editions_of (Some edition ∷ log) = edition ∷ editions_of log
editions_of (None ∷ log) = editions_of log

-- there is no closing entry
abbrev pub IsOpen : {E : Type 0} → List (Option E) → Type 0
IsOpen [] = Unit {0}
IsOpen (Some edition ∷ log) = IsOpen log
IsOpen (None ∷ log) = ⊥

-- nothing follows the closing entry
abbrev pub IsSettled : {E : Type 0} → List (Option E) → Type 0
IsSettled [] = Unit {0}
IsSettled (Some edition ∷ log) = IsSettled log
IsSettled (None ∷ log) = log ≡ []

-- The book has a word with the number of its places, and then the places. The first is never used.
-- Each entry takes the next place that is away, which only the holder of its pen can do: it brings
-- that place home.
pub record IsKept {E : Type 0} (cells : List Cell) (log : List (Option E)) : Type 0 where
  pub places : List Cell
  pub all : cells ≡ (length places, true) ∷ places
  pub home : (place : ℕ) → place ≤ length log → (cell places place).1 ≡ true
  pub away : (place : ℕ) → length log < place → (cell places place).1 ≡ false
  pub settled : IsSettled log

-- the word with the number of places
abbrev pub counter_of : Book → Named
counter_of book = record { tracked = true; key = 0; book = book }

-- the pen of the place that the next entry takes, after so many entries
abbrev pub place_after : ℕ → Nib
place_after entries = nib may_write (suc (suc entries)) 0

-- one more place was made, and the pen is for it; or others were
abbrev pub MakesPlace : {E : Type 0} → Step (Option E) → View (Option E) ℕ → ℕ → View (Option E) ℕ
    → Type 0
MakesPlace step before found after =
    MatchBool (found == step.old) (after.1.0 ≡ nib may_make (suc step.old) 0) (Unit {0})

-- the entry was added to all that had been seen
abbrev pub AddsEntry : {E : Type 0} → Step (Option E) → View (Option E) ℕ → ℕ → View (Option E) ℕ
    → Type 0
AddsEntry step before found after = after.0 ≡ before.0 ++ step.ask ∷ []
