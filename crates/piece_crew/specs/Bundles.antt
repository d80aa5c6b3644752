-- Cited by private clauses and proofs. What workers bring back, and how it is put in order.
use Rattle.std.specs.Prelude.{◌≡◌, ℕ, ◌<◌, List, Option, Some, map, length, All, slice_set}
use Rattle.std.specs.List.{fold}
use Rattle.piece_crew.specs.Claims.{HasEnded, Word}
use Rattle.piece_crew.specs.declared.order.Bundle.{Bundle}
use Rattle.piece_crew.specs.declared.order.Piece.{Piece}

-- A worker had its None at a seat of the word, and has an output of each job that it claimed.
pub record IsWorkedOff {O : Type 0} (gives : ℕ → O → Type 0) (word : Word) (bundle : Bundle O) :
    Type 0 where
  pub at_word : bundle.seat.word ≡ word
  pub ended : HasEnded bundle.seat
  pub numbers : bundle.seat.claimed ≡ map (λ piece. piece.number) bundle.pieces.items
  pub within : All (λ piece. piece.number < word.total) bundle.pieces.items
  pub given : All (λ piece. gives piece.number piece.output) bundle.pieces.items

-- The workers had all the seats at one word, for so many jobs.
pub record AreWorkedOff {O : Type 0} (gives : ℕ → O → Type 0) (count : ℕ)
    (bundles : List (Bundle O)) : Type 0 where
  pub word : Word
  pub total : word.total ≡ count
  pub some : 0 < word.seats
  pub all : length bundles ≡ word.seats
  pub each : All (IsWorkedOff gives word) bundles

-- the places after an output was put in the one with its job's number
abbrev pub placed : {O : Type 0} → List (Option O) → Piece O → List (Option O)
placed places piece = slice_set places piece.number (Some piece.output)

-- the places after all outputs of a worker were
abbrev pub place_all : {O : Type 0} → List (Option O) → Bundle O → List (Option O)
place_all places bundle = fold placed places bundle.pieces.items
