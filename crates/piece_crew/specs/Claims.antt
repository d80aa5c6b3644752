-- Cited by public clauses. Seats at a claim word and the numbers that they claim. The project's
-- own.
use Rattle.std.specs.Prelude.{◌≡◌, ℕ, ◌+◌, ◌<◌, ◌≤◌, List, [], ◌∷◌, ◌++◌, length, All, if◌then◌else◌, ◌==◌, nat_lt}
use Rattle.atomic_table.specs.Seated.{TableId}

-- A claim word: which one it is, how many numbers there are to claim, and how many seats were made.
pub record Word : Type 0 where
  pub id : TableId
  pub total : ℕ
  pub seats : ℕ

-- A seat, by the numbers that its own steps found on its word, in their order. A step adds one to
-- the word and finds what the word was.
pub record Seat : Type 0 where
  pub word : Word
  -- those below the total: its claims
  pub claimed : List ℕ
  -- those at the total or past it, one for each None
  pub past : List ℕ

-- a seat that has made no step
abbrev pub fresh : Word → Seat
fresh word = record { word = word; claimed = []; past = [] }

-- the seat after it claimed a number
abbrev pub with_claim : Seat → ℕ → Seat
with_claim seat number = record {
  word = seat.word;
  claimed = seat.claimed ++ number ∷ [];
  past = seat.past;
}

-- the one step that was made found the word at the total or past it
abbrev pub FoundPast : Seat → Seat → Type 0
FoundPast old new =
    (found : ℕ) × (old.word.total ≤ found)
    × (new ≡ record { word = old.word; claimed = old.claimed; past = old.past ++ found ∷ [] })

-- the seat has had no None
abbrev pub IsOpen : Seat → Type 0
IsOpen seat = seat.past ≡ []

-- the seat has had its None
abbrev pub HasEnded : Seat → Type 0
HasEnded seat = 0 < length seat.past

-- so many new seats, for so many numbers, which are all the seats at one word
pub record AreMade (total count : ℕ) (seats : List Seat) : Type 0 where
  pub word : Word
  pub numbers : word.total ≡ total
  pub made : word.seats ≡ count
  pub all : length seats ≡ count
  pub each : All (λ seat. seat ≡ fresh word) seats

-- all the seats that were made at one word
pub record AreAllSeats (seats : List Seat) : Type 0 where
  pub word : Word
  pub some : 0 < word.seats
  pub all : length seats ≡ word.seats
  pub each : All (λ seat. seat.word ≡ word) seats

-- what the seats claimed, one seat after another
abbrev pub claims_of : List Seat → List ℕ
claims_of [] = []
claims_of (seat ∷ seats) = seat.claimed ++ claims_of seats

-- how often a number stands in a list
abbrev pub times : ℕ → List ℕ → ℕ
times number [] = 0
times number (other ∷ others) = (if other == number then 1 else 0) + times number others

-- 1 where the number is below the end, and else 0
abbrev pub once_below : ℕ → ℕ → ℕ
once_below number end = if nat_lt number end then 1 else 0

-- each number below the end stands in the list once, and no other number does
abbrev pub IsEachBelow : ℕ → List ℕ → Type 0
IsEachBelow end numbers = (number : ℕ) → times number numbers ≡ once_below number end
