-- Cited by public clauses. How counts go up, and which calls of an object in memory fail. The
-- project's own.
use Rattle.std.specs.Prelude.{◌≡◌, ℕ, ◌+◌, ◌-◌, ◌^◌, List, ◌⊎◌, Contains, min}

-- one more, up to the end of a 64-bit count, where it stands still
abbrev pub one_more : ℕ → ℕ
one_more count = min (count + 1) (2 ^ 64 - 1)

-- calls that are numbered from 1: how many there were, and the numbers of those that fail
pub record Numbered : Type 0 where
  pub made : ℕ
  pub failing : List ℕ

-- the calls after one more
abbrev pub called : Numbered → Numbered
called calls = record calls { made = one_more calls.made }

-- the next call fails: its number is one of those that fail, or the last number that there is
abbrev pub NextFails : Numbered → Type 0
NextFails calls = let number = one_more calls.made in
    Contains calls.failing number ⊎ (number ≡ 2 ^ 64 - 1)
