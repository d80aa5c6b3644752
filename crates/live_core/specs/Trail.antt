-- Cited by public clauses. The trail of a reader's entries: a run of the core in which each edition
-- is made whole before it is published. The project's own.
use Rattle.std.specs.Prelude.{ℕ, zero, suc, ◌-◌, ◌≤◌, List, [], ◌∷◌, ◌++◌, length, map, max, slice_index, All}
use Rattle.std.specs.List.{flat_map}
use Rattle.std.specs.List.Sorted.{IsNonDecreasing}
use Rattle.live_core.specs.declared.event.Event.{Event}
use Rattle.live_core.specs.declared.event.Event.TheVariants.{Scan, Piece, Publish, Enter}
use Rattle.live_core.specs.declared.event.Answer.{Answer}
use Rattle.live_core.specs.declared.event.Answer.TheVariants.{Served}

-- so many numbers, rising by one from the first
abbrev pub numbers_from : ℕ → ℕ → List ℕ
numbers_from first zero = []
numbers_from first (suc count) = first ∷ numbers_from (suc first) count

-- an edition is made: its scan, its pieces in rising order, its publication. Its number stands for
-- its sources.
abbrev pub edition_events : ℕ → ℕ → List Event
edition_events number pieces =
    Scan number pieces ∷ map (λ index. Piece 0 index) (numbers_from 0 pieces) ++ Publish ∷ []

-- the editions after so many up to and with a last, by the numbers of their pieces: that of edition
-- 1 comes first
abbrev pub editions_between : List ℕ → ℕ → ℕ → List Event
editions_between pieces before last =
    flat_map (λ number. edition_events number (slice_index pieces (number - 1)))
    (numbers_from (suc before) (last - before))

-- the events of the entries from a place on, where so many editions are published: before each
-- entry the editions up to its own that are not yet published
abbrev pub trail_from : List ℕ → ℕ → ℕ → List ℕ → List Event
trail_from pieces before place [] = []
trail_from pieces before place (entry ∷ entries) =
    editions_between pieces before entry
    ++ Enter 0 place ∷ trail_from pieces (max before entry) (suc place) entries

-- the trail of entries, whose places are counted from 1, over an opening of edition 1
abbrev pub trail_of : List ℕ → List ℕ → List Event
trail_of pieces entries = trail_from pieces 1 1 entries

-- entries that a reader can have where there are so many editions as numbers of pieces
pub record AreEntries (pieces entries : List ℕ) : Type 0 where
  pub rising : IsNonDecreasing entries
  pub known : All (λ entry. (1 ≤ entry) × (entry ≤ length pieces)) entries

-- what a trail serves, for the entries from a place on: each its own edition
abbrev pub served_from : ℕ → List ℕ → List Answer
served_from place [] = []
served_from place (entry ∷ entries) = Served entry entry place ∷ served_from (suc place) entries
