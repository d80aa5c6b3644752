-- Cited by public clauses. What contracts see of a core, and what it is after events.
use Rattle.std.specs.Prelude.{◌≡◌, ℕ, ◌<◌, Bool, Option, None, Some, List, length, slice_get}
use Rattle.live_core.specs.declared.event.Event.{Event}
use Rattle.live_core.specs.Events.{Scan, under_way, finished, published, last_of, is_among}

-- an edition that is being made: its sources, and for each piece whether it is finished
pub record DraftState : Type 0 where
  pub sources : ℕ
  pub finished : List Bool

-- a core: how many editions are published, the sources of the newest, and the edition that is being
-- made
pub record CoreState : Type 0 where
  pub editions : ℕ
  pub newest : ℕ
  pub draft : Option DraftState

-- the draft is that of a scan with these finished pieces
pub record IsDraftOf (scan : Scan) (done : List ℕ) (draft : DraftState) : Type 0 where
  pub sources : draft.sources ≡ scan.sources
  pub pieces : length draft.finished ≡ scan.pieces
  pub finished : (index : ℕ) → index < scan.pieces
      → slice_get draft.finished index ≡ Some (is_among done index)

-- there is a draft exactly where a scan is under way
abbrev pub AreDraftOf : Option Scan → List ℕ → Option DraftState → Type 0
AreDraftOf None done None = Unit {0}
AreDraftOf None done (Some draft) = ⊥
AreDraftOf (Some scan) done None = ⊥
AreDraftOf (Some scan) done (Some draft) = IsDraftOf scan done draft

-- a core of this opening after this past
pub record IsAfter (opening : ℕ) (past : List Event) (state : CoreState) : Type 0 where
  pub editions : state.editions ≡ length (published opening past)
  pub newest : state.newest ≡ last_of opening (published opening past)
  pub draft : AreDraftOf (under_way past) (finished past) state.draft
