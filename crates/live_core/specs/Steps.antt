-- Cited by private clauses and proofs. How a draft and a core go on.
use Rattle.std.specs.Prelude.{◌≡◌, ℕ, ◌+◌, ◌≤◌, Bool, true, false, List, sum_by}
use Rattle.live_core.specs.declared.event.Event.{Event}
use Rattle.live_core.specs.declared.event.Answer.{Answer}
use Rattle.live_core.specs.Events.{answer_of, is_legal, past_after}
use Rattle.live_core.specs.State.{CoreState, IsAfter}

-- what a piece adds to the number of those that are missing
abbrev pub lack : Bool → ℕ
lack true = 0
lack false = 1

-- how many pieces are missing
abbrev pub missing_of : List Bool → ℕ
missing_of flags = sum_by lack flags

-- the core gave this answer to an event, and is another one now
pub record Follows (old : CoreState) (event : Event) (given : Answer) (new : CoreState) : Type 0
  where
    pub answer : (opening : ℕ) (past : List Event) → IsAfter opening past old
        → given ≡ answer_of opening past event
    pub after : (opening : ℕ) (past : List Event) → IsAfter opening past old
        → IsAfter opening (past_after opening past event) new
    pub illegal : is_legal given ≡ false → new ≡ old
    pub editions : new.editions ≤ old.editions + 1
