-- Cited by private clauses and proofs. What a publisher keeps.
use Rattle.std.specs.Prelude.{◌≡◌, ℕ, Bool, true, false, [], ◌∷◌, ◌++◌, length, Option, None}
use Rattle.logbook.specs.Pages.{Named}
use Rattle.logbook.specs.declared.tokens.Seen.{Seen}
use Rattle.logbook.specs.declared.tokens.Pen.{Pen}
use Rattle.publication.specs.View.{StartsWith}
use Rattle.publication.specs.Chronicle.{IsOpen, counter_of, place_after}
use Rattle.publication.specs.Slots.{IsSound}
use Rattle.publication.specs.declared.slot.Slot.{Slot}

module _ {E : Type 0} where
  -- the pen is that of the next entry
  pub record IsNext (pen : Pen) (slot : Slot E) : Type 0 where
    pub book : pen.book ≡ slot.log.book
    pub place : pen.nib ≡ place_after (length slot.log.log)

  -- the log is what is published, and once it is closed, the closing entry
  pub record IsPublisher {P : Type 0} (slot : Slot E) (counter : Named)
      (log origin : Seen (Option E) ℕ P) (pen : Pen) (closed : Bool) : Type 0 where
    pub sound : IsSound slot
    pub counter_is : counter ≡ counter_of slot.log.book
    pub log_book : log.book ≡ slot.log.book
    pub origin_book : origin.book ≡ slot.log.book
    pub one : length origin.log ≡ 1
    pub first : IsOpen origin.log
    pub informed : StartsWith slot.log.log origin.log
    pub all : closed ≡ false → log.log ≡ slot.log.log
    pub next : closed ≡ false → IsNext pen slot
    pub last : closed ≡ true → log.log ≡ slot.log.log ++ None ∷ []
