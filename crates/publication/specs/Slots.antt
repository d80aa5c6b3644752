-- Cited by private clauses and proofs. What is published.
use Rattle.std.specs.Prelude.{◌≡◌, length, Some}
use Rattle.std.specs.Arc.{arc_value}
use Rattle.publication.specs.View.{EndsWith}
use Rattle.publication.specs.Chronicle.{IsOpen}
use Rattle.publication.specs.declared.slot.Slot.{Slot}
use Rattle.publication.specs.declared.slot.Shown.{Shown}

module _ {E : Type 0} where
  abbrev pub shown : Slot E → Shown E
  shown slot = record { edition = arc_value slot.edition; number = slot.number; log = slot.log }

  -- the log has as many entries as the slot's number says, and ends in its edition
  pub record IsSound (slot : Slot E) : Type 0 where
    pub number : slot.number ≡ length slot.log.log
    pub newest : EndsWith slot.log.log (Some (arc_value slot.edition))
    pub unclosed : IsOpen slot.log.log
