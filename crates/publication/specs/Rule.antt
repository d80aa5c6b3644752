-- Cited by private clauses and proofs. The rule under which editions are published next to readers.
use Rattle.std.specs.Prelude.{◌≡◌, ℕ, List, [], ◌∷◌, ◌++◌, length, true, false}
use mathlib.Core.Option.{some}
use lib.ListN.{get_elem?}
use Rattle.publication.specs.View.{StartsWith}
use Rattle.publication.specs.Slots.{IsSound}
use Rattle.publication.specs.declared.slot.Slot.{Slot}
use Rattle.publication.specs.declared.rule.Sight.{Sight}

module _ {E : Type 0} where
  -- one that knows nothing
  abbrev pub blank : Sight E
  blank = record {
    seen = record {
      book = record { number = 0; log_name = 0; cells_name = 0 };
      names = [];
      log = [];
      marker = record {};
    };
    entries = [];
    looks = [];
    opened = false;
  }

  -- what was seen is a beginning of what is published, of the same opening
  pub record Knows (slot : Slot E) (sight : Sight E) : Type 0 where
    pub same : sight.opened ≡ true → sight.seen.book ≡ slot.log.book
    pub begins : StartsWith slot.log.log sight.seen.log

  abbrev pub Holds : Slot E → List (Sight E) → Type 0
  Holds slot sights = IsSound slot × ((seat : ℕ) (sight : Sight E)
      → get_elem? sights seat ≡ some sight → Knows slot sight)

  -- what is seen is all that is published
  abbrev pub seeing : Slot E → Sight E → Sight E
  seeing slot sight = record {
    seen = slot.log;
    entries = sight.entries;
    looks = sight.looks;
    opened = true;
  }

  -- and its number is noted as that of an entry
  abbrev pub noting_entry : Slot E → Sight E → Sight E
  noting_entry slot sight = record {
    seen = slot.log;
    entries = sight.entries ++ length slot.log.log ∷ [];
    looks = sight.looks;
    opened = true;
  }

  -- or as that of a look
  abbrev pub noting_look : Slot E → Sight E → Sight E
  noting_look slot sight = record {
    seen = slot.log;
    entries = sight.entries;
    looks = sight.looks ++ length slot.log.log ∷ [];
    opened = true;
  }

  -- a step by which a sight sees what is published, and becomes this
  pub record SeesAt (sight : Sight E) (slot : Slot E) (after becomes : Sight E) : Type 0 where
    pub same : sight.opened ≡ true → sight.seen.book ≡ slot.log.book
    pub later : StartsWith slot.log.log sight.seen.log
    pub sound : IsSound slot
    pub is : after ≡ becomes

  abbrev pub EntersAt : Sight E → Slot E → Slot E → Sight E → Type 0
  EntersAt sight old new after = SeesAt sight new after (noting_entry new sight)

  abbrev pub LooksAt : Sight E → Slot E → Slot E → Sight E → Type 0
  LooksAt sight old new after = SeesAt sight new after (noting_look new sight)

  abbrev pub GlancesAt : Sight E → Slot E → Slot E → Sight E → Type 0
  GlancesAt sight old new after = SeesAt sight new after (seeing new sight)

  abbrev pub OpensAt : Sight E → Slot E → Slot E → Sight E → Type 0
  OpensAt sight old new after = after ≡ seeing new sight

  -- what a reader is told at the opening: which one it is
  abbrev pub told_of : Sight E → Sight E
  told_of sight = record {
    seen = record sight.seen { log = [] };
    entries = [];
    looks = [];
    opened = sight.opened;
  }
