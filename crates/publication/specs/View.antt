-- Cited by public clauses. The history of a publisher, and what a reader of it has seen. The
-- project's own.
use Rattle.std.specs.Prelude.{◌≡◌, ℕ, ◌≤◌, ◌⊎◌, Bool, false, IsTrue, List, [], ◌∷◌, ◌++◌, length, All}
use Rattle.std.specs.List.Sorted.{IsNonDecreasing}
use Rattle.logbook.specs.Pages.{Book}

-- the list begins with these
abbrev pub StartsWith : {E : Type 0} → List E → List E → Type 0
StartsWith {E} list front = (rest : List E) × (list ≡ front ++ rest)

-- the list ends with this
abbrev pub EndsWith : {E : Type 0} → List E → E → Type 0
EndsWith {E} list last = (front : List E) × (list ≡ front ++ last ∷ [])

-- What a publisher was opened with. A publisher and its readers have one opening for good.
pub record Opening (E : Type 0) : Type 0 where
  -- which opening it is: what one publisher tells can't be learnt by the reader of another
  pub book : Book
  -- the history that it began with
  pub editions : List E

-- A publisher, by the editions that it published, in their order: the edition at place n, counted
-- from 1, has the number n. The list only grows, at its end, and is closed where it won't grow any
-- more.
pub record History (E : Type 0) : Type 0 where
  pub opening : Opening E
  pub editions : List E
  pub closed : Bool

-- A reader's view: plain data that only this reader's own steps change.
pub record View (E : Type 0) : Type 0 where
  pub opening : Opening E
  -- the editions that it has seen: a beginning of the history
  pub seen : List E
  -- the longest beginning of the history that it was told of; each other one that it was told
  -- begins this one
  pub told : List E
  -- whether the history was closed when that was told
  pub closed : Bool
  -- the numbers of the editions that it was given, in the order of its entries
  pub entries : List ℕ
  -- the numbers of the editions that were the newest at its looks, in their order
  pub looks : List ℕ

-- a reader that has seen nothing, was told of the history at the opening, and has no entry and no
-- look
abbrev pub newcomer : {E : Type 0} → Opening E → View E
newcomer opening = record {
  opening = opening;
  seen = [];
  told = opening.editions;
  closed = false;
  entries = [];
  looks = [];
}

-- What holds of every view.
pub record IsView {E : Type 0} (view : View E) : Type 0 where
  -- what was seen and what was told begin one history
  pub history : List E
  pub seen_begins : StartsWith history view.seen
  pub told_begins : StartsWith history view.told
  -- which is that of the opening
  pub informed : StartsWith view.told view.opening.editions
  pub begins : (view.seen ≡ []) ⊎ StartsWith view.seen view.opening.editions
  -- the entries never fall, and each is the number of an edition that was seen
  pub rising : IsNonDecreasing view.entries
  pub known : All (λ number. (1 ≤ number) × (number ≤ length view.seen)) view.entries
  -- nor do the looks, and each is the number of an edition that was seen
  pub looks_rising : IsNonDecreasing view.looks
  pub looks_known : All (λ number. (1 ≤ number) × (number ≤ length view.seen)) view.looks
  -- nothing is seen beyond a closed history
  pub within : IsTrue view.closed → StartsWith view.told view.seen

-- What two readers have seen, and what they were told, begins one history.
pub record ShareHistory {E : Type 0} (one other : View E) : Type 0 where
  pub history : List E
  pub one_seen : StartsWith history one.seen
  pub one_told : StartsWith history one.told
  pub other_seen : StartsWith history other.seen
  pub other_told : StartsWith history other.told

-- What a call that sees and is told nothing does to a view: it is of the same opening, has seen no
-- less, was told nothing more, and is closed where it was. What the call notes is said next to
-- this.
pub record OnlySees {E : Type 0} (old new : View E) : Type 0 where
  pub opening : new.opening ≡ old.opening
  pub later : StartsWith new.seen old.seen
  pub told : new.told ≡ old.told
  pub closed : new.closed ≡ old.closed
  pub view : IsView new

-- the view gained one entry: that of the newest edition that it has seen
abbrev pub GainsEntry : {E : Type 0} → View E → View E → Type 0
GainsEntry old new = new.entries ≡ old.entries ++ length new.seen ∷ []

-- the view gained one look, at which the newest edition was the last that it has seen
abbrev pub GainsLook : {E : Type 0} → View E → View E → Type 0
GainsLook old new = new.looks ≡ old.looks ++ length new.seen ∷ []
