-- Cited by private clauses and proofs. What a reader knows of its history, by the logs that were
-- reached.
use Rattle.std.specs.Prelude.{◌≡◌, ℕ, ◌≤◌, ◌⊎◌, true, [], ◌∷◌, ◌++◌, length, All, Option, None, Some, IfOk}
use Rattle.std.specs.Arc.{arc_value}
use Rattle.std.specs.List.Sorted.{IsNonDecreasing}
use Rattle.logbook.specs.declared.tokens.Seen.{Seen}
use Rattle.publication.specs.View.{EndsWith, History, Opening, StartsWith, View}
use Rattle.publication.specs.Chronicle.{editions_of, IsOpen, IsSettled}
use Rattle.publication.specs.declared.rule.Sight.{Sight}
use Rattle.publication.specs.declared.knowledge.Knowledge.{Knowledge}
use Rattle.publication.specs.declared.reader.Noted.{Noted}
use Rattle.publication.specs.declared.reader.Sighting.{Sighting}

module _ {E : Type 0} where
  abbrev pub opening_by : {P : Type 0} → Seen (Option E) ℕ P → Opening E
  opening_by origin = record { book = origin.book; editions = editions_of origin.log }

  abbrev pub history_by : Knowledge E → History E
  history_by known = record {
    opening = opening_by known.origin;
    editions = editions_of known.told.log;
    closed = known.closed;
  }

  abbrev pub view_by : {P : Type 0} → Sight E → Seen (Option E) ℕ P → Knowledge E → View E
  view_by sight seen known = record {
    opening = opening_by known.origin;
    seen = editions_of seen.log;
    told = editions_of known.told.log;
    closed = known.closed;
    entries = sight.entries;
    looks = sight.looks;
  }

  -- what was told begins all that is known, and where it is closed, nothing but the closing entry
  -- follows
  pub record IsTold (known : Knowledge E) : Type 0 where
    pub told_book : known.told.book ≡ known.origin.book
    pub all_book : known.all.book ≡ known.origin.book
    pub one : length known.origin.log ≡ 1
    pub first : IsOpen known.origin.log
    pub number : known.number ≡ length known.told.log
    pub informed : StartsWith known.told.log known.origin.log
    pub unclosed : IsOpen known.told.log
    pub begins : StartsWith known.all.log known.told.log
    pub last : known.closed ≡ true → known.all.log ≡ known.told.log ++ None ∷ []

  -- what was seen begins all that is known, too, and what the sight has seen
  pub record IsReader {P : Type 0} (sight : Sight E) (seen : Seen (Option E) ℕ P) (count : ℕ)
      (known : Knowledge E) : Type 0 where
    pub told : IsTold known
    pub opened : sight.opened ≡ true
    pub book : sight.seen.book ≡ known.origin.book
    pub counted : count ≡ length seen.log
    pub unclosed : IsOpen seen.log
    pub begins : StartsWith known.all.log seen.log
    pub within : StartsWith sight.seen.log seen.log
    pub rising : IsNonDecreasing sight.entries
    pub entered : All (λ number. (1 ≤ number) × (number ≤ length seen.log)) sight.entries
    pub rising_looks : IsNonDecreasing sight.looks
    pub looked : All (λ number. (1 ≤ number) × (number ≤ length seen.log)) sight.looks

  -- the sight has learnt that its opening was published, and what is known is of that opening
  pub record KnowsOpening {P : Type 0} (sight : Sight E) (known : Seen (Option E) ℕ P) : Type 0
    where
      pub opened : sight.opened ≡ true
      pub book : known.book ≡ sight.seen.book

  -- What readers are made of at an opening: the log before its first entry, the log with it, and a
  -- sight that has learnt of it.
  pub record IsOpening {P : Type 0} (nothing origin : Seen (Option E) ℕ P) (sight : Sight E) :
      Type 0 where
    pub empty : nothing.log ≡ []
    pub one : length origin.log ≡ 1
    pub unclosed : IsOpen origin.log
    pub knows : KnowsOpening sight origin

  -- a step by which a reader sees more, and so knows more
  pub record SeesMore {P : Type 0} (before after : Sight E) (known all : Seen (Option E) ℕ P) :
      Type 0 where
    pub later : StartsWith after.seen.log before.seen.log
    pub opened : after.opened ≡ true
    pub book : after.seen.book ≡ before.seen.book
    pub unclosed : IsOpen after.seen.log
    pub some : 1 ≤ length after.seen.log
    pub all_book : all.book ≡ known.book
    pub kept : StartsWith all.log known.log
    pub begins : StartsWith all.log after.seen.log
    pub settled : IsSettled all.log

  -- nothing was seen
  abbrev pub SeesNothing : {P : Type 0} → Sight E → Sight E → Seen (Option E) ℕ P
      → Seen (Option E) ℕ P → Type 0
  SeesNothing before after known all = (after ≡ before) × (all ≡ known)

  -- more was seen or nothing, and nothing was noted
  pub record Glimpses {P : Type 0} (before after : Sight E) (known all : Seen (Option E) ℕ P) :
      Type 0 where
    pub entries : after.entries ≡ before.entries
    pub looks : after.looks ≡ before.looks
    pub opening : KnowsOpening after all
    pub sees : SeesNothing before after known all ⊎ SeesMore before after known all

  -- what was seen in a step, as the reader keeps it
  pub record IsNoted {P : Type 0} (after : Sight E) (seen : Seen (Option E) ℕ P) (count : ℕ) :
      Type 0 where
    pub is : seen.log ≡ after.seen.log
    pub counted : count ≡ length after.seen.log

  -- more was seen, and noted as an entry, which gives the newest edition where it gives one
  pub record NotesEntry {P : Type 0} (before after : Sight E) (known all : Seen (Option E) ℕ P)
      (noted : Noted E) : Type 0 where
    pub sees : SeesMore before after known all
    pub entry : after.entries ≡ before.entries ++ length after.seen.log ∷ []
    pub looks : after.looks ≡ before.looks
    pub seen : IsNoted after noted.sighting.seen noted.sighting.count
    pub number : IfOk noted.entered (λ entered. entered.number ≡ length after.seen.log)
    pub edition : IfOk noted.entered
        (λ entered. EndsWith after.seen.log (Some (arc_value entered.edition)))

  -- more was seen, and noted as a look
  pub record NotesLook {P : Type 0} (before after : Sight E) (known all : Seen (Option E) ℕ P)
      (sighting : Sighting E) : Type 0 where
    pub sees : SeesMore before after known all
    pub look : after.looks ≡ before.looks ++ length after.seen.log ∷ []
    pub entries : after.entries ≡ before.entries
    pub seen : IsNoted after sighting.seen sighting.count
