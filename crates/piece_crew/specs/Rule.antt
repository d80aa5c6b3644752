-- Cited by private clauses and proofs. The rule of a claim word, what each step at it tells, and
-- what a seat is to contracts.
use Rattle.std.specs.Prelude.{◌≡◌, ℕ, ◌+◌, ◌-◌, ◌<◌, ◌≤◌, List, [], ◌∷◌, ◌++◌, length, All, min}
use mathlib.Core.Option.{some}
use lib.ListN.{get_elem?}
use Rattle.atomic_table.specs.Table.{State, Me, Step}
use Rattle.atomic_table.specs.Seated.{TableId}
use Rattle.piece_crew.specs.Claims.{IsEachBelow, Seat, once_below, times}
use Rattle.piece_crew.specs.declared.rule.View.{View}
use Rattle.piece_crew.specs.declared.rule.Terms.{Terms}
use Rattle.piece_crew.specs.declared.rule.TheConstants.{MAX_TOTAL, MAX_WORKERS}

-- f of each view, added up
abbrev pub total_of : (View → ℕ) → List View → ℕ
total_of f [] = 0
total_of f (v ∷ vs) = f v + total_of f vs

-- what holds of each view, of which one that stands for no seat is spent
pub record Fits (terms : Terms) (v : View) : Type 0 where
  pub total : 0 < v.seats → v.total ≡ terms.total
  pub made : 0 < v.seats → v.made ≡ terms.seats
  pub nones : length v.past ≤ v.seats
  pub spent : v.seats ≡ 0 → v.claimed ≡ []

-- Each number below the word and below the total stands in one view, once, and no other does; what
-- the word is beyond these is the Nones of the views; and the views stand for the seats that were
-- made.
pub record Keeps (terms : Terms) (s : State (Unit {0}) View) : Type 0 where
  pub small : (terms.total ≤ MAX_TOTAL) × (terms.seats ≤ MAX_WORKERS)
  pub word : (w : ℕ) × (s.words ≡ w ∷ [])
      × (w ≡ min w terms.total + total_of (λ v. length v.past) s.views)
      × ((x : ℕ) → total_of (λ v. times x v.claimed) s.views ≡ once_below x (min w terms.total))
  pub seats : total_of (λ v. v.seats) s.views ≡ terms.seats
  pub each : (seat : ℕ) (v : View) → get_elem? s.views seat ≡ some v → Fits terms v

-- the first view: it stands for all seats
abbrev pub opened : Terms → View
opened terms = record {
  total = terms.total;
  made = terms.seats;
  seats = terms.seats;
  claimed = [];
  past = [];
}

-- the view after its step found a number below the total, and one at the total or past it
abbrev pub drew : View → ℕ → View
drew v n = record {
  total = v.total;
  made = v.made;
  seats = v.seats;
  claimed = v.claimed ++ n ∷ [];
  past = v.past;
}

abbrev pub missed : View → ℕ → View
missed v n = record {
  total = v.total;
  made = v.made;
  seats = v.seats;
  claimed = v.claimed;
  past = v.past ++ n ∷ [];
}

-- A number found below the total is claimed, and is above all that this view had. Any other is
-- noted.
pub record Draws (st : Step (Unit {0})) (me : Me (Unit {0}) View) (n : ℕ)
    (me' : Me (Unit {0}) View) : Type 0 where
  pub drawn : n < me.0.total → (me'.0 ≡ drew me.0 n) × All (λ k. k < n) me.0.claimed
  pub none : me.0.total ≤ n → me'.0 ≡ missed me.0 n
  pub slots : me'.1 ≡ me.1

-- A view that stands for all seats has each number below the word and the total, and all Nones.
pub record Reads (st : Step (Unit {0})) (me : Me (Unit {0}) View) (n : ℕ)
    (me' : Me (Unit {0}) View) : Type 0 where
  pub same : me' ≡ me
  pub claimed : 0 < me.0.seats → me.0.seats ≡ me.0.made
      → IsEachBelow (min n me.0.total) me.0.claimed
  pub nones : 0 < me.0.seats → me.0.seats ≡ me.0.made
      → n ≡ min n me.0.total + length me.0.past

-- a view without one of its seats, and the view of that seat
abbrev pub left : View → View
left v = record {
  total = v.total;
  made = v.made;
  seats = v.seats - 1;
  claimed = v.claimed;
  past = v.past;
}

abbrev pub right : View → View
right v = record { total = v.total; made = v.made; seats = 1; claimed = []; past = [] }

-- the view for the seats of two, and what is left of the second
abbrev pub joined : View → View → View
joined v w = record {
  total = v.total;
  made = v.made;
  seats = v.seats + w.seats;
  claimed = v.claimed ++ w.claimed;
  past = v.past ++ w.past;
}

abbrev pub spent : View
spent = record { total = 0; made = 0; seats = 0; claimed = []; past = [] }

-- a seat, by its word and its view
abbrev pub seat_of : TableId → View → Seat
seat_of id v = record {
  word = record { id = id; total = v.total; seats = v.made };
  claimed = v.claimed;
  past = v.past;
}
