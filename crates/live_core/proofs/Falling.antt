-- The editions that are served to one connection never fall.
use Rattle.std.proofs.Common.{ℕ, zero, suc, ◌<◌, ◌≤◌, Bool, true, false, cond, eqb, None, Some, List, [], ◌∷◌, length, get_or, arith, length-append}
use Rattle.std.specs.List.{cons_option}
use Rattle.std.specs.List.Sorted.{IsNonDecreasing}
use Rattle.live_core.specs.declared.event.Event.{Event}
use Rattle.live_core.specs.declared.event.Event.TheVariants.{Scan, Piece, Publish, Enter}
use Rattle.live_core.specs.Events.{under_way, published, sources_of, answer_of, answers_from, is_legal, editions_to}

-- the first is at least this, and each other at least the one before it
abbrev pub Climbs : ℕ → List ℕ → Type 0
Climbs low [] = Unit {0}
Climbs low (x ∷ xs) = (low ≤ x) × Climbs x xs

pub climbs-weaken : (low higher : ℕ) (xs : List ℕ) → low ≤ higher → Climbs higher xs → Climbs low xs
climbs-weaken low higher [] h climbs = tt
climbs-weaken low higher (x ∷ xs) h climbs = (let first = climbs.0 in omega arith, climbs.1)

pub climbs-each : (low : ℕ) (xs : List ℕ) (i d : ℕ) → Climbs low xs → i < length xs
    → low ≤ get_or xs i d
climbs-each low [] i d climbs below = absurd (omega arith)
climbs-each low (x ∷ xs) zero d climbs below = climbs.0
climbs-each low (x ∷ xs) (suc i) d climbs below =
    let first = climbs.0 in
    let rest = climbs-each x xs i d climbs.1 (omega arith) in
    omega arith

pub climbs-never_falls : (low : ℕ) (xs : List ℕ) → Climbs low xs → IsNonDecreasing xs
climbs-never_falls low [] climbs i j d order below = absurd (omega arith)
climbs-never_falls low (x ∷ xs) climbs zero zero d order below = omega arith
climbs-never_falls low (x ∷ xs) climbs zero (suc j) d order below = climbs-each x xs j d climbs.1
    (omega arith)
climbs-never_falls low (x ∷ xs) climbs (suc i) zero d order below = absurd (omega arith)
climbs-never_falls low (x ∷ xs) climbs (suc i) (suc j) d order below =
    climbs-never_falls x xs climbs.1 i j d (omega arith) (omega arith)

pub never_falls-climbs : (low : ℕ) (xs : List ℕ) → IsNonDecreasing xs
    → (0 < length xs → low ≤ get_or xs 0 0) → Climbs low xs
never_falls-climbs low [] rising first = tt
never_falls-climbs low (x ∷ xs) rising first = (
  first (omega arith),
  never_falls-climbs x xs (λ i j d order below. rising (suc i) (suc j) d (omega arith)
      (omega arith)) (λ some. rising 0 1 0 (omega arith) (omega arith)),
)

-- ---- no event takes an edition back

published-grows : (opening : ℕ) (past : List Event) (event : Event)
    → length (published opening past) ≤ length (published opening (event ∷ past))
published-grows opening past (Scan sources pieces) = omega arith
published-grows opening past (Piece worker index) = omega arith
published-grows opening past Publish = let sum = length-append (published opening past)
    (sources_of (under_way past)) in omega arith
published-grows opening past (Enter connection request) = omega arith

after_event : (opening connection : ℕ) (past : List Event) (event : Event) (rest : List Event)
    (legal : Bool)
    → ((before : List Event) → Climbs (length (published opening before))
    (editions_to connection rest (answers_from opening before rest)))
    → Climbs (length (published opening past)) (editions_to connection rest
    (answers_from opening (cond legal (event ∷ past) past) rest))
after_event opening connection past event rest true each =
    climbs-weaken (length (published opening past)) (length (published opening (event ∷ past)))
    (editions_to connection rest (answers_from opening (event ∷ past) rest))
    (published-grows opening past event) (each (event ∷ past))
after_event opening connection past event rest false each = each past

served_now : (low : ℕ) (same : Bool) (xs : List ℕ) → Climbs low xs → Climbs low
    (cons_option (cond same (Some low) None) xs)
served_now low true xs climbs = (omega arith, climbs)
served_now low false xs climbs = climbs

pub editions-climb : (opening connection : ℕ) (past all : List Event)
    → Climbs (length (published opening past)) (editions_to connection all
    (answers_from opening past all))
editions-climb opening connection past [] = tt
editions-climb opening connection past (Scan sources pieces ∷ rest) =
    after_event opening connection past (Scan sources pieces) rest
    (is_legal (answer_of opening past (Scan sources pieces)))
    (λ before. editions-climb opening connection before rest)
editions-climb opening connection past (Piece worker index ∷ rest) =
    after_event opening connection past (Piece worker index) rest
    (is_legal (answer_of opening past (Piece worker index)))
    (λ before. editions-climb opening connection before rest)
editions-climb opening connection past (Publish ∷ rest) =
    after_event opening connection past Publish rest (is_legal (answer_of opening past Publish))
    (λ before. editions-climb opening connection before rest)
editions-climb opening connection past (Enter who request ∷ rest) =
    served_now (length (published opening past)) (eqb who connection) (editions_to connection rest
    (answers_from opening (Enter who request ∷ past) rest))
    (editions-climb opening connection (Enter who request ∷ past) rest)
