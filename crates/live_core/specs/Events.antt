-- Cited by public clauses. The core machine, over lists of events. The project's own.
--
-- The past of an event is the list of the legal events before it, the latest first.
use Rattle.std.specs.Prelude.{ℕ, zero, suc, ◌+◌, Bool, true, false, ◌&&◌, Option, None, Some, List, [], ◌∷◌, ◌++◌, length, is_some, nat_lt, ◌==◌, if◌then◌else◌}
use Rattle.std.specs.List.{list_any, filter_map, zip}
use Rattle.live_core.specs.declared.event.Event.{Event}
use Rattle.live_core.specs.declared.event.Event.TheVariants as events
use Rattle.live_core.specs.declared.event.Answer.{Answer}
use Rattle.live_core.specs.declared.event.Answer.TheVariants.{Done, Published, Served, Illegal}
use Rattle.live_core.specs.declared.event.NotLegal.TheVariants.{ScanUnderWay, NoScan, UnknownPiece, PieceTwice, Unfinished}

-- what a scan makes: the sources of an edition, and how many pieces it has
pub record Scan : Type 0 where
  pub sources : ℕ
  pub pieces : ℕ

-- the scan under way: the last one that began, unless it was published
abbrev pub under_way : List Event → Option Scan
under_way [] = None
under_way (events.Scan sources pieces ∷ past) = Some (record { sources = sources; pieces = pieces })
under_way (events.Publish ∷ past) = None
under_way (events.Piece worker index ∷ past) = under_way past
under_way (events.Enter connection request ∷ past) = under_way past

-- the pieces that were finished since the last scan began
abbrev pub finished : List Event → List ℕ
finished [] = []
finished (events.Scan sources pieces ∷ past) = []
finished (events.Piece worker index ∷ past) = index ∷ finished past
finished (events.Publish ∷ past) = finished past
finished (events.Enter connection request ∷ past) = finished past

-- the sources of a scan, if there is one
abbrev pub sources_of : Option Scan → List ℕ
sources_of None = []
sources_of (Some scan) = scan.sources ∷ []

-- what the editions that are published are made of, in their order: the opening's sources, then
-- those of each scan that was published
abbrev pub published : ℕ → List Event → List ℕ
published opening [] = opening ∷ []
published opening (events.Publish ∷ past) = published opening past ++ sources_of (under_way past)
published opening (_ ∷ past) = published opening past

-- the last of a list, or else this
abbrev pub last_of : ℕ → List ℕ → ℕ
last_of none [] = none
last_of none (x ∷ xs) = last_of x xs

-- whether a piece is among those that are finished
abbrev pub is_among : List ℕ → ℕ → Bool
is_among done index = list_any (λ other. other == index) done

-- whether so many pieces, from 0 on, are all finished
abbrev pub are_all_among : List ℕ → ℕ → Bool
are_all_among done zero = true
are_all_among done (suc pieces) = is_among done pieces && are_all_among done pieces

-- the answer to a piece, by the scan under way and its finished pieces
abbrev pub piece_answer : Option Scan → List ℕ → ℕ → Answer
piece_answer None done index = Illegal NoScan
piece_answer (Some scan) done index =
    if nat_lt index scan.pieces
    then (if is_among done index then Illegal PieceTwice else Done)
    else Illegal UnknownPiece

-- the answer to a publication, by the scan under way, its finished pieces and the editions so far
abbrev pub publish_answer : Option Scan → List ℕ → ℕ → Answer
publish_answer None done editions = Illegal NoScan
publish_answer (Some scan) done editions =
    if are_all_among done scan.pieces then Published (editions + 1) else Illegal Unfinished

-- the answer to an event, by the sources of the opening and the event's past
abbrev pub answer_of : ℕ → List Event → Event → Answer
answer_of opening past (events.Scan sources pieces) =
    if is_some (under_way past) then Illegal ScanUnderWay else Done
answer_of opening past (events.Piece worker index) =
    piece_answer (under_way past) (finished past) index
answer_of opening past events.Publish =
    publish_answer (under_way past) (finished past) (length (published opening past))
answer_of opening past (events.Enter connection request) =
    Served (length (published opening past)) (last_of opening (published opening past)) request

abbrev pub is_legal : Answer → Bool
is_legal (Illegal why) = false
is_legal _ = true

abbrev pub is_served : Answer → Bool
is_served (Served edition sources request) = true
is_served _ = false

-- the past of the next event: an illegal event leaves no trace
abbrev pub past_after : ℕ → List Event → Event → List Event
past_after opening past event =
    if is_legal (answer_of opening past event) then event ∷ past else past

-- the answers to events, one for each
abbrev pub answers_from : ℕ → List Event → List Event → List Answer
answers_from opening past [] = []
answers_from opening past (event ∷ rest) =
    answer_of opening past event ∷ answers_from opening (past_after opening past event) rest

-- the answers to a list of events over the sources of the opening
abbrev pub core_answers : ℕ → List Event → List Answer
core_answers opening all = answers_from opening [] all

-- the edition that an answer to this event serves to a connection
abbrev pub edition_to : ℕ → Event × Answer → Option ℕ
edition_to connection (events.Enter who request, Served edition sources asked) =
    if who == connection then Some edition else None
edition_to connection _ = None

-- the editions that a list of events served to a connection, in their order
abbrev pub editions_to : ℕ → List Event → List Answer → List ℕ
editions_to connection all answers = filter_map (edition_to connection) (zip all answers)
