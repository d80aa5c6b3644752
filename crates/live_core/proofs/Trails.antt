-- A trail is legal, and serves its entries.
use Rattle.std.proofs.Common.{◌≡◌, ℕ, zero, suc, ◌+◌, ◌-◌, ◌<◌, ◌≤◌, ◌⊎◌, Bool, true, false, cond, ◌&&◌, ◌||◌, eqb, ltb, Option, None, Some, List, [], ◌∷◌, ◌++◌, length, get_or, map, max, refl, sym, ap, ◌∙◌, subst, arith, inl, inr, is_some, append_assoc, append-nil, add-zero, zero-add}
use Rattle.std.specs.List.{filter, list_all, flat_map}
use Rattle.std.proofs.lemmas.Bool.Decides.{nat_tests}
use Rattle.live_core.specs.declared.event.Event.{Event}
use Rattle.live_core.specs.declared.event.Event.TheVariants as events
use Rattle.live_core.specs.declared.event.Answer.{Answer}
use Rattle.live_core.specs.declared.event.Answer.TheVariants.{Done, Published, Served, Illegal}
use Rattle.live_core.specs.declared.event.NotLegal.TheVariants.{ScanUnderWay, UnknownPiece, PieceTwice, Unfinished}
use Rattle.live_core.specs.Events.{Scan, under_way, finished, published, sources_of, last_of, is_among, piece_answer, publish_answer, answer_of, answers_from, core_answers, is_legal, is_served, past_after}
use Rattle.live_core.specs.Trail.{numbers_from, edition_events, trail_from, trail_of, AreEntries, served_from}
use Rattle.live_core.proofs.Falling.{Climbs, never_falls-climbs}
use Rattle.live_core.proofs.Flags.{each-all_among}
use Rattle.live_core.proofs.Following.{past-legal}

-- ---- events that are legal and serve nobody lead from a past to another

-- they can be left out of every list that begins with them, when it is asked whether all is legal,
-- and who is served
pub record Passes (opening : ℕ) (past all after : List Event) : Type 0 where
  pub legal : (more : List Event) → list_all is_legal (answers_from opening past (all ++ more))
      ≡ list_all is_legal (answers_from opening after more)
  pub served : (more : List Event) → filter is_served (answers_from opening past (all ++ more))
      ≡ filter is_served (answers_from opening after more)

passes-none : (opening : ℕ) (past : List Event) → Passes opening past [] past
passes-none opening past = record { legal = λ more. refl; served = λ more. refl }

passes-event : (opening : ℕ) (past : List Event) (event : Event) (given : Answer)
    → answer_of opening past event ≡ given
    → is_legal given ≡ true → is_served given ≡ false → Passes opening past (event ∷ [])
    (event ∷ past)
passes-event opening past event given is legal unserved =
    let legal_now : is_legal (answer_of opening past event) ≡ true = ap is_legal is ∙ legal in
    let unserved_now : is_served (answer_of opening past event) ≡ false = ap is_served is
    ∙ unserved in
    let next = past-legal opening past event legal_now in
    record {
      legal = λ more.
          ap (λ b. b && list_all is_legal (answers_from opening (past_after opening past event)
          more)) legal_now
          ∙ ap (λ l. list_all is_legal (answers_from opening l more)) next;
      served = λ more.
          ap (λ b. cond b (answer_of opening past event ∷ filter is_served
          (answers_from opening (past_after opening past event) more))
          (filter is_served (answers_from opening (past_after opening past event) more)))
          unserved_now
          ∙ ap (λ l. filter is_served (answers_from opening l more)) next;
    }

passes-append : (opening : ℕ) (past xs between ys after : List Event)
    → Passes opening past xs between → Passes opening between ys after
    → Passes opening past (xs ++ ys) after
passes-append opening past xs between ys after front back = record {
  legal = λ more. ap (λ l. list_all is_legal (answers_from opening past l))
      (append_assoc xs ys more) ∙ front.legal (ys ++ more) ∙ back.legal more;
  served = λ more. ap (λ l. filter is_served (answers_from opening past l))
      (append_assoc xs ys more) ∙ front.served (ys ++ more) ∙ back.served more;
}

-- ---- the pieces of a scan, one after another

known_index : (index pieces : ℕ) → index < pieces → ltb index pieces ≡ true
known_index index pieces h = grind (arith, nat_tests)

another : (i j : ℕ) → i < j → eqb i j ≡ false
another i j h = grind (arith, nat_tests)

itself : (i : ℕ) → eqb i i ≡ true
itself i = grind (arith, nat_tests)

or_true : (b : Bool) → (b || true) ≡ true
or_true true = refl
or_true false = refl

fresh_piece : (opening : ℕ) (past : List Event) (scan : Scan) (index : ℕ) → under_way past
    ≡ Some scan → index < scan.pieces
    → is_among (finished past) index ≡ false → answer_of opening past (events.Piece 0 index) ≡ Done
fresh_piece opening past scan index scanned below open_still =
    ap (λ o. piece_answer o (finished past) index) scanned
    ∙ ap (λ b. cond b (cond (is_among (finished past) index) (Illegal PieceTwice) Done)
    (Illegal UnknownPiece)) (known_index index scan.pieces below)
    ∙ ap (λ b. cond b (Illegal PieceTwice) Done) open_still

-- where the pieces below a number are finished and no others
record Half (opening : ℕ) (scan : Scan) (list : List ℕ) (count : ℕ) (past : List Event) : Type 0
  where
    scanned : under_way past ≡ Some scan
    editions : published opening past ≡ list
    below : (i : ℕ) → i < count → is_among (finished past) i ≡ true
    above : (i : ℕ) → count ≤ i → is_among (finished past) i ≡ false

half-more : (opening : ℕ) (scan : Scan) (list : List ℕ) (count : ℕ) (past : List Event)
    → Half opening scan list count past
    → Half opening scan list (suc count) (events.Piece 0 count ∷ past)
half-more opening scan list count past half = record {
  scanned = half.scanned;
  editions = half.editions;
  below = λ i less. elim (below_or_here i count less) [
    | inl lower ↦ ap (λ b. eqb count i || b) (half.below i lower) ∙ or_true (eqb count i)
    | inr here ↦ ap (λ b. b || is_among (finished past) i) (subst (λ k. eqb count k ≡ true)
        (sym here) (itself count))
  ];
  above = λ i more. ap (λ b. b || is_among (finished past) i) (another count i (omega arith))
      ∙ half.above i (omega arith);
}
  where
    below_or_here : (i n : ℕ) → i < suc n → (i < n) ⊎ (i ≡ n)
    below_or_here i n h = grind arith

pieces-pass : (opening : ℕ) (scan : Scan) (list : List ℕ) (left count : ℕ) (past : List Event)
    → Half opening scan list count past
    → count + left ≡ scan.pieces
    → (after : List Event) × Passes opening past (map (λ index. events.Piece 0 index)
    (numbers_from count left)) after × Half opening scan list scan.pieces after
pieces-pass opening scan list zero count past half sum = (
  past,
  passes-none opening past,
  subst (λ n. Half opening scan list n past)
      (sym (add-zero count) ∙ sum) half,
)
pieces-pass opening scan list (suc left) count past half sum =
    let here = fresh_piece opening past scan count half.scanned (omega arith)
    (half.above count (omega arith)) in
    let rest = pieces-pass opening scan list left (suc count) (events.Piece 0 count ∷ past)
    (half-more opening scan list count past half) (omega arith) in (
      rest.0,
      passes-append opening past (events.Piece 0 count ∷ []) (events.Piece 0 count ∷ past)
          (map (λ index. events.Piece 0 index) (numbers_from (suc count) left)) rest.0
          (passes-event opening past (events.Piece 0 count) Done here refl refl) rest.1,
      rest.2,
    )

-- ---- an edition is made and published

-- where these editions are published and no scan is under way
pub record Idle (opening : ℕ) (list : List ℕ) (past : List Event) : Type 0 where
  pub idle : under_way past ≡ None
  pub editions : published opening past ≡ list

begun : (opening : ℕ) (list : List ℕ) (past : List Event) (number pieces : ℕ)
    → Idle opening list past
    → Half opening (record { sources = number; pieces = pieces }) list 0 (events.Scan number pieces
    ∷ past)
begun opening list past number pieces before = record {
  scanned = refl;
  editions = before.editions;
  below = λ i less. absurd (omega arith);
  above = λ i more. refl;
}

edition-passes : (opening : ℕ) (list : List ℕ) (past : List Event) (number pieces : ℕ)
    → Idle opening list past
    → (after : List Event) × Passes opening past (edition_events number pieces) after × Idle opening
    (list ++ number ∷ []) after
edition-passes opening list past number pieces before =
    let scan : Scan = record { sources = number; pieces = pieces } in
    let begin = passes-event opening past (events.Scan number pieces) Done
    (ap (λ (o : Option Scan). cond (is_some o) (Illegal ScanUnderWay) Done) before.idle) refl
    refl in
    let made = pieces-pass opening scan list pieces 0 (events.Scan number pieces ∷ past)
    (begun opening list past number pieces before) (omega arith) in
    let whole = each-all_among (finished made.0) pieces (made.2.below) in
    let end = passes-event opening made.0 events.Publish
    (Published (length (published opening made.0) + 1))
    (ap (λ o. publish_answer o (finished made.0) (length (published opening made.0))) made.2.scanned
    ∙ ap (λ b. cond b (Published (length (published opening made.0) + 1)) (Illegal Unfinished))
    whole) refl refl in (
      events.Publish ∷ made.0,
      passes-append opening past (events.Scan number pieces ∷ []) (events.Scan number pieces ∷ past)
          (map (λ index. events.Piece 0 index) (numbers_from 0 pieces) ++ events.Publish ∷ [])
          (events.Publish ∷ made.0) begin
          (passes-append opening (events.Scan number pieces ∷ past)
          (map (λ index. events.Piece 0 index) (numbers_from 0 pieces)) made.0
          (events.Publish ∷ []) (events.Publish ∷ made.0) made.1 end),
      record {
        idle = refl;
        editions = ap (λ o. published opening made.0 ++ sources_of o) made.2.scanned
            ∙ ap (λ l. l ++ number ∷ []) made.2.editions;
      },
    )

editions-pass : (opening : ℕ) (of : ℕ → ℕ) (count first : ℕ) (list : List ℕ) (past : List Event)
    → Idle opening list past
    → (after : List Event) × Passes opening past
    (flat_map (λ number. edition_events number (of number)) (numbers_from first count)) after
    × Idle opening (list ++ numbers_from first count) after
editions-pass opening of zero first list past before = (
  past,
  passes-none opening past,
  subst (λ l. Idle opening l past) (sym (append-nil list))
      before,
)
editions-pass opening of (suc count) first list past before =
    let one = edition-passes opening list past first (of first) before in
    let rest = editions-pass opening of count (suc first) (list ++ first ∷ []) one.0 one.2 in (
      rest.0,
      passes-append opening past (edition_events first (of first)) one.0
          (flat_map (λ number. edition_events number (of number)) (numbers_from (suc first) count))
          rest.0 one.1 rest.1,
      subst (λ l. Idle opening l rest.0) (append_assoc list (first ∷ [])
          (numbers_from (suc first) count)) rest.2,
    )

-- ---- rising numbers

pub length-numbers_from : (first count : ℕ) → length (numbers_from first count) ≡ count
length-numbers_from first zero = refl
length-numbers_from first (suc count) = ap suc (length-numbers_from (suc first) count)

last-numbers_from : (none first count : ℕ) → last_of none (numbers_from first (suc count))
    ≡ first + count
last-numbers_from none first zero = sym (add-zero first)
last-numbers_from none first (suc count) = let rest = last-numbers_from first (suc first) count in
    omega arith

numbers_from-append : (first count more next : ℕ) → next ≡ first + count → numbers_from first count
    ++ numbers_from next more ≡ numbers_from first (count + more)
numbers_from-append first zero more next e =
    ap (λ n. numbers_from n more) (e ∙ add-zero first) ∙ ap (numbers_from first)
    (sym (zero-add more))
numbers_from-append first (suc count) more next e =
    let sum : suc (count + more) ≡ suc count + more = omega arith in
    ap (λ l. first ∷ l) (numbers_from-append (suc first) count more next (omega arith))
    ∙ ap (numbers_from first) sum

-- ---- the trail

entry-served : (past : List Event) (entry place : ℕ) → 1 ≤ entry → published 1 past ≡ numbers_from 1
    entry
    → answer_of 1 past (events.Enter 0 place) ≡ Served entry entry place
entry-served past zero place some editions = absurd (omega arith)
entry-served past (suc entry) place some editions =
    ap (λ l. Served (length l) (last_of 1 l) place) editions
    ∙ ap (λ n. Served n (last_of 1 (numbers_from 1 (suc entry))) place) (length-numbers_from 1
    (suc entry))
    ∙ ap (λ n. Served (suc entry) n place) (let last = last-numbers_from 1 1 entry in omega arith)

trail_from-verdict : (pieces : List ℕ) (before place : ℕ) (entries : List ℕ) (past : List Event)
    → 1 ≤ before
    → Idle 1 (numbers_from 1 before) past → Climbs before entries
    → (list_all is_legal (answers_from 1 past (trail_from pieces before place entries)) ≡ true)
    × (filter is_served (answers_from 1 past (trail_from pieces before place entries)) ≡ served_from
    place entries)
trail_from-verdict pieces before place [] past some idle climbs = (refl, refl)
trail_from-verdict pieces before place (entry ∷ entries) past some idle climbs =
    let rise : before ≤ entry = climbs.0 in
    let newest : max before entry ≡ entry = omega arith in
    let made = editions-pass 1 (λ number. get_or pieces (number - 1) 0) (entry - before)
    (suc before) (numbers_from 1 before) past idle in
    let count : before + (entry - before) ≡ entry = omega arith in
    let list : published 1 made.0 ≡ numbers_from 1 entry =
    made.2.editions ∙ numbers_from-append 1 before (entry - before) (suc before) (omega arith)
    ∙ ap (numbers_from 1) count in
    let here = entry-served made.0 entry place (omega arith) list in
    let rest = trail_from pieces (max before entry) (suc place) entries in
    let later = trail_from-verdict pieces (max before entry) (suc place) entries
    (events.Enter 0 place ∷ made.0) (omega arith)
    (record { idle = made.2.idle; editions = list ∙ ap (numbers_from 1) (sym newest) })
    (subst (λ n. Climbs n entries) (sym newest) climbs.1) in (
      made.1.legal (events.Enter 0 place ∷ rest) ∙ later.0,
      made.1.served (events.Enter 0 place ∷ rest)
          ∙ ap (λ a. a ∷ filter is_served (answers_from 1 (events.Enter 0 place ∷ made.0) rest))
          here
          ∙ ap (λ l. Served entry entry place ∷ l) later.1,
    )

pub trail-verdict : (pieces entries : List ℕ) → AreEntries pieces entries
    → (list_all is_legal (core_answers 1 (trail_of pieces entries)) ≡ true)
    × (filter is_served (core_answers 1 (trail_of pieces entries)) ≡ served_from 1 entries)
trail-verdict pieces entries known =
    trail_from-verdict pieces 1 1 entries [] (omega arith) (record { idle = refl; editions = refl })
    (never_falls-climbs 1 entries known.rising (λ some. (known.known 0 0 some).0))
