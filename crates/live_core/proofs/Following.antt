-- What a core answers to each kind of event, and what it is then.
use Rattle.std.proofs.Common.{inl, inr, ◌≡◌, ℕ, zero, suc, ◌+◌, ◌<◌, ◌≤◌, ◌⊎◌, Bool, true, false, cond, Option, None, Some, List, [], ◌∷◌, ◌++◌, length, refl, sym, ap, ◌∙◌, subst, arith, ltb, slice_get, length-append}
use Rattle.std.proofs.Math.ListN.{set}
use Rattle.std.proofs.lemmas.Bool.{false≢true}
use Rattle.std.proofs.lemmas.Bool.Decides.{nat_tests}
use Rattle.std.proofs.lemmas.Option.{slice_get_within}
use Rattle.live_core.specs.declared.event.Event.{Event}
use Rattle.live_core.specs.declared.event.Event.TheVariants as events
use Rattle.live_core.specs.declared.event.Answer.{Answer}
use Rattle.live_core.specs.declared.event.Answer.TheVariants.{Done, Published, Illegal}
use Rattle.live_core.specs.declared.event.NotLegal.{NotLegal}
use Rattle.live_core.specs.declared.event.NotLegal.TheVariants.{NoScan, UnknownPiece, PieceTwice, Unfinished}
use Rattle.live_core.specs.Events.{Scan, under_way, finished, published, sources_of, last_of, is_among, piece_answer, publish_answer, answer_of, is_legal, past_after}
use Rattle.live_core.specs.State.{DraftState, CoreState, IsDraftOf, AreDraftOf, IsAfter}
use Rattle.live_core.specs.Steps.{missing_of, Follows}
use Rattle.live_core.proofs.Flags.{whole_draft, unfinished_draft, finished_more}

-- ---- the past of the next event

pub past-legal : (opening : ℕ) (past : List Event) (event : Event)
    → is_legal (answer_of opening past event) ≡ true → past_after opening past event ≡ event ∷ past
past-legal opening past event e = ap (λ b. cond b (event ∷ past) past) e

pub past-illegal : (opening : ℕ) (past : List Event) (event : Event)
    → is_legal (answer_of opening past event) ≡ false → past_after opening past event ≡ past
past-illegal opening past event e = ap (λ b. cond b (event ∷ past) past) e

legal_follows : (old : CoreState) (event : Event) (given : Answer) (new : CoreState)
    → is_legal given ≡ true → new.editions ≤ old.editions + 1
    → ((opening : ℕ) (past : List Event) → IsAfter opening past old
    → (given ≡ answer_of opening past event) × IsAfter opening (event ∷ past) new)
    → Follows old event given new
legal_follows old event given new legal few next = record {
  answer = λ opening past before. (next opening past before).0;
  after = λ opening past before.
      let now = next opening past before in
      let same = past-legal opening past event (ap is_legal (sym now.0) ∙ legal) in
      subst (λ list. IsAfter opening list new) (sym same) now.1;
  illegal = λ e. absurd (false≢true (sym e ∙ legal));
  editions = few;
}

illegal_follows : (old : CoreState) (event : Event) (given : Answer) → is_legal given ≡ false
    → ((opening : ℕ) (past : List Event) → IsAfter opening past old → given ≡ answer_of opening past
    event)
    → Follows old event given old
illegal_follows old event given illegal same = record {
  answer = same;
  after = λ opening past before.
      let stays = past-illegal opening past event (ap is_legal (sym (same opening past before))
      ∙ illegal) in
      subst (λ list. IsAfter opening list old) (sym stays) before;
  illegal = λ _. refl;
  editions = omega arith;
}

-- ---- whether a scan is under way

no_scan : (scan : Option Scan) (done : List ℕ) (draft : Option DraftState)
    → AreDraftOf scan done draft → draft ≡ None → scan ≡ None
no_scan None done None is e = refl
no_scan None done (Some draft) is e = absurd is
no_scan (Some scan) done None is e = absurd is
no_scan (Some scan) done (Some draft) is e = cc

a_scan : (scan : Option Scan) (done : List ℕ) (draft : Option DraftState) (it : DraftState)
    → AreDraftOf scan done draft → draft ≡ Some it
    → (found : Scan) × (scan ≡ Some found) × IsDraftOf found done it
a_scan None done None it is e = cc
a_scan None done (Some draft) it is e = absurd is
a_scan (Some scan) done None it is e = absurd is
a_scan (Some scan) done (Some draft) it is e =
    let same : draft ≡ it = cc in
    (scan, refl, subst (λ d. IsDraftOf scan done d) same is)

-- ---- a scan begins

-- ---- a piece is finished

pub piece-no_scan : (old : CoreState) (worker index : ℕ) → old.draft ≡ None
    → Follows old (events.Piece worker index) (Illegal NoScan) old
piece-no_scan old worker index none = illegal_follows old (events.Piece worker index)
    (Illegal NoScan) refl (λ opening past before.
    let idle = no_scan (under_way past) (finished past) old.draft before.draft none in
    sym (ap (λ o. piece_answer o (finished past) index) idle))

known_piece : (index pieces : ℕ) → index < pieces → ltb index pieces ≡ true
known_piece index pieces h = grind (arith, nat_tests)

unknown_piece : (index pieces : ℕ) → pieces ≤ index → ltb index pieces ≡ false
unknown_piece index pieces h = grind (arith, nat_tests)

-- the answer to a piece of a scan
piece_answer-by : (scan : Scan) (done : List ℕ) (index : ℕ) (known twice : Bool)
    → ltb index scan.pieces ≡ known → is_among done index ≡ twice
    → cond known (cond twice (Illegal PieceTwice) Done) (Illegal UnknownPiece) ≡ piece_answer
    (Some scan) done index
piece_answer-by scan done index known twice k t =
    sym (ap (λ b. cond b (cond (is_among done index) (Illegal PieceTwice) Done)
    (Illegal UnknownPiece)) k
    ∙ ap (λ b. cond known (cond b (Illegal PieceTwice) Done) (Illegal UnknownPiece)) t)

outside : (flags : List Bool) (index : ℕ) → slice_get flags index ≡ None → length flags ≤ index
outside [] index e = omega arith
outside (flag ∷ flags) zero e = cc
outside (flag ∷ flags) (suc index) e = let rest = outside flags index e in omega arith

pub piece-unknown : (old : CoreState) (draft : DraftState) (worker index : ℕ)
    → old.draft ≡ Some draft → slice_get draft.finished index ≡ None
    → Follows old (events.Piece worker index) (Illegal UnknownPiece) old
piece-unknown old draft worker index has none = illegal_follows old (events.Piece worker index)
    (Illegal UnknownPiece) refl (λ opening past before.
    let found = a_scan (under_way past) (finished past) old.draft draft before.draft has in
    let past_end : found.0.pieces ≤ index = subst (λ n. n ≤ index) found.2.pieces
    (outside draft.finished index none) in
    piece_answer-by found.0 (finished past) index false (is_among (finished past) index)
    (unknown_piece index found.0.pieces past_end) refl
    ∙ sym (ap (λ o. piece_answer o (finished past) index) found.1))

pub piece-again : (old : CoreState) (draft : DraftState) (worker index : ℕ) → old.draft ≡ Some draft
    → slice_get draft.finished index ≡ Some true
    → Follows old (events.Piece worker index) (Illegal PieceTwice) old
piece-again old draft worker index has set_already = illegal_follows old (events.Piece worker index)
    (Illegal PieceTwice) refl (λ opening past before.
    let found = a_scan (under_way past) (finished past) old.draft draft before.draft has in
    let within : index < found.0.pieces = subst (λ n. index < n) found.2.pieces
    (slice_get_within draft.finished index true set_already) in
    let flag : Some true ≡ Some (is_among (finished past) index) = sym set_already
    ∙ found.2.finished index within in
    let among : is_among (finished past) index ≡ true = cc in
    piece_answer-by found.0 (finished past) index true true
    (known_piece index found.0.pieces within) among
    ∙ sym (ap (λ o. piece_answer o (finished past) index) found.1))

pub piece-done : (old : CoreState) (draft : DraftState) (worker index : ℕ) → old.draft ≡ Some draft
    → slice_get draft.finished index ≡ Some false
    → Follows old (events.Piece worker index) Done
    (record old { draft = Some (record draft { finished = set draft.finished index true }) })
piece-done old draft worker index has lowered =
    legal_follows old (events.Piece worker index) Done
    (record old { draft = Some (record draft { finished = set draft.finished index true }) })
    refl (omega arith) (λ opening past before.
    let found = a_scan (under_way past) (finished past) old.draft draft before.draft has in
    let within : index < found.0.pieces = subst (λ n. index < n) found.2.pieces
    (slice_get_within draft.finished index false lowered) in
    let flag : Some false ≡ Some (is_among (finished past) index) = sym lowered
    ∙ found.2.finished index within in
    let among : is_among (finished past) index ≡ false = cc in (
      piece_answer-by found.0 (finished past) index true false
          (known_piece index found.0.pieces within) among
          ∙ sym (ap (λ o. piece_answer o (finished past) index) found.1),
      record {
        editions = before.editions;
        newest = before.newest;
        draft = subst (λ o. AreDraftOf o (index ∷ finished past)
            (Some (record draft { finished = set draft.finished index true }))) (sym found.1)
            (finished_more found.0 (finished past) draft index found.2 lowered);
      },
    ))

-- the same, by what the draft answered
pub piece-finished : (old : CoreState) (draft next : DraftState) (worker index : ℕ)
    → old.draft ≡ Some draft
    → (slice_get draft.finished index ≡ Some false)
    × (next ≡ record draft { finished = set draft.finished index true })
    → Follows old (events.Piece worker index) Done (record old { draft = Some next })
piece-finished old draft next worker index has given =
    subst (λ (d : DraftState). Follows old (events.Piece worker index) Done
    (record old { draft = Some d })) (sym given.1)
    (piece-done old draft worker index has given.0)

pub piece-refused : (old : CoreState) (draft next : DraftState) (why : NotLegal) (worker index : ℕ)
    → old.draft ≡ Some draft
    → (next ≡ draft) × (((slice_get draft.finished index ≡ None) × (why ≡ UnknownPiece))
    ⊎ ((slice_get draft.finished index ≡ Some true) × (why ≡ PieceTwice)))
    → Follows old (events.Piece worker index) (Illegal why) (record old { draft = Some next })
piece-refused old draft next why worker index has given =
    subst (λ (d : Option DraftState). Follows old (events.Piece worker index) (Illegal why)
    (record old { draft = d })) (has ∙ sym (ap Some given.0))
    (elim given.1 [
      | inl unknown ↦ subst (λ w. Follows old (events.Piece worker index) (Illegal w) old)
          (sym unknown.1) (piece-unknown old draft worker index has unknown.0)
      | inr again ↦ subst (λ w. Follows old (events.Piece worker index) (Illegal w) old)
          (sym again.1) (piece-again old draft worker index has again.0)
    ])

-- ---- an edition is published

pub publish-unfinished : (old : CoreState) (draft : DraftState) → old.draft ≡ Some draft
    → (missing_of draft.finished ≡ 0 → ⊥)
    → Follows old events.Publish (Illegal Unfinished) old
publish-unfinished old draft has lacks = illegal_follows old events.Publish (Illegal Unfinished)
    refl (λ opening past before.
    let found = a_scan (under_way past) (finished past) old.draft draft before.draft has in
    let test = unfinished_draft found.0 (finished past) draft found.2 lacks in
    sym (ap (λ o. publish_answer o (finished past) (length (published opening past))) found.1
    ∙ ap (λ b. cond b (Published (length (published opening past) + 1)) (Illegal Unfinished)) test))

last-append : (none : ℕ) (xs : List ℕ) (x : ℕ) → last_of none (xs ++ x ∷ []) ≡ x
last-append none [] x = refl
last-append none (y ∷ xs) x = last-append y xs x

pub publish-done : (old : CoreState) (draft : DraftState) → old.draft ≡ Some draft
    → missing_of draft.finished ≡ 0
    → Follows old events.Publish (Published (old.editions + 1))
    (record { editions = old.editions + 1; newest = draft.sources; draft = None })
publish-done old draft has whole =
    legal_follows old events.Publish (Published (old.editions + 1))
    (record { editions = old.editions + 1; newest = draft.sources; draft = None }) refl
    (omega arith) (λ opening past before.
    let found = a_scan (under_way past) (finished past) old.draft draft before.draft has in
    let test = whole_draft found.0 (finished past) draft found.2 whole in
    let list : published opening (events.Publish ∷ past) ≡ published opening past ++ found.0.sources
    ∷ [] =
    ap (λ o. published opening past ++ sources_of o) found.1 in (
      ap (λ n. Published (n + 1)) before.editions
          ∙ sym (ap (λ o. publish_answer o (finished past) (length (published opening past)))
          found.1
          ∙ ap (λ b. cond b (Published (length (published opening past) + 1)) (Illegal Unfinished))
          test),
      record {
        editions = ap (λ n. n + 1) before.editions ∙ sym (ap length list ∙ length-append
            (published opening past) (found.0.sources ∷ []));
        newest = found.2.sources ∙ sym (ap (last_of opening) list ∙ last-append opening
            (published opening past) found.0.sources);
        draft = tt;
      },
    ))

-- ---- a connection enters
