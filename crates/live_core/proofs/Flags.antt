-- The flags of a draft, by the pieces that are finished.
use Rattle.std.proofs.Common.{◌≡◌, ◌≢◌, ℕ, zero, suc, ◌<◌, ◌⊎◌, Bool, true, false, ◌||◌, ◌&&◌, eqb, Option, None, Some, List, [], ◌∷◌, length, get_or, refl, sym, ap, ◌∙◌, subst, arith, inl, inr, slice_get, Result, Ok, Err, MatchOption, MatchBool}
use Rattle.std.proofs.Math.ListN.{set}
use Rattle.std.proofs.lemmas.List.{length-set, get_or-set_same, get_or-set_other}
use Rattle.std.proofs.lemmas.List.Sums.{sum_by-cons}
use Rattle.std.proofs.lemmas.Option.{slice_get-get_or, slice_get_within, get_or_from_slice_get}
use Rattle.std.proofs.lemmas.Bool.{false≢true}
use Rattle.std.proofs.lemmas.Bool.Decides.{nat_tests}
use Rattle.live_core.specs.declared.event.NotLegal.{NotLegal}
use Rattle.live_core.specs.declared.event.NotLegal.TheVariants.{UnknownPiece, PieceTwice}
use Rattle.live_core.specs.Events.{Scan, is_among, are_all_among}
use Rattle.live_core.specs.State.{DraftState, IsDraftOf}
use Rattle.live_core.specs.Steps.{lack, missing_of}

-- ---- all pieces are among those that are finished

below_or_last : (i n : ℕ) → i < suc n → (i < n) ⊎ (i ≡ n)
below_or_last i n h = grind arith

both_true : (a b : Bool) → (a && b) ≡ true → (a ≡ true) × (b ≡ true)
both_true true b e = (refl, e)
both_true false b e = absurd (false≢true e)

pub all_among-each : (done : List ℕ) (n i : ℕ) → are_all_among done n ≡ true → i < n
    → is_among done i ≡ true
all_among-each done zero i e h = absurd (omega arith)
all_among-each done (suc n) i e h =
    let parts = both_true (is_among done n) (are_all_among done n) e in
    elim (below_or_last i n h) [
      | inl below ↦ all_among-each done n i parts.1 below
      | inr here ↦ ap (is_among done) here ∙ parts.0
    ]

pub each-all_among : (done : List ℕ) (n : ℕ) → ((i : ℕ) → i < n → is_among done i ≡ true)
    → are_all_among done n ≡ true
each-all_among done zero each = refl
each-all_among done (suc n) each =
    ap (λ b. b && are_all_among done n) (each n (omega arith))
    ∙ each-all_among done n (λ i below. each i (omega arith))

-- ---- no piece is missing where each flag is up

some_missing : (flags : List Bool) → missing_of (false ∷ flags) ≡ 0 → ⊥
some_missing flags e = let sum = sum_by-cons lack false flags in omega arith

none_missing-rest : (flags : List Bool) → missing_of (true ∷ flags) ≡ 0 → missing_of flags ≡ 0
none_missing-rest flags e = let sum = sum_by-cons lack true flags in omega arith

pub none_missing-each : (flags : List Bool) (i : ℕ) (flag : Bool) → missing_of flags ≡ 0
    → slice_get flags i ≡ Some flag → flag ≡ true
none_missing-each [] i flag e h = cc
none_missing-each (true ∷ flags) zero flag e h = cc
none_missing-each (false ∷ flags) zero flag e h = absurd (some_missing flags e)
none_missing-each (true ∷ flags) (suc i) flag e h = none_missing-each flags i flag
    (none_missing-rest flags e) h
none_missing-each (false ∷ flags) (suc i) flag e h = absurd (some_missing flags e)

pub each-none_missing : (flags : List Bool) → ((i : ℕ) → i < length flags → slice_get flags i
    ≡ Some true) → missing_of flags ≡ 0
each-none_missing [] each = refl
each-none_missing (true ∷ flags) each =
    let rest = each-none_missing flags (λ i below. each (suc i) (omega arith)) in
    let sum = sum_by-cons lack true flags in
    omega arith
each-none_missing (false ∷ flags) each = let e : Some false ≡ Some true = each 0 (omega arith) in cc

-- ---- a draft that is whole, and one that isn't

pub whole_draft : (scan : Scan) (done : List ℕ) (draft : DraftState) → IsDraftOf scan done draft
    → missing_of draft.finished ≡ 0 → are_all_among done scan.pieces ≡ true
whole_draft scan done draft is whole = each-all_among done scan.pieces
    (λ i below. none_missing-each draft.finished i (is_among done i) whole (is.finished i below))

pub unfinished_draft : (scan : Scan) (done : List ℕ) (draft : DraftState)
    → IsDraftOf scan done draft
    → (missing_of draft.finished ≡ 0 → ⊥) → are_all_among done scan.pieces ≡ false
unfinished_draft scan done draft is lacks = by_test (are_all_among done scan.pieces) refl
  where
    by_test : (b : Bool) → are_all_among done scan.pieces ≡ b → are_all_among done scan.pieces
        ≡ false
    by_test false e = e
    by_test true e =
        absurd (lacks (each-none_missing draft.finished (λ i below.
        let within : i < scan.pieces = subst (λ n. i < n) is.pieces below in
        is.finished i within ∙ ap Some (all_among-each done scan.pieces i e within))))

-- ---- a new draft, and one more finished piece

eqb_same : (i : ℕ) → eqb i i ≡ true
eqb_same i = grind (arith, nat_tests)

eqb_other : (i j : ℕ) → (i ≡ j → ⊥) → eqb i j ≡ false
eqb_other i j h = grind (arith, nat_tests)

same_or_other : (i j : ℕ) → (i ≡ j) ⊎ (i ≢ j)
same_or_other i j = grind arith

pub finished_more : (scan : Scan) (done : List ℕ) (draft : DraftState) (index : ℕ)
    → IsDraftOf scan done draft
    → slice_get draft.finished index ≡ Some false
    → IsDraftOf scan (index ∷ done) (record draft { finished = set draft.finished index true })
finished_more scan done draft index is lowered = record {
  sources = is.sources;
  pieces = length-set draft.finished index true ∙ is.pieces;
  finished = flag;
}
  where
    within : index < length draft.finished
    within = slice_get_within draft.finished index false lowered

    flag : (i : ℕ) → i < scan.pieces → slice_get (set draft.finished index true) i ≡ Some
        (is_among (index ∷ done) i)
    flag i below =
        let inside : i < length draft.finished = subst (λ n. i < n) (sym is.pieces) below in
        let inside_set : i < length (set draft.finished index true) = subst (λ n. i < n)
        (sym (length-set draft.finished index true)) inside in
        let read = slice_get-get_or (set draft.finished index true) i false inside_set in
        elim (same_or_other index i) [
          | inl here ↦
              let value : get_or (set draft.finished index true) i false ≡ true =
              subst (λ k. get_or (set draft.finished index true) k false ≡ true) here
              (get_or-set_same draft.finished index true false within) in
              let known : is_among (index ∷ done) i ≡ true =
              ap (λ b. b || is_among done i) (subst (λ k. eqb index k ≡ true) here
              (eqb_same index)) in
              read ∙ ap Some (value ∙ sym known)
          | inr other ↦
              let value : get_or (set draft.finished index true) i false ≡ get_or draft.finished i
              false =
              get_or-set_other draft.finished index i true false (λ e. other (sym e)) in
              let before : get_or draft.finished i false ≡ is_among done i =
              get_or_from_slice_get draft.finished i (is_among done i) false
              (is.finished i below) in
              let known : is_among (index ∷ done) i ≡ is_among done i =
              ap (λ b. b || is_among done i) (eqb_other index i other) in
              read ∙ ap Some (value ∙ before ∙ sym known)
        ]

-- ---- the number of missing pieces

-- ---- what finishing a piece answers

-- what `finish` ensures
abbrev pub Finishes : DraftState → ℕ → Result (Unit {0}) NotLegal → DraftState → Type 0
Finishes old index given new =
    MatchOption (slice_get old.finished index)
    ((given ≡ Err UnknownPiece) × (new ≡ old))
    (λ finished. MatchBool finished
    ((given ≡ Err PieceTwice) × (new ≡ old))
    ((given ≡ Ok tt) × (new ≡ record old { finished = set old.finished index true })))

pub finishes-ok : (old : DraftState) (index : ℕ) (given : Result (Unit {0}) NotLegal)
    (new : DraftState) → Finishes old index given new → given ≡ Ok tt
    → (slice_get old.finished index ≡ Some false)
    × (new ≡ record old { finished = set old.finished index true })
finishes-ok old index given new fact ok = by_flag (slice_get old.finished index) refl fact
  where
    by_flag : (flag : Option Bool) → slice_get old.finished index ≡ flag
        → MatchOption flag ((given ≡ Err UnknownPiece) × (new ≡ old))
        (λ finished. MatchBool finished ((given ≡ Err PieceTwice) × (new ≡ old))
        ((given ≡ Ok tt) × (new ≡ record old { finished = set old.finished index true })))
        → (slice_get old.finished index ≡ Some false)
        × (new ≡ record old { finished = set old.finished index true })
    by_flag None e fact' = let wrong : Err UnknownPiece ≡ Ok tt = sym fact'.0 ∙ ok in cc
    by_flag (Some true) e fact' = let wrong : Err PieceTwice ≡ Ok tt = sym fact'.0 ∙ ok in cc
    by_flag (Some false) e fact' = (e, fact'.1)

pub finishes-err : (old : DraftState) (index : ℕ) (given : Result (Unit {0}) NotLegal)
    (new : DraftState) (why : NotLegal) → Finishes old index given new → given ≡ Err why
    → (new ≡ old) × (((slice_get old.finished index ≡ None) × (why ≡ UnknownPiece))
    ⊎ ((slice_get old.finished index ≡ Some true) × (why ≡ PieceTwice)))
finishes-err old index given new why fact err = by_flag (slice_get old.finished index) refl fact
  where
    by_flag : (flag : Option Bool) → slice_get old.finished index ≡ flag
        → MatchOption flag ((given ≡ Err UnknownPiece) × (new ≡ old))
        (λ finished. MatchBool finished ((given ≡ Err PieceTwice) × (new ≡ old))
        ((given ≡ Ok tt) × (new ≡ record old { finished = set old.finished index true })))
        → (new ≡ old) × (((slice_get old.finished index ≡ None) × (why ≡ UnknownPiece))
        ⊎ ((slice_get old.finished index ≡ Some true) × (why ≡ PieceTwice)))
    by_flag None e fact' = let same : Err why ≡ Err UnknownPiece = sym err ∙ fact'.0 in
        (fact'.1, inl (e, cc))
    by_flag (Some true) e fact' = let same : Err why ≡ Err PieceTwice = sym err ∙ fact'.0 in
        (fact'.1, inr (e, cc))
    by_flag (Some false) e fact' = let wrong : Err why ≡ Ok tt = sym err ∙ fact'.0 in cc
