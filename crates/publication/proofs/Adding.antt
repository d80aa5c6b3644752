-- The two steps of a log keep its rule.
use Rattle.std.proofs.Common.{◌≡◌, ◌≢◌, ℕ, zero, suc, ◌+◌, ◌<◌, ◌≤◌, ◌==◌, Bool, true, false, List, [], ◌∷◌, ◌++◌, length, set, refl, sym, ap, ◌∙◌, subst, arith, inl, ⊎_elim, le_refl, length-append, Option}
use Rattle.std.proofs.lemmas.List.{append-nil, length-set, get_or-set_same, get_or-set_other, get_or_append_left, get_or_past}
use Rattle.std.proofs.lemmas.Bool.{cases_lt, cases_eq}
use Rattle.std.proofs.lemmas.Bool.Decides.{nat_tests}
use mathlib.Core.List.{IsPrefix}
use prog.Atomic.{either}
use Rattle.logbook.specs.Pages.{Cell, cell, keeps, gives, adds, nib, may_make, no_nib, step, Moves, Goes, Away}
use Rattle.publication.specs.Chronicle.{IsOpen, IsSettled, IsKept, AddsEntry, MakesPlace, place_after}
use Rattle.publication.proofs.Logs.{begins_of, prefix_whole, settled_more}

-- an away place at the end changes nothing
cell_more : (places : List Cell) (place : ℕ) → cell (places ++ (0, false) ∷ []) place ≡ cell places
    place
cell_more [] zero = refl
cell_more [] (suc place) = refl
cell_more (c ∷ places) zero = refl
cell_more (c ∷ places) (suc place) = cell_more places place

unchanged : (n : ℕ) (b : Bool) → (n == 0) ≡ b → either (n == 0) 0 n ≡ n
unchanged n true is = rw is (grind (arith, nat_tests))
unchanged n false is = rw is refl

module _ {E : Type 0} where
  abbrev pub shown : List (Option E) → List (Option E)
  shown log = []

  abbrev pub moved : List (Option E) → List (Option E) → ℕ → Type 0
  moved before after answer = Unit {0}

  -- the next place is away only where the log is no longer than what was seen
  no_longer : (places : List Cell) (seen log : List (Option E)) → ((place : ℕ) → place ≤ length log
      → (cell places place).1 ≡ true)
      → (cell places (suc (length seen))).1 ≡ false → length log ≤ length seen
  no_longer places seen log home away = ⊎_elim (λ (t : length seen < length log).
      absurd (cc (home (suc (length seen)) (omega arith), away))) (λ (t : length log ≤ length seen).
      t) (cases_lt (length seen) (length log))

  -- a place at home is there
  grown : (places : List Cell) (log : List (Option E)) → ((place : ℕ) → place ≤ length log
      → (cell places place).1 ≡ true) → length log < length places
  grown places log home = ⊎_elim (λ (t : length log < length places). t)
      (λ (t : length places ≤ length log).
      absurd (cc (sym (home (length log) (le_refl (length log))) ∙ ap (λ (c : Cell). c.1)
      (get_or_past places (length log) (0, false) t))))
      (cases_lt (length log) (length places))

  -- the entry goes to the end of a log that is all that was seen, and brings its place home
  placed : (places : List Cell) (seen : List (Option E)) (entry : Option E)
      → suc (length seen) < length places
      → ((place : ℕ) → place ≤ length seen → (cell places place).1 ≡ true)
      → ((place : ℕ) → length seen < place → (cell places place).1 ≡ false)
      → IsOpen seen
      → IsKept ((length places, true) ∷ set places (suc (length seen)) (0, true))
      (seen ++ entry ∷ [])
  placed places seen entry within home away unclosed =
      let n = suc (length seen) in
      let after = set places n (0, true) in
      let longer : length (seen ++ entry ∷ []) ≡ n = length-append seen (entry ∷ [])
      ∙ (omega arith) in
      let other : (place : ℕ) → place ≢ n → cell after place ≡ cell places place =
      λ place ne. get_or-set_other places n place (0, true) (0, false) ne in
      let here : cell after n ≡ (0, true) = get_or-set_same places n (0, true) (0, false) within in
      record {
        places = after;
        all = ap (λ (k : ℕ). (k, true) ∷ after) (sym (length-set places n (0, true)));
        home = λ place le. ⊎_elim (λ (same : place ≡ n). ap (λ (k : ℕ). (cell after k).1) same
            ∙ ap (λ (c : Cell). c.1) here)
            (λ (ne : place ≡ n → ⊥). ap (λ (c : Cell). c.1) (other place ne) ∙ home place
            (omega (arith, longer, le, ne)))
            (cases_eq place n);
        away = λ place lt. let ne : place ≢ n = λ same. omega (arith, longer, lt, same) in
            ap (λ (c : Cell). c.1) (other place ne) ∙ away place (omega (arith, longer, lt));
        settled = settled_more seen entry unclosed;
      }

  adds_goes : (places : List Cell) (log seen : List (Option E)) (entry : Option E)
      (state : Option ℕ)
      → ((place : ℕ) → place ≤ length log → (cell places place).1 ≡ true)
      → ((place : ℕ) → length log < place → (cell places place).1 ≡ false)
      → IsPrefix seen log → IsOpen seen
      → suc (length seen) < length places → (cell places (suc (length seen))).1 ≡ false
      → Goes IsKept shown moved 0 (seen, (place_after (length seen), state))
      (λ n. either (n == 0) 0 n) (AddsEntry (step 0 0 0 entry)
      (seen, (place_after (length seen), state))) ((length places, true) ∷ places) log
  adds_goes places log seen entry state home away front unclosed within free =
      let whole : seen ≡ log = prefix_whole seen log (begins_of seen log front) (no_longer places seen log home free) in
      let kept : IsKept ((length places, true) ∷ set places (suc (length seen)) (0, true))
      (seen ++ entry ∷ []) =
      placed places seen entry within (subst (λ (l : List (Option E)). (place : ℕ)
      → place ≤ length l → (cell places place).1 ≡ true) (sym whole) home)
      (subst (λ (l : List (Option E)). (place : ℕ) → length l < place → (cell places place).1
      ≡ false) (sym whole) away) unclosed in
      let same : either (length places == 0) 0 (length places) ≡ length places = unchanged
      (length places) (length places == 0) refl in (
        gives,
        entry ∷ [],
        state,
        refl,
        subst (λ (k : ℕ). IsKept ((k, true) ∷ set places (suc (length seen)) (0, true))
            (log ++ entry ∷ [])) (sym same)
            (subst (λ (l : List (Option E)). IsKept ((length places, true) ∷ set places
            (suc (length seen)) (0, true)) (l ++ entry ∷ [])) whole kept),
        inl (refl, refl),
        ap (λ l. l ++ entry ∷ []) (sym whole),
      )

  -- who has the pen of the next place adds an entry
  pub adds_moves : (seen : List (Option E)) (entry : Option E) (state : Option ℕ) → IsOpen seen
      → Moves IsKept shown moved 0 (seen, (place_after (length seen), state))
      (λ n. either (n == 0) 0 n) (AddsEntry (step 0 0 0 entry)
      (seen, (place_after (length seen), state)))
  adds_moves seen entry state unclosed cs log kept front away =
      let P : List Cell → Type 0 = λ c. (0 < length c) × ((cell c 0).1 ≡ true)
      × Goes IsKept shown moved 0 (seen, (place_after (length seen), state))
      (λ n. either (n == 0) 0 n) (AddsEntry (step 0 0 0 entry)
      (seen, (place_after (length seen), state))) c log in
      let free = subst (λ (c : List Cell). Away (place_after (length seen)) c) kept.all away refl in
      let within : suc (length seen) < length kept.places = omega (arith, free.0) in
      subst P (sym kept.all) (
        omega arith,
        refl,
        adds_goes kept.places log seen entry state
            kept.home kept.away front unclosed within free.1,
      )

  makes_goes : (places : List Cell) (log seen : List (Option E)) (ask : Option E) (state : Option ℕ)
      (entry : ℕ)
      → ((place : ℕ) → place ≤ length log → (cell places place).1 ≡ true)
      → ((place : ℕ) → length log < place → (cell places place).1 ≡ false)
      → IsSettled log → length log < length places
      → (b : Bool) → (length places == entry) ≡ b
      → Goes IsKept shown moved 0 (seen, (no_nib, state)) (λ n. either (n == entry) (entry + 1) n)
      (MakesPlace (step 0 entry (entry + 1) ask) (seen, (no_nib, state)))
      ((length places, true) ∷ places) log
  makes_goes places log seen ask state entry home away settled within true is =
      let here : length places ≡ entry = grind (arith, nat_tests) in
      let all : log ++ [] ≡ log = append-nil log in
      let after : List Cell = places ++ (0, false) ∷ [] in
      let longer : length after ≡ entry + 1 = length-append places ((0, false) ∷ [])
      ∙ omega (arith, here) in
      let kept : IsKept ((length after, true) ∷ after) log = record {
        places = after;
        all = refl;
        home = λ place le. ap (λ (c : Cell). c.1) (get_or_append_left places ((0, false) ∷ [])
            (0, false) place (omega (arith, le, within))) ∙ home place le;
        away = λ place lt. ap (λ (c : Cell). c.1) (cell_more places place) ∙ away place lt;
        settled = settled;
      } in (
        adds,
        [],
        state,
        tt,
        subst (λ (l : List (Option E)). IsKept ((
          either (length places == entry) (entry + 1)
              (length places),
          true,
        ) ∷ after) l) (sym all)
            (subst (λ (k : ℕ). IsKept ((k, true) ∷ after) log)
            (longer ∙ sym (ap (λ (t : Bool). either t (entry + 1) (length places)) is)) kept),
        inl (refl, refl),
        rw is (ap (λ (k : ℕ). nib may_make (suc k) 0) here),
      )
  makes_goes places log seen ask state entry home away settled within false is =
      let all : log ++ [] ≡ log = append-nil log in
      let kept : IsKept ((length places, true) ∷ places) log = record {
        places = places;
        all = refl;
        home = home;
        away = away;
        settled = settled;
      } in (
        keeps,
        [],
        state,
        tt,
        subst (λ (l : List (Option E)). IsKept ((
          either (length places == entry) (entry + 1)
              (length places),
          true,
        ) ∷ places) l) (sym all)
            (subst (λ (k : ℕ). IsKept ((k, true) ∷ places) log)
            (sym (ap (λ (t : Bool). either t (entry + 1) (length places)) is)) kept),
        inl (refl, refl),
        rw is tt,
      )

  -- anyone may make a place more
  pub makes_moves : (seen : List (Option E)) (ask : Option E) (state : Option ℕ) (entry : ℕ)
      → Moves IsKept shown moved 0 (seen, (no_nib, state)) (λ n. either (n == entry) (entry + 1) n)
      (MakesPlace (step 0 entry (entry + 1) ask) (seen, (no_nib, state)))
  makes_moves seen ask state entry cs log kept front away =
      let P : List Cell → Type 0 = λ c. (0 < length c) × ((cell c 0).1 ≡ true)
      × Goes IsKept shown moved 0 (seen, (no_nib, state)) (λ n. either (n == entry) (entry + 1) n)
      (MakesPlace (step 0 entry (entry + 1) ask) (seen, (no_nib, state))) c log in
      let within : length log < length kept.places = grown kept.places log kept.home in
      subst P (sym kept.all) (
        omega arith,
        refl,
        makes_goes kept.places log seen ask state entry
            kept.home kept.away kept.settled within (length kept.places == entry) refl,
      )
