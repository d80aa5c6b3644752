-- Accepted files by their numbers.
use Rattle.std.proofs.Common.{◌≡◌, ℕ, zero, suc, ◌+◌, ◌<◌, ◌≤◌, not, List, [], ◌∷◌, Option, Some}
use Rattle.std.proofs.Common.{None, All, map, get_or, length, refl, sym, ap, subst, ◌∙◌, arith}
use Rattle.std.proofs.Common.{add-zero, zero-add}
use Rattle.std.specs.Prelude.{nat_eq}
use Rattle.std.specs.List.{AllByRecursion, cons_option, list_any}
use Rattle.std.specs.List.Sorted.{IsStrictlySortedBy}
use Rattle.std.specs.Ordering.{nat_cmp}
use Rattle.std.specs.declared.cmp.Ordering.TheVariants.{Less}
use Rattle.std.proofs.lemmas.Bool.Decides.{nat_tests}
use Rattle.std.proofs.lemmas.List.Elements.{All-cons, All-head, All-nil, All-tail}
use Rattle.corpus_piece.specs.declared.outcome.Outcome.TheVariants.{Ignored, Faulty, Accepted}
use Rattle.corpus_piece.specs.declared.outcome.Parsed.{Parsed}
use Rattle.corpus_piece.specs.Pieces.{JudgedFile}
use Rattle.corpus.specs.Corpora.{AcceptedFile, AreFilesOf, accepted, accepted_as, accepted_file}
use Rattle.corpus.specs.Corpora.{is_kept}
use Rattle.corpus.specs.Snapshots.{SourceSet}
use Rattle.corpus.specs.Steps.{AreBeside}
use Rattle.corpus.proofs.Beside.{told}
use Rattle.corpus.proofs.Inputs.{number_at}

-- what holds of each accepted file
pub All-accepted : (P : AcceptedFile → Type 0) (files : List JudgedFile)
    → All (λ f. (parsed : Parsed) → f.outcome ≡ Accepted parsed → P (accepted_file f parsed)) files
    → All P (accepted files)
All-accepted P [] all = All-nil P
All-accepted P (f ∷ fs) all =
    let each : JudgedFile → Type 0 = λ f. (parsed : Parsed) → f.outcome ≡ Accepted parsed
    → P (accepted_file f parsed) in
    let later = All-accepted P fs (All-tail each f fs all) in
    elim f.outcome as (λ o. f.outcome ≡ o → All P (cons_option (accepted_as f o) (accepted fs))) [
      | Accepted parsed ↦ λ here. All-cons P (accepted_file f parsed) (accepted fs)
          (All-head each f fs all parsed here) later
      | Faulty fault ↦ λ here. later
      | Ignored why ↦ λ here. later
    ] refl

later_holds : (Q : AcceptedFile → Type 0) (o : Option AcceptedFile) (xs : List AcceptedFile)
    → All Q (cons_option o xs) → All Q xs
later_holds Q None xs all = all
later_holds Q (Some x) xs all = All-tail Q x xs all

-- and so of the one at a place
pub accepted_holds : (Q : AcceptedFile → Type 0) (files : List JudgedFile) (i : ℕ) (d : JudgedFile)
    (parsed : Parsed) → All Q (accepted files)
    → i < length files → (get_or files i d).outcome ≡ Accepted parsed
    → Q (accepted_file (get_or files i d) parsed)
accepted_holds Q [] i d parsed all below outcome = absurd (omega arith)
accepted_holds Q (f ∷ fs) zero d parsed all below outcome =
    All-head Q (accepted_file f parsed) (accepted fs)
    (subst (λ o. All Q (cons_option (accepted_as f o) (accepted fs))) outcome all)
accepted_holds Q (f ∷ fs) (suc i) d parsed all below outcome =
    accepted_holds Q fs i d parsed (later_holds Q (accepted_as f f.outcome) (accepted fs) all)
    (omega arith) outcome

above_next : (n : ℕ) (ks : List ℕ) → AllByRecursion (λ y. n + 1 ≤ y) ks
    → AllByRecursion (λ y. nat_cmp n y ≡ Less) ks × AllByRecursion (λ y. n ≤ y) ks
above_next n [] all = (tt, tt)
above_next n (k ∷ ks) all =
    let later = above_next n ks all.1 in
    let le : n + 1 ≤ k = all.0 in
    ((grind (arith, nat_tests), later.0), (omega arith, later.1))

-- where the numbers of files are n and the ones after it, those of the accepted ones rise from n on
rise_from : (n : ℕ) (files : List JudgedFile)
    → ((i : ℕ) (d : JudgedFile) → i < length files → (get_or files i d).number ≡ n + i)
    → IsStrictlySortedBy nat_cmp (map (λ a. a.number) (accepted files))
    × AllByRecursion (λ y. n ≤ y) (map (λ a. a.number) (accepted files))
unfolding IsStrictlySortedBy
rise_from n [] numbered = (tt, tt)
rise_from n (f ∷ fs) numbered =
    let first : f.number ≡ n = numbered 0 f (omega arith) ∙ add-zero n in
    let step : (i : ℕ) (d : JudgedFile) → i < length fs → (get_or fs i d).number ≡ n + 1 + i =
    λ i d below. numbered (suc i) d (omega arith) ∙ omega arith in
    let later = rise_from (n + 1) fs step in
    let above = above_next n (map (λ (a : AcceptedFile). a.number) (accepted fs)) later.1 in
    let P : List AcceptedFile → Type 0 = λ l. IsStrictlySortedBy nat_cmp
    (map (λ (a : AcceptedFile). a.number) l)
    × AllByRecursion (λ y. n ≤ y) (map (λ (a : AcceptedFile). a.number) l) in
    elim f.outcome as (λ o. P (cons_option (accepted_as f o) (accepted fs))) [
      | Accepted parsed ↦ (
        (
          subst (λ k. AllByRecursion (λ y. nat_cmp k y ≡ Less)
              (map (λ (a : AcceptedFile). a.number) (accepted fs))) (sym first) above.0,
          later.0,
        ),
        (omega arith, above.1),
      )
      | Faulty fault ↦ (later.0, above.1)
      | Ignored why ↦ (later.0, above.1)
    ]

module _ (s : SourceSet) (files : List JudgedFile) (are : AreFilesOf s files) where
  -- the numbers of the accepted files rise
  pub numbers_rise : IsStrictlySortedBy nat_cmp (map (λ a. a.number) (accepted files))
  numbers_rise = (rise_from 0 files (λ i d below. number_at s files are i d below ∙ sym
      (zero-add i))).0

  pub all_told : (numbers : List ℕ) → AreBeside files numbers
      → All (λ a. list_any (nat_eq a.number) numbers ≡ not (is_kept files a)) (accepted files)
  all_told numbers beside =
      subst (λ ns. All (λ (a : AcceptedFile). list_any (nat_eq a.number) ns ≡ not (is_kept files a))
      (accepted files)) (sym beside.same)
      (told (λ (a : AcceptedFile). a.number) (λ a. not (is_kept files a)) (accepted files)
      numbers_rise)

  -- whether a number is among those of the files next to packages
  pub beside_told : (numbers : List ℕ) → AreBeside files numbers
      → (i : ℕ) (d : JudgedFile) (parsed : Parsed) → i < length files → (get_or files i d).outcome
      ≡ Accepted parsed
      → list_any (nat_eq i) numbers ≡ not (is_kept files (accepted_file (get_or files i d) parsed))
  beside_told numbers beside i d parsed below outcome =
      ap (λ n. list_any (nat_eq n) numbers) (sym (number_at s files are i d below))
      ∙ accepted_holds (λ a. list_any (nat_eq a.number) numbers ≡ not (is_kept files a)) files i d
      parsed (all_told numbers beside) below outcome
