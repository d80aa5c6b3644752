-- The outcome of a file by the lines of its definition, and as it is found.
use Rattle.std.proofs.Common.{◌≡◌, sym, subst, ℕ, ◌≤◌, List, inl, inr, refl, length}
use Rattle.build_lines.specs.declared.admission.Admission.{Admission}
use Rattle.build_lines.specs.declared.admission.Admission.TheVariants as admissions
use Rattle.build_lines.specs.Admissions.{IsAdmission}
use Rattle.go_ast.specs.declared.config.Config.{Config}
use Rattle.go_ast.specs.declared.token.Comment.{Comment}
use Rattle.tree_io.specs.Sources.{file_limit}
use Rattle.go_ast.specs.declared.token.Token.{Token}
use Rattle.go_ast.specs.Reading.{Reads}
use Rattle.tree_io.specs.declared.tree.Entry.{Entry}
use Rattle.tree_io.specs.declared.tree.Entry.TheVariants as entries
use Rattle.corpus_piece.specs.declared.outcome.Outcome.{Outcome}
use Rattle.corpus_piece.specs.Outcomes.{IsOutcomeOf, IsReadFor, unread, large, oversized}
use Rattle.corpus_piece.specs.Outcomes.{unreadable, bad_build_line, ignored, misspelled, accepted}
use Rattle.corpus_piece.specs.Steps.{IsFoundOutcome, IsOutcomeAfter}

module _ (path bytes : List ℕ) (config : Config) (number : ℕ) (outcome : Outcome)
    (small : length bytes ≤ file_limit) (tokens : List Token) (comments : List Comment)
    (reads : Reads bytes tokens comments) where
  read_for : (admission : Admission) → IsAdmission path bytes tokens comments config admission
      → IsReadFor path (entries.Bytes bytes) config bytes tokens comments admission
  read_for admission j = record { entry_is = refl; small = small; reads = reads; admitted = j }

  outcome_after : (admission : Admission)
      → IsAdmission path bytes tokens comments config admission
      → IsOutcomeAfter admission bytes tokens comments number outcome
      → IsOutcomeOf path (entries.Bytes bytes) config number outcome
  outcome_after (admissions.BadBuildLine line) j p =
      bad_build_line bytes tokens comments line (read_for (admissions.BadBuildLine line) j) p
  outcome_after (admissions.Ignored why) j p =
      ignored bytes tokens comments why (read_for (admissions.Ignored why) j) p
  outcome_after admissions.Admitted j (inl (fault, s, p)) =
      misspelled bytes tokens comments fault (read_for admissions.Admitted j) s p
  outcome_after admissions.Admitted j (inr (file, s, p)) =
      accepted bytes tokens comments file (read_for admissions.Admitted j) s p

-- what is found is an outcome
pub is_outcome : (path : List ℕ) (entry : Entry) (config : Config) (number : ℕ)
    (outcome : Outcome) → IsFoundOutcome path entry config number outcome
    → IsOutcomeOf path entry config number outcome
is_outcome path entries.Unread config number outcome p = unread refl p
is_outcome path entries.Large config number outcome p = large refl p
is_outcome path (entries.Bytes bytes) config number outcome (inl (n, p)) = oversized bytes refl n p
is_outcome path (entries.Bytes bytes) config number outcome (inr (n, inl (fault, s, p))) =
    unreadable bytes fault refl n s p
is_outcome path (entries.Bytes bytes) config number outcome (inr (n, inr (ts, cs, a, r, j, p))) =
    outcome_after path bytes config number outcome n ts cs r a j p

-- each outcome is found
pub is_found : (path : List ℕ) (entry : Entry) (config : Config) (number : ℕ)
    (outcome : Outcome) → IsOutcomeOf path entry config number outcome
    → IsFoundOutcome path entry config number outcome
is_found path entry config number outcome o =
    let at : (e : Entry) → entry ≡ e → IsFoundOutcome path e config number outcome
    → IsFoundOutcome path entry config number outcome =
    λ e same p. subst (λ x. IsFoundOutcome path x config number outcome) (sym same) p in
    elim o [
      | unread e p ↦ at entries.Unread e p
      | large e p ↦ at entries.Large e p
      | oversized bytes e n p ↦ at (entries.Bytes bytes) e (inl (n, p))
      | unreadable bytes fault e n s p ↦ at (entries.Bytes bytes) e (inr (n, inl (fault, s, p)))
      | bad_build_line bytes tokens comments line r p ↦ at (entries.Bytes bytes) r.entry_is
          (inr (
            r.small,
            inr (
              tokens,
              comments,
              admissions.BadBuildLine line,
              r.reads,
              r.admitted,
              p,
            ),
          ))
      | ignored bytes tokens comments why r p ↦ at (entries.Bytes bytes) r.entry_is
          (inr (r.small, inr (tokens, comments, admissions.Ignored why, r.reads, r.admitted, p)))
      | misspelled bytes tokens comments fault r s p ↦ at (entries.Bytes bytes) r.entry_is
          (inr (
            r.small,
            inr (
              tokens,
              comments,
              admissions.Admitted,
              r.reads,
              r.admitted,
              inl (fault, s, p),
            ),
          ))
      | accepted bytes tokens comments file r s p ↦ at (entries.Bytes bytes) r.entry_is
          (inr (
            r.small,
            inr (
              tokens,
              comments,
              admissions.Admitted,
              r.reads,
              r.admitted,
              inr (file, s, p),
            ),
          ))
    ]
