-- A file has an outcome and no other, by the laws of readings, build lines and declarations.
use Rattle.std.proofs.Common.{◌≡◌, ◌∙◌, ap, refl, sym, subst, arith, ℕ, ◌≤◌, Bool, true, List, []}
use Rattle.std.proofs.Common.{◌∷◌, length, ◌⊎◌, inl, inr, ⊎_elim}
use Rattle.std.proofs.lemmas.Bool.{cases_lt}
use Rattle.build_lines.specs.declared.admission.Admission.{Admission}
use Rattle.build_lines.specs.declared.admission.Admission.TheVariants as admissions
use Rattle.build_lines.specs.Admissions.{IsAdmission, IsJudgedBy, judged}
use Rattle.build_lines.specs.BuildLines.{build_lines, expression_text}
use Rattle.build_lines.specs.Expressions.{Expression, IsMalformed, Spells, value}
use Rattle.build_lines.specs.FileNames.{name_admits}
use Rattle.build_lines.specs.Tags.{holds}
use Rattle.go_ast.specs.declared.config.Config.{Config}
use Rattle.go_ast.specs.declared.declaration.File.{File}
use Rattle.go_ast.specs.declared.fault.Fault.{Fault}
use Rattle.go_ast.specs.declared.fault.Fault.TheVariants as faults
use Rattle.go_ast.specs.declared.token.Comment.{Comment}
use Rattle.tree_io.specs.Sources.{file_limit}
use Rattle.go_ast.specs.declared.token.Token.{Token}
use Rattle.go_ast.specs.Files.{FileFault, SpellsFile}
use Rattle.go_ast.specs.Position.{line_of}
use Rattle.go_ast.specs.Reading.{Reads, ScanFault}
use Rattle.go_scanner.specs.Results.{IsFaulty, IsRead}
use Rattle.tree_io.specs.declared.tree.Entry.{Entry}
use Rattle.tree_io.specs.declared.tree.Entry.TheVariants as entries
use Rattle.corpus_piece.specs.declared.outcome.Outcome.{Outcome}
use Rattle.corpus_piece.specs.declared.outcome.Outcome.TheVariants.{Ignored, Faulty, Accepted}
use Rattle.corpus_piece.specs.Outcomes.{IsOutcomeOf, parsed_of}
use Rattle.corpus_piece.specs.Steps.{IsFoundOutcome, IsOutcomeAfter, IsOutcomeOfBytes}
use Rattle.corpus_piece.specs.Steps.{IsOutcomeOfTokens}
use Rattle.corpus_piece.proofs.OutcomeSteps.{is_found, is_outcome}

-- the laws of the crates below, as their calls give them
pub record Laws : Type 0 where
  pub read_or_faulty : (bytes : List ℕ) → IsRead bytes ⊎ IsFaulty bytes
  pub file_or_faulty : (bytes : List ℕ) (tokens : List Token)
      → ((file : File) × SpellsFile bytes tokens file)
      ⊎ ((fault : Fault) × FileFault bytes tokens fault)
  pub one_expression : (bytes : List ℕ) (x y : Expression) → Spells bytes x → Spells bytes y → x ≡ y
  pub one_reading : (bytes : List ℕ) (tokens all : List Token) (comments every : List Comment)
      → Reads bytes tokens comments → Reads bytes all every → (tokens ≡ all) × (comments ≡ every)
  pub one_scan_fault : (bytes : List ℕ) (x y : Fault) → ScanFault bytes x → ScanFault bytes y
      → x ≡ y
  pub read_not_faulty : (bytes : List ℕ) (tokens : List Token) (comments : List Comment)
      (fault : Fault) → Reads bytes tokens comments → ScanFault bytes fault → ⊥
  pub one_file : (bytes : List ℕ) (tokens : List Token) (x y : File) → SpellsFile bytes tokens x
      → SpellsFile bytes tokens y → x ≡ y
  pub one_file_fault : (bytes : List ℕ) (tokens : List Token) (x y : Fault)
      → FileFault bytes tokens x → FileFault bytes tokens y → x ≡ y
  pub file_not_faulty : (bytes : List ℕ) (tokens : List Token) (file : File) (fault : Fault)
      → SpellsFile bytes tokens file → FileFault bytes tokens fault → ⊥

module _ (laws : Laws) where
  one_judgement : (bytes : List ℕ) (config : Config) (by_name : Bool) (lines : List Comment)
      (x y : Admission) → IsJudgedBy bytes config by_name lines x
      → IsJudgedBy bytes config by_name lines y → x ≡ y
  one_judgement bytes config by_name [] x y p q = p ∙ sym q
  one_judgement bytes config by_name (line ∷ []) x y (inl (m, p)) (inl (n, q)) = p ∙ sym q
  one_judgement bytes config by_name (line ∷ []) x y (inl (m, p)) (inr (e, s, q)) = absurd (m e s)
  one_judgement bytes config by_name (line ∷ []) x y (inr (d, r, p)) (inl (n, q)) = absurd (n d r)
  one_judgement bytes config by_name (line ∷ []) x y (inr (d, r, p)) (inr (e, s, q)) =
      p ∙ ap (λ f. judged by_name (value (holds config) f)) (laws.one_expression _ d e r s) ∙ sym q
  one_judgement bytes config by_name (line ∷ second ∷ lines) x y (inl (m, p)) (inl (n, q)) =
      p ∙ sym q
  one_judgement bytes config by_name (line ∷ second ∷ lines) x y (inl (m, p)) (inr (e, s, q)) =
      absurd (m e s)
  one_judgement bytes config by_name (line ∷ second ∷ lines) x y (inr (d, r, p)) (inl (n, q)) =
      absurd (n d r)
  one_judgement bytes config by_name (line ∷ second ∷ lines) x y (inr (d, r, p)) (inr (e, s, q)) =
      p ∙ sym q

  one_of_tokens : (bytes : List ℕ) (tokens : List Token) (comments : List Comment) (number : ℕ)
      (x y : Outcome) → IsOutcomeOfTokens bytes tokens comments number x
      → IsOutcomeOfTokens bytes tokens comments number y → x ≡ y
  one_of_tokens bytes tokens comments number x y (inl (f, r, p)) (inl (g, s, q)) =
      p ∙ ap Faulty (laws.one_file_fault bytes tokens f g r s) ∙ sym q
  one_of_tokens bytes tokens comments number x y (inl (f, r, p)) (inr (g, s, q)) =
      absurd (laws.file_not_faulty bytes tokens g f s r)
  one_of_tokens bytes tokens comments number x y (inr (f, r, p)) (inl (g, s, q)) =
      absurd (laws.file_not_faulty bytes tokens f g r s)
  one_of_tokens bytes tokens comments number x y (inr (f, r, p)) (inr (g, s, q)) =
      p ∙ ap (λ file. Accepted (parsed_of bytes tokens comments file number))
      (laws.one_file bytes tokens f g r s) ∙ sym q

  one_after : (admission : Admission) (bytes : List ℕ) (tokens : List Token)
      (comments : List Comment) (number : ℕ) (x y : Outcome)
      → IsOutcomeAfter admission bytes tokens comments number x
      → IsOutcomeAfter admission bytes tokens comments number y → x ≡ y
  one_after (admissions.BadBuildLine line) bytes tokens comments number x y p q = p ∙ sym q
  one_after (admissions.Ignored why) bytes tokens comments number x y p q = p ∙ sym q
  one_after admissions.Admitted bytes tokens comments number x y p q =
      one_of_tokens bytes tokens comments number x y p q

  one_of_bytes : (path bytes : List ℕ) (config : Config) (number : ℕ) (x y : Outcome)
      → IsOutcomeOfBytes path bytes config number x → IsOutcomeOfBytes path bytes config number y
      → x ≡ y
  one_of_bytes path bytes config number x y (inl (f, r, p)) (inl (g, s, q)) =
      p ∙ ap Faulty (laws.one_scan_fault bytes f g r s) ∙ sym q
  one_of_bytes path bytes config number x y (inl (f, r, p)) (inr (us, ds, b, s, k, q)) =
      absurd (laws.read_not_faulty bytes us ds f s r)
  one_of_bytes path bytes config number x y (inr (ts, cs, a, r, j, p)) (inl (g, s, q)) =
      absurd (laws.read_not_faulty bytes ts cs g r s)
  one_of_bytes path bytes config number x y (inr (ts, cs, a, r, j, p)) (inr (us, ds, b, s, k, q)) =
      let (tokens, comments) = laws.one_reading bytes ts us cs ds r s in
      let same : a ≡ b = one_judgement bytes config (name_admits config path)
      (build_lines bytes us ds) a b
      (subst (λ vs. IsAdmission path bytes us vs config a) comments
      (subst (λ vs. IsAdmission path bytes vs cs config a) tokens j)) k in
      one_after b bytes us ds number x y
      (subst (λ c. IsOutcomeAfter c bytes us ds number x) same
      (subst (λ vs. IsOutcomeAfter a bytes us vs number x) comments
      (subst (λ vs. IsOutcomeAfter a bytes vs cs number x) tokens p))) q

  one_found : (path : List ℕ) (entry : Entry) (config : Config) (number : ℕ) (x y : Outcome)
      → IsFoundOutcome path entry config number x → IsFoundOutcome path entry config number y → x
      ≡ y
  one_found path entries.Unread config number x y p q = p ∙ sym q
  one_found path entries.Large config number x y p q = p ∙ sym q
  one_found path (entries.Bytes bytes) config number x y (inl (m, p)) (inl (n, q)) = p ∙ sym q
  one_found path (entries.Bytes bytes) config number x y (inl (m, p)) (inr (n, q)) =
      absurd (omega arith)
  one_found path (entries.Bytes bytes) config number x y (inr (m, p)) (inl (n, q)) =
      absurd (omega arith)
  one_found path (entries.Bytes bytes) config number x y (inr (m, p)) (inr (n, q)) =
      one_of_bytes path bytes config number x y p q

  pub one_outcome : (path : List ℕ) (entry : Entry) (config : Config) (number : ℕ) (x y : Outcome)
      → IsOutcomeOf path entry config number x → IsOutcomeOf path entry config number y → x ≡ y
  one_outcome path entry config number x y p q =
      one_found path entry config number x y (is_found path entry config number x p)
      (is_found path entry config number y q)

  -- that no build line gives an admission can't be
  some_judgement : (bytes : List ℕ) (config : Config) (by_name : Bool) (lines : List Comment)
      → ((x : Admission) → IsJudgedBy bytes config by_name lines x → ⊥) → ⊥
  some_judgement bytes config by_name [] none = none (judged by_name true) refl
  some_judgement bytes config by_name (line ∷ []) none =
      let malformed : IsMalformed (expression_text bytes line) =
      λ e s. none (judged by_name (value (holds config) e)) (inr (e, s, refl)) in
      none (admissions.BadBuildLine (line_of bytes line.span.start)) (inl (malformed, refl))
  some_judgement bytes config by_name (line ∷ second ∷ lines) none =
      let malformed : IsMalformed (expression_text bytes line) =
      λ e s. none (admissions.BadBuildLine (line_of bytes second.span.start))
      (inr (e, s, refl)) in
      none (admissions.BadBuildLine (line_of bytes line.span.start)) (inl (malformed, refl))

  some_of_tokens : (bytes : List ℕ) (tokens : List Token) (comments : List Comment) (number : ℕ)
      → (x : Outcome) × IsOutcomeOfTokens bytes tokens comments number x
  some_of_tokens bytes tokens comments number =
      ⊎_elim
      (λ f. (Accepted (parsed_of bytes tokens comments f.0 number), inr (f.0, f.1, refl)))
      (λ f. (Faulty f.0, inl (f.0, f.1, refl)))
      (laws.file_or_faulty bytes tokens)

  some_after : (admission : Admission) (bytes : List ℕ) (tokens : List Token)
      (comments : List Comment) (number : ℕ)
      → (x : Outcome) × IsOutcomeAfter admission bytes tokens comments number x
  some_after (admissions.BadBuildLine line) bytes tokens comments number =
      (Faulty (faults.BadBuildLine line), refl)
  some_after (admissions.Ignored why) bytes tokens comments number = (Ignored why, refl)
  some_after admissions.Admitted bytes tokens comments number =
      some_of_tokens bytes tokens comments number

  some_of_bytes : (path bytes : List ℕ) (config : Config) (number : ℕ)
      → ((x : Outcome) → IsOutcomeOfBytes path bytes config number x → ⊥) → ⊥
  some_of_bytes path bytes config number none =
      ⊎_elim
      (λ (ts, cs, r). some_judgement bytes config (name_admits config path)
      (build_lines bytes ts cs)
      (λ a j. let x = some_after a bytes ts cs number in
      none x.0 (inr (ts, cs, a, r, j, x.1))))
      (λ f. none (Faulty f.0) (inl (f.0, f.1, refl)))
      (laws.read_or_faulty bytes)

  some_found : (path : List ℕ) (entry : Entry) (config : Config) (number : ℕ)
      → ((x : Outcome) → IsFoundOutcome path entry config number x → ⊥) → ⊥
  some_found path entries.Unread config number none = none (Faulty faults.Unread) refl
  some_found path entries.Large config number none = none (Faulty faults.FileTooLarge) refl
  some_found path (entries.Bytes bytes) config number none =
      let small : length bytes ≤ file_limit =
      ⊎_elim (λ l. absurd (none (Faulty faults.FileTooLarge) (inl (l, refl)))) (λ l. l)
      (cases_lt file_limit (length bytes)) in
      some_of_bytes path bytes config number (λ x p. none x (inr (small, p)))

  pub some_outcome : (path : List ℕ) (entry : Entry) (config : Config) (number : ℕ)
      → ((x : Outcome) → IsOutcomeOf path entry config number x → ⊥) → ⊥
  some_outcome path entry config number none =
      some_found path entry config number
      (λ x p. none x (is_outcome path entry config number x p))
