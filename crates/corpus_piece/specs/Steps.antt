-- Cited by private clauses and proofs. The outcome of a file as it is found: by its entry, its
-- bytes, its reading, and its tokens.
use Rattle.std.specs.Prelude.{◌≡◌, ◌⊎◌, ℕ, ◌<◌, ◌≤◌, List, length}
use Rattle.build_lines.specs.declared.admission.Admission.{Admission}
use Rattle.build_lines.specs.declared.admission.Admission.TheVariants as admissions
use Rattle.build_lines.specs.Admissions.{IsAdmission}
use Rattle.go_ast.specs.declared.config.Config.{Config}
use Rattle.go_ast.specs.declared.declaration.File.{File}
use Rattle.go_ast.specs.declared.fault.Fault.{Fault}
use Rattle.go_ast.specs.declared.fault.Fault.TheVariants as faults
use Rattle.go_ast.specs.declared.token.Comment.{Comment}
use Rattle.tree_io.specs.Sources.{file_limit}
use Rattle.go_ast.specs.declared.token.Token.{Token}
use Rattle.go_ast.specs.Files.{FileFault, SpellsFile}
use Rattle.go_ast.specs.Reading.{Reads, ScanFault}
use Rattle.tree_io.specs.declared.tree.Entry.{Entry}
use Rattle.tree_io.specs.declared.tree.Entry.TheVariants as entries
use Rattle.corpus_piece.specs.declared.outcome.Outcome.{Outcome}
use Rattle.corpus_piece.specs.declared.outcome.Outcome.TheVariants.{Ignored, Faulty, Accepted}
use Rattle.corpus_piece.specs.Outcomes.{parsed_of}

-- of a source that is read so and let in: the fault of its tokens, or else the file that they spell
abbrev pub IsOutcomeOfTokens : List ℕ → List Token → List Comment → ℕ → Outcome → Type 0
IsOutcomeOfTokens bytes tokens comments number outcome =
    ((fault : Fault) × FileFault bytes tokens fault × (outcome ≡ Faulty fault))
    ⊎ ((file : File) × SpellsFile bytes tokens file
    × (outcome ≡ Accepted (parsed_of bytes tokens comments file number)))

-- of a source that is read so, after what its build lines and its name say
abbrev pub IsOutcomeAfter : Admission → List ℕ → List Token → List Comment → ℕ → Outcome → Type 0
IsOutcomeAfter (admissions.BadBuildLine line) bytes tokens comments number outcome =
    outcome ≡ Faulty (faults.BadBuildLine line)
IsOutcomeAfter (admissions.Ignored why) bytes tokens comments number outcome = outcome ≡ Ignored why
IsOutcomeAfter admissions.Admitted bytes tokens comments number outcome =
    IsOutcomeOfTokens bytes tokens comments number outcome

-- of the bytes of a file at a path: the fault of a source that has no reading comes before all that
-- is said of tokens
abbrev pub IsOutcomeOfBytes : List ℕ → List ℕ → Config → ℕ → Outcome → Type 0
IsOutcomeOfBytes path bytes config number outcome =
    ((fault : Fault) × ScanFault bytes fault × (outcome ≡ Faulty fault))
    ⊎ ((tokens : List Token) × (comments : List Comment) × (admission : Admission)
    × Reads bytes tokens comments × IsAdmission path bytes tokens comments config admission
    × IsOutcomeAfter admission bytes tokens comments number outcome)

-- of a file at a path, by what a scan of the tree has of it
abbrev pub IsFoundOutcome : List ℕ → Entry → Config → ℕ → Outcome → Type 0
IsFoundOutcome path entries.Unread config number outcome = outcome ≡ Faulty faults.Unread
IsFoundOutcome path entries.Large config number outcome = outcome ≡ Faulty faults.FileTooLarge
IsFoundOutcome path (entries.Bytes bytes) config number outcome =
    ((file_limit < length bytes) × (outcome ≡ Faulty faults.FileTooLarge))
    ⊎ ((length bytes ≤ file_limit) × IsOutcomeOfBytes path bytes config number outcome)
