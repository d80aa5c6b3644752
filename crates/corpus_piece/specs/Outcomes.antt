-- Cited by public clauses. What becomes of a file of a tree: a fault, excluded, or its one file.
-- The project's own, over the definitions of readings, build lines and declarations.
use Rattle.std.specs.Prelude.{◌≡◌, ℕ, ◌<◌, ◌≤◌, List, length}
use Rattle.build_lines.specs.declared.admission.Admission.{Admission}
use Rattle.build_lines.specs.declared.admission.Admission.TheVariants as admissions
use Rattle.build_lines.specs.declared.admission.Why.{Why}
use Rattle.build_lines.specs.Admissions.{IsAdmission}
use Rattle.go_ast.specs.declared.config.Config.{Config}
use Rattle.go_ast.specs.declared.declaration.File.{File}
use Rattle.go_ast.specs.declared.fault.Fault.{Fault}
use Rattle.go_ast.specs.declared.fault.Fault.TheVariants as faults
use Rattle.go_ast.specs.declared.token.Comment.{Comment}
use Rattle.tree_io.specs.Sources.{file_limit}
use Rattle.go_ast.specs.declared.token.Token.{Token}
use Rattle.go_ast.specs.Files.{FileFault, SpellsFile}
use Rattle.go_ast.specs.Position.{line_starts}
use Rattle.go_ast.specs.Reading.{Reads, ScanFault}
use Rattle.ident_index.specs.Hits.{hits_of}
use Rattle.tree_io.specs.declared.tree.Entry.{Entry}
use Rattle.tree_io.specs.declared.tree.Entry.TheVariants as entries
use Rattle.corpus_piece.specs.declared.outcome.Outcome.{Outcome}
use Rattle.corpus_piece.specs.declared.outcome.Outcome.TheVariants.{Ignored, Faulty, Accepted}
use Rattle.corpus_piece.specs.declared.outcome.Parsed.{Parsed}

-- what is read in a source with these tokens and comments, which spell this file: its lines and its
-- hits too, under the number of the file
abbrev pub parsed_of : List ℕ → List Token → List Comment → File → ℕ → Parsed
parsed_of bytes tokens comments file number = record {
  scanned = record { tokens = tokens; comments = comments; lines = line_starts bytes };
  file = file;
  hits = hits_of bytes tokens file number;
}

-- the file has these bytes, no more than a source may have, which are read so, and this is what its
-- name and its build lines say
pub record IsReadFor (path : List ℕ) (entry : Entry) (config : Config) (bytes : List ℕ)
    (tokens : List Token) (comments : List Comment) (admission : Admission) : Type 0 where
  pub entry_is : entry ≡ entries.Bytes bytes
  pub small : length bytes ≤ file_limit
  pub reads : Reads bytes tokens comments
  pub admitted : IsAdmission path bytes tokens comments config admission

-- of a file at a path, by what a scan of the tree has of it, for a configuration and under a
-- number.
-- Each line holds where none above it does
pub data IsOutcomeOf (path : List ℕ) (entry : Entry) (config : Config) (number : ℕ)
    (outcome : Outcome) : Type 0 where
  unread : entry ≡ entries.Unread → outcome ≡ Faulty faults.Unread
      → IsOutcomeOf path entry config number outcome
  large : entry ≡ entries.Large → outcome ≡ Faulty faults.FileTooLarge
      → IsOutcomeOf path entry config number outcome
  oversized : (bytes : List ℕ) → entry ≡ entries.Bytes bytes → file_limit < length bytes
      → outcome ≡ Faulty faults.FileTooLarge → IsOutcomeOf path entry config number outcome
  unreadable : (bytes : List ℕ) (fault : Fault) → entry ≡ entries.Bytes bytes
      → length bytes ≤ file_limit → ScanFault bytes fault → outcome ≡ Faulty fault
      → IsOutcomeOf path entry config number outcome
  bad_build_line : (bytes : List ℕ) (tokens : List Token) (comments : List Comment) (line : ℕ)
      → IsReadFor path entry config bytes tokens comments (admissions.BadBuildLine line)
      → outcome ≡ Faulty (faults.BadBuildLine line) → IsOutcomeOf path entry config number outcome
  ignored : (bytes : List ℕ) (tokens : List Token) (comments : List Comment) (why : Why)
      → IsReadFor path entry config bytes tokens comments (admissions.Ignored why)
      → outcome ≡ Ignored why → IsOutcomeOf path entry config number outcome
  misspelled : (bytes : List ℕ) (tokens : List Token) (comments : List Comment) (fault : Fault)
      → IsReadFor path entry config bytes tokens comments admissions.Admitted
      → FileFault bytes tokens fault → outcome ≡ Faulty fault
      → IsOutcomeOf path entry config number outcome
  accepted : (bytes : List ℕ) (tokens : List Token) (comments : List Comment) (file : File)
      → IsReadFor path entry config bytes tokens comments admissions.Admitted
      → SpellsFile bytes tokens file
      → outcome ≡ Accepted (parsed_of bytes tokens comments file number)
      → IsOutcomeOf path entry config number outcome
