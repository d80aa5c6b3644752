-- The files that a corpus keeps: each stands at its number among all files, and was read.
use Rattle.std.proofs.Common.{◌≡◌, ℕ, ◌<◌, Bool, true, false, List, [], ◌∷◌, Option, Some, None}
use Rattle.std.proofs.Common.{All, length, get_or, refl, sym, ap, subst, ◌∙◌}
use Rattle.std.specs.Prelude.{IfSome, slice_get}
use Rattle.std.specs.List.{cons_option, filter_map}
use Rattle.std.proofs.lemmas.List.Elements.{All-cons, All-filter, All-head, All-nil, All-tail}
use Rattle.std.proofs.lemmas.Option.{slice_get-get_or}
use Rattle.corpus_piece.specs.declared.outcome.Outcome.{Outcome}
use Rattle.corpus_piece.specs.declared.outcome.Outcome.TheVariants.{Accepted, Faulty, Ignored}
use Rattle.corpus_piece.specs.Pieces.{IsJudged, JudgedFile}
use Rattle.corpus.specs.declared.tables.Tables.{Tables}
use Rattle.corpus.specs.Corpora.{AcceptedFile, AreFilesOf, IsCorpusOf, accepted, accepted_file}
use Rattle.corpus.specs.Corpora.{bytes_in, fault_as, is_kept, kept, other_package}
use Rattle.corpus.specs.declared.faults.FileFault.{FileFault}
use Rattle.corpus.specs.Snapshots.{SourceSet}
use Rattle.corpus.proofs.Inputs.{length-files, number_at}
use Rattle.corpus.proofs.Numbers.{All-accepted}
use Rattle.corpus.proofs.ReadFiles.{IsRead, read_file}

-- an accepted file among all files, and what was read in it
pub record IsAcceptedIn (all : List JudgedFile) (a : AcceptedFile) : Type 0 where
  pub file : JudgedFile
  pub at : slice_get all a.number ≡ Some file
  pub path_is : file.path ≡ a.path
  pub bytes_are : bytes_in file.entry ≡ a.bytes
  pub outcome_is : file.outcome ≡ Accepted a.parsed
  pub read : IsRead a

module _ (s : SourceSet) (files : List JudgedFile) (are : AreFilesOf s files) where
  -- each file stands at its number
  stand : All (λ f. slice_get files f.number ≡ Some f) files
  stand i d below = ap (slice_get files) (number_at s files are i d below)
      ∙ slice_get-get_or files i d below

  -- each file that is kept is an accepted one
  pub kept_are_accepted : All IsJudged files → All (IsAcceptedIn files) (kept files)
  kept_are_accepted judged =
      All-filter (is_kept files) (IsAcceptedIn files) (accepted files)
      (All-accepted (IsAcceptedIn files) files (λ i d below parsed outcome. record {
        file = get_or files i d;
        at = stand i d below;
        path_is = refl;
        bytes_are = refl;
        outcome_is = outcome;
        read = read_file (get_or files i d) parsed (judged i d below) outcome;
      }))

-- ---- faults

module _ (all : List JudgedFile) (n : ℕ) where
  abbrev InRange : FileFault → Type 0
  InRange fault = fault.file < n

  beside_in_range : (own : Bool) (a : AcceptedFile) → a.number < n
      → IfSome (other_package own a) InRange
  beside_in_range true a h = tt
  beside_in_range false a h = h

  fault_in_range : (f : JudgedFile) (outcome : Outcome) → f.number < n
      → IfSome (fault_as all f outcome) InRange
  fault_in_range f (Faulty fault) h = h
  fault_in_range f (Accepted parsed) h = beside_in_range (is_kept all (accepted_file f parsed))
      (accepted_file f parsed) h
  fault_in_range f (Ignored why) h = tt

  with_fault : (fault : Option FileFault) (rest : List FileFault) → IfSome fault InRange
      → All InRange rest → All InRange (cons_option fault rest)
  with_fault None rest h others = others
  with_fault (Some fault) rest h others = All-cons InRange fault rest h others

  in_range : (files : List JudgedFile) → All (λ f. f.number < n) files
      → All InRange (filter_map (λ f. fault_as all f f.outcome) files)
  in_range [] h = All-nil InRange
  in_range (f ∷ fs) h =
      with_fault (fault_as all f f.outcome) (filter_map (λ f. fault_as all f f.outcome) fs)
      (fault_in_range f f.outcome (All-head (λ f. f.number < n) f fs h))
      (in_range fs (All-tail (λ f. f.number < n) f fs h))

-- the numbers in the faults of a corpus are those of its sources
pub faults_in_range : (s : SourceSet) (t : Tables) → IsCorpusOf s t
    → All (λ fault. fault.file < length s.entries) t.faults
faults_in_range s t tables =
    subst (All (λ fault. fault.file < length s.entries)) (sym tables.faults)
    (in_range t.files (length s.entries) t.files
    (λ i d below. rw (number_at s t.files tables.files i d below)
    (rw (← length-files s t.files tables.files) below)))
