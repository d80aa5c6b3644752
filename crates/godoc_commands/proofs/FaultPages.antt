-- What the fault of a file says of its page.
use Rattle.std.proofs.Common.{◌≡◌, ℕ, suc, ◌+◌, ◌-◌, ◌≤◌, Bool, true, false, List, [], ◌∷◌, Option}
use Rattle.std.proofs.Common.{Some, None, All, inl, inr, length, map, refl, sym, ap, subst, ◌∙◌}
use Rattle.std.proofs.Common.{arith}
use Rattle.std.specs.Prelude.{IfSome, slice_get, unwrap_or}
use Rattle.std.specs.List.{cons_option, enumerate_from, filter_map}
use Rattle.std.specs.Str.{IsUtf8, IsValidUpTo, is_utf8}
use Rattle.std.proofs.lemmas.List.{take_all}
use Rattle.std.proofs.lemmas.List.Elements.{All-cons, All-head, All-nil, All-tail, All-weaker}
use Rattle.std.proofs.lemmas.Str.{IsUtf8-from_is_utf8, is_utf8-from_IsUtf8}
use Rattle.go_ast.specs.declared.config.Config.{Config}
use Rattle.go_ast.specs.declared.fault.Fault.{Fault}
use Rattle.go_ast.specs.declared.fault.Fault.TheVariants as kinds
use Rattle.go_ast.specs.declared.token.Token.{Token}
use Rattle.go_ast.specs.Files.{FileFault as FileFaultOf}
use Rattle.go_ast.specs.Reading.{ScanFault}
use Rattle.tree_io.specs.declared.tree.Entry.{Entry}
use Rattle.tree_io.specs.declared.tree.Entry.TheVariants as entries
use Rattle.corpus_piece.specs.declared.outcome.Outcome.{Outcome}
use Rattle.corpus_piece.specs.declared.outcome.Outcome.TheVariants.{Accepted, Faulty, Ignored}
use Rattle.corpus_piece.specs.declared.outcome.Parsed.{Parsed}
use Rattle.corpus_piece.specs.Accepted.{IsAccepted}
use Rattle.corpus_piece.specs.Outcomes.{IsOutcomeOf, unread, large, oversized, unreadable}
use Rattle.corpus_piece.specs.Outcomes.{bad_build_line, ignored, misspelled, accepted}
use Rattle.corpus_piece.specs.Pieces.{IsJudged, JudgedFile}
use Rattle.corpus_piece.proofs.OutcomeLaws.{accepted_read}
use Rattle.corpus.specs.Corpora.{AcceptedFile, Input, IsCorpusOf, accepted_file, fault_as, input_of}
use Rattle.corpus.specs.Corpora.{is_kept, other_package}
use Rattle.corpus.specs.declared.faults.FileFault.{FileFault}
use Rattle.corpus.specs.declared.tables.Tables.{Tables}
use Rattle.corpus.specs.Snapshots.{SourceSet}
use Rattle.godoc_commands.specs.Pages.{SaysPage, entry_at, has_page}

not_true : (b : Bool) → (b ≡ true → ⊥) → b ≡ false
not_true true f = absurd (f refl)
not_true false f = refl

-- bytes that are UTF-8 up to a place before their end aren't UTF-8
not_utf8 : (bytes : List ℕ) (offset : ℕ) → IsValidUpTo bytes offset → is_utf8 bytes ≡ false
not_utf8 bytes offset valid =
    not_true (is_utf8 bytes) (λ t. valid.longest (length bytes) valid.short
    (subst IsUtf8 (sym (take_all (length bytes) bytes (omega arith)))
    (IsUtf8-from_is_utf8 bytes t)))

-- ---- the fault of an outcome

scan_says : (bytes : List ℕ) (fault : Fault) → ScanFault bytes fault
    → SaysPage fault (entries.Bytes bytes)
scan_says bytes (kinds.NotUtf8 offset) h = not_utf8 bytes offset h
scan_says bytes (kinds.BadToken offset) h = is_utf8-from_IsUtf8 bytes h.0
scan_says bytes (kinds.OpenComment offset) h = is_utf8-from_IsUtf8 bytes h.0
scan_says bytes (kinds.OpenString offset) h = is_utf8-from_IsUtf8 bytes h.0
scan_says bytes (kinds.Unbalanced offset) h = absurd h
scan_says bytes kinds.NoPackageClause h = absurd h
scan_says bytes (kinds.BadDeclaration number line) h = absurd h
scan_says bytes (kinds.OtherPackage name) h = absurd h
scan_says bytes kinds.FileTooLarge h = tt
scan_says bytes kinds.Unread h = tt
scan_says bytes (kinds.BadBuildLine line) h = absurd h

file_says : (bytes : List ℕ) (tokens : List Token) (fault : Fault) → IsUtf8 bytes
    → FileFaultOf bytes tokens fault → SaysPage fault (entries.Bytes bytes)
file_says bytes tokens (kinds.NotUtf8 offset) u h = absurd h
file_says bytes tokens (kinds.BadToken offset) u h = absurd h
file_says bytes tokens (kinds.OpenComment offset) u h = absurd h
file_says bytes tokens (kinds.OpenString offset) u h = absurd h
file_says bytes tokens (kinds.Unbalanced offset) u h = is_utf8-from_IsUtf8 bytes u
file_says bytes tokens kinds.NoPackageClause u h = is_utf8-from_IsUtf8 bytes u
file_says bytes tokens (kinds.BadDeclaration number line) u h = is_utf8-from_IsUtf8 bytes u
file_says bytes tokens (kinds.OtherPackage name) u h = absurd h
file_says bytes tokens kinds.FileTooLarge u h = tt
file_says bytes tokens kinds.Unread u h = tt
file_says bytes tokens (kinds.BadBuildLine line) u h = absurd h

module _ (entry : Entry) (fault : Fault) where
  carried : (other : Fault) → Faulty fault ≡ Faulty other → SaysPage other entry
      → SaysPage fault entry
  carried other same h =
      let is : fault ≡ other = cc in
      subst (λ f. SaysPage f entry) (sym is) h

outcome_says : (path : List ℕ) (entry : Entry) (config : Config) (number : ℕ) (fault : Fault)
    → IsOutcomeOf path entry config number (Faulty fault) → SaysPage fault entry
outcome_says path entry config number fault (unread e p) = carried entry fault kinds.Unread p tt
outcome_says path entry config number fault (large e p) =
    carried entry fault kinds.FileTooLarge p tt
outcome_says path entry config number fault (oversized bytes e n p) =
    carried entry fault kinds.FileTooLarge p tt
outcome_says path entry config number fault (unreadable bytes f e n s p) =
    carried entry fault f p (subst (SaysPage f) (sym e) (scan_says bytes f s))
outcome_says path entry config number fault (bad_build_line bytes tokens comments line r p) =
    carried entry fault (kinds.BadBuildLine line) p
    (subst (SaysPage (kinds.BadBuildLine line)) (sym r.entry_is)
    (is_utf8-from_IsUtf8 bytes r.reads.utf8))
outcome_says path entry config number fault (ignored bytes tokens comments why r p) = cc
outcome_says path entry config number fault (misspelled bytes tokens comments f r s p) =
    carried entry fault f p
    (subst (SaysPage f) (sym r.entry_is) (file_says bytes tokens f r.reads.utf8 s))
outcome_says path entry config number fault (accepted bytes tokens comments file r s p) = cc

-- an accepted file has a page
accepted_has_page : (entry : Entry) (number : ℕ) (parsed : Parsed) → IsAccepted entry number parsed
    → has_page entry ≡ true
accepted_has_page entry number parsed a =
    ap has_page a.entry_is ∙ is_utf8-from_IsUtf8 a.bytes a.reads.utf8

-- ---- the files of a corpus

abbrev Source : Type 0
Source = List ℕ × Entry

-- what a scan has of each file stands at its number, which is counted from a place on
abbrev IsAt : List Source → ℕ → JudgedFile → Type 0
IsAt sources from f =
    (from ≤ f.number)
    × (slice_get (map (λ (s : Source). s.1) sources) (f.number - from) ≡ Some f.entry)

one_later : (source : Source) (sources : List Source) (from : ℕ) (f : JudgedFile)
    → IsAt sources (from + 1) f → IsAt (source ∷ sources) from f
one_later source sources from f (later, at) =
    let next : f.number - from ≡ suc (f.number - (from + 1)) = omega arith in
    (omega arith, ap (slice_get (map (λ (s : Source). s.1) (source ∷ sources))) next ∙ at)

module _ (config : Config) where
  files_stand : (files : List JudgedFile) (sources : List Source) (from : ℕ)
      → map input_of files
      ≡ map (λ (e : ℕ × Source). (e.1.0, e.1.1, config, e.0)) (enumerate_from from sources)
      → All (IsAt sources from) files
  files_stand [] sources from same = All-nil (IsAt sources from)
  files_stand (f ∷ fs) [] from same = cc
  files_stand (f ∷ fs) (s ∷ ss) from same =
      let head : input_of f ≡ (s.0, s.1, config, from) = cc in
      let number : f.number ≡ from = ap (λ (t : Input). t.3) head in
      let entry : f.entry ≡ s.1 = ap (λ (t : Input). t.1) head in
      let first : f.number - from ≡ 0 = omega (arith, number) in
      All-cons (IsAt (s ∷ ss) from) f fs (
        omega (arith, number),
        ap (slice_get (map (λ (s : Source). s.1) (s ∷ ss))) first ∙ ap Some (sym entry),
      )
      (All-weaker (IsAt ss (from + 1)) (IsAt (s ∷ ss) from) (one_later s ss from) fs
      (files_stand fs ss (from + 1) cc))

-- ---- the faults of a corpus

module _ (all : List JudgedFile) (sources : List Source) where
  abbrev Says : FileFault → Type 0
  Says fault = SaysPage fault.fault (entry_at sources fault.file)

  at_number : (f : JudgedFile) → IsAt sources 0 f → entry_at sources f.number ≡ f.entry
  at_number f (later, at) =
      let whole : f.number ≡ f.number - 0 = omega arith in
      ap (λ o. unwrap_or o entries.Unread)
      (ap (slice_get (map (λ (s : Source). s.1) sources)) whole ∙ at)

  beside_says : (own : Bool) (a : AcceptedFile) → has_page (entry_at sources a.number) ≡ true
      → IfSome (other_package own a) Says
  beside_says true a h = tt
  beside_says false a h = h

  fault_says : (f : JudgedFile) (outcome : Outcome) → IsAt sources 0 f
      → IsOutcomeOf f.path f.entry f.config f.number outcome
      → IfSome (fault_as all f outcome) Says
  fault_says f (Faulty fault) at judged =
      subst (SaysPage fault) (sym (at_number f at))
      (outcome_says f.path f.entry f.config f.number fault judged)
  fault_says f (Accepted parsed) at judged =
      beside_says (is_kept all (accepted_file f parsed)) (accepted_file f parsed)
      (ap has_page (at_number f at)
      ∙ accepted_has_page f.entry f.number parsed
      (accepted_read f.path f.entry f.config f.number parsed judged))
  fault_says f (Ignored why) at judged = tt

  with_fault : (fault : Option FileFault) (rest : List FileFault) → IfSome fault Says
      → All Says rest → All Says (cons_option fault rest)
  with_fault None rest h others = others
  with_fault (Some fault) rest h others = All-cons Says fault rest h others

  all_say : (files : List JudgedFile) → All (IsAt sources 0) files → All IsJudged files
      → All Says (filter_map (λ f. fault_as all f f.outcome) files)
  all_say [] at judged = All-nil Says
  all_say (f ∷ fs) at judged =
      with_fault (fault_as all f f.outcome) (filter_map (λ f. fault_as all f f.outcome) fs)
      (fault_says f f.outcome (All-head (IsAt sources 0) f fs at) (All-head IsJudged f fs judged))
      (all_say fs (All-tail (IsAt sources 0) f fs at) (All-tail IsJudged f fs judged))

-- each fault of a corpus says what it can of the page of its file
pub faults_say : (s : SourceSet) (t : Tables) → IsCorpusOf s t
    → All (λ fault. SaysPage fault.fault (entry_at s.entries fault.file)) t.faults
faults_say s t tables =
    subst (All (Says t.files s.entries)) (sym tables.faults)
    (all_say t.files s.entries t.files (files_stand s.config t.files s.entries 0 tables.files)
    tables.judged)
