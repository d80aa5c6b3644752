-- What is known of the accepted files of a corpus.
use Rattle.std.proofs.Common.{◌≡◌, ℕ, ◌≤◌, List, length, All, sym, ap, subst}
use Rattle.std.proofs.lemmas.List.Elements.{All-weaker}
use Rattle.go_ast.specs.declared.token.TheConstants.{MAX_SOURCE_BYTES}
use Rattle.go_ast.specs.Files.{SpellsFile}
use Rattle.go_ast.specs.Position.{line_starts}
use Rattle.go_ast.specs.Reading.{Reads}
use Rattle.ident_index.specs.Hits.{hits_of}
use Rattle.corpus_piece.specs.declared.outcome.Outcome.TheVariants.{Accepted}
use Rattle.corpus_piece.specs.declared.outcome.Parsed.{Parsed}
use Rattle.corpus_piece.specs.Accepted.{IsAccepted}
use Rattle.corpus_piece.specs.Outcomes.{IsOutcomeOf}
use Rattle.corpus_piece.specs.Pieces.{IsJudged, JudgedFile}
use Rattle.corpus_piece.proofs.OutcomeLaws.{accepted_read}
use Rattle.corpus.specs.Corpora.{AcceptedFile, accepted, accepted_file, bytes_in}
use Rattle.corpus.specs.Steps.{HasName}
use Rattle.corpus.proofs.Numbers.{All-accepted}
use Rattle.corpus.proofs.PackageNames.{name_text}

-- a file whose bytes were read so
pub record IsRead (a : AcceptedFile) : Type 0 where
  pub small : length a.bytes ≤ MAX_SOURCE_BYTES
  pub reads : Reads a.bytes a.parsed.scanned.tokens a.parsed.scanned.comments
  pub lines_are : a.parsed.scanned.lines ≡ line_starts a.bytes
  pub spells : SpellsFile a.bytes a.parsed.scanned.tokens a.parsed.file
  pub hits_are : a.parsed.hits ≡ hits_of a.bytes a.parsed.scanned.tokens a.parsed.file a.number

with_bytes : (f : JudgedFile) (parsed : Parsed) (is : IsAccepted f.entry f.number parsed)
    → (bytes : List ℕ) → bytes ≡ is.bytes
    → IsRead (record { number = f.number; path = f.path; bytes = bytes; parsed = parsed })
with_bytes f parsed is bytes same = subst (λ bs. IsRead (record
    { number = f.number; path = f.path; bytes = bs; parsed = parsed })) (sym same) (record {
      small = is.small;
      reads = is.reads;
      lines_are = is.lines_are;
      spells = is.spells;
      hits_are = is.hits_are;
    })

pub read_file : (f : JudgedFile) (parsed : Parsed) → IsJudged f → f.outcome ≡ Accepted parsed
    → IsRead (accepted_file f parsed)
read_file f parsed judged outcome =
    let is = accepted_read f.path f.entry f.config f.number parsed
    (subst (IsOutcomeOf f.path f.entry f.config f.number) outcome judged) in
    with_bytes f parsed is (bytes_in f.entry) (ap bytes_in is.entry_is)

pub all_read : (files : List JudgedFile) → All IsJudged files → All IsRead (accepted files)
all_read files judged =
    All-accepted IsRead files (All-weaker IsJudged (λ f. (parsed : Parsed) → f.outcome ≡ Accepted
    parsed → IsRead (accepted_file f parsed))
    (λ f is parsed outcome. read_file f parsed is outcome) files judged)

pub has_name : (a : AcceptedFile) → IsRead a → HasName a
has_name a is =
    let text = name_text a.bytes a.parsed.scanned.tokens a.parsed.scanned.comments a.parsed.file
    is.reads is.spells in
    record { ordered = text.ordered; inside = text.inside; utf8 = text.utf8 }
