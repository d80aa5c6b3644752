use Rattle.std.proofs.Common.{◌<◌, length, get_or, sym, subst, ◌∙◌, arith, ap}
use Rattle.std.proofs.lemmas.Bool.{not-true, not-false}
use Rattle.std.proofs.lemmas.List.{get_or_default}
use Rattle.corpus_piece.specs.Pieces.{JudgedFile}
use Rattle.corpus.specs.Corpora.{accepted_file, fault_as, is_kept}
use Rattle.corpus.specs.Steps.{HasName, seen}
use Rattle.corpus.proofs.FileFaults.{own_fault, kept_fault, beside_fault}
use Rattle.corpus.proofs.Inputs.{length-files, accepted_at, number_at}
use Rattle.corpus.proofs.Numbers.{beside_told}
use Rattle.corpus.proofs.ReadFiles.{read_file, has_name}
use Rattle.corpus.proofs.faulty.fault_of.Goals as goal

pub bounds-pieces-number : goal.bounds-pieces-number
bounds-pieces-number c = omega (
  arith,
  length-files c.args.snapshot.now c.args.pieces.now
      c.requires.files,
  c.requires.within,
)

pub returns-in-Ignored : goal.returns-in-Ignored
returns-in-Ignored c d =
    let below : c.args.number < length c.args.pieces.now = omega (
      arith,
      length-files c.args.snapshot.now c.args.pieces.now c.requires.files,
      c.requires.within,
    ) in
    let here = c.index-pieces-number.is ∙ get_or_default c.args.pieces.now c.args.number
    c.index-pieces-number.result d below in
    let f = get_or c.args.pieces.now c.args.number d in
    sym (ap (fault_as c.args.pieces.now f) (sym (ap (λ (f : JudgedFile). f.outcome) here) ∙ sym
    c.outcome.ensures.same ∙ c.in-Ignored.is))

pub returns-in_ok-copy_fault-in-Faulty : goal.returns-in_ok-copy_fault-in-Faulty
returns-in_ok-copy_fault-in-Faulty c d =
    let files = c.args.pieces.now in
    let below : c.args.number < length files = omega
    (arith, length-files c.args.snapshot.now files c.requires.files, c.requires.within) in
    let here = c.index-pieces-number.is ∙ get_or_default files c.args.number
    c.index-pieces-number.result d below in
    own_fault files (get_or files c.args.number d) c.args.number c.in-Faulty.fault
    c.in_ok-copy_fault-in-Faulty.field-0
    (number_at c.args.snapshot.now files c.requires.files c.args.number d below)
    (sym (ap (λ (f : JudgedFile). f.outcome) here) ∙ sym c.outcome.ensures.same ∙ c.in-Faulty.is)
    c.in_ok-copy_fault-in-Faulty.ensures

pub returns-then-not-is_among : goal.returns-then-not-is_among
returns-then-not-is_among c d =
    let files = c.args.pieces.now in
    let below : c.args.number < length files = omega
    (arith, length-files c.args.snapshot.now files c.requires.files, c.requires.within) in
    let here = c.index-pieces-number.is ∙ get_or_default files c.args.number
    c.index-pieces-number.result d below in
    let f = get_or files c.args.number d in
    let outcome = sym (ap (λ (f : JudgedFile). f.outcome) here) ∙ sym c.outcome.ensures.same
    ∙ c.in-Accepted.is in
    let told = beside_told c.args.snapshot.now files c.requires.files c.args.beside.now
    c.requires.beside c.args.number d c.in-Accepted.parsed below outcome in
    kept_fault files f c.in-Accepted.parsed outcome
    (not-false (is_kept files (accepted_file f c.in-Accepted.parsed))
    (sym told ∙ sym c.if-not-is_among.ensures))

pub other_package-requires : goal.other_package-requires
other_package-requires c =
    let files = c.args.pieces.now in
    let s = c.args.snapshot.now in
    let f = c.index-pieces-number.result in
    let below : c.args.number < length files = omega
    (arith, length-files s files c.requires.files, c.requires.within) in
    let made = c.new-file.ensures in
    let same = accepted_at s files c.requires.files c.args.number f (seen c.new-file.result) below
    made.number made.path made.bytes
    ∙ (λ i. accepted_file (sym c.index-pieces-number.is i) (made.parsed i)) in
    subst HasName (sym same)
    (has_name (accepted_file f c.in-Accepted.parsed)
    (read_file f c.in-Accepted.parsed c.outcome.ensures.defined
    (sym c.outcome.ensures.same ∙ c.in-Accepted.is)))

pub returns-in_ok-other_package-in-Accepted : goal.returns-in_ok-other_package-in-Accepted
returns-in_ok-other_package-in-Accepted c d =
    let files = c.args.pieces.now in
    let s = c.args.snapshot.now in
    let below : c.args.number < length files = omega
    (arith, length-files s files c.requires.files, c.requires.within) in
    let here = c.index-pieces-number.is ∙ get_or_default files c.args.number
    c.index-pieces-number.result d below in
    let f = get_or files c.args.number d in
    let outcome = sym (ap (λ (f : JudgedFile). f.outcome) here) ∙ sym c.outcome.ensures.same
    ∙ c.in-Accepted.is in
    let told = beside_told s files c.requires.files c.args.beside.now c.requires.beside
    c.args.number d c.in-Accepted.parsed below outcome in
    let made = c.new-file.ensures in
    beside_fault files f c.in-Accepted.parsed (seen c.new-file.result)
    c.in_ok-other_package-in-Accepted.field-0 outcome
    (not-true (is_kept files (accepted_file f c.in-Accepted.parsed))
    (sym told ∙ sym c.if-not-is_among.ensures))
    (accepted_at s files c.requires.files c.args.number d (seen c.new-file.result) below made.number
    made.path made.bytes ∙ ap (accepted_file f) made.parsed)
    c.in_ok-other_package-in-Accepted.ensures
