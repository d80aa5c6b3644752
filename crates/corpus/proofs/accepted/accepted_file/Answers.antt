use Rattle.std.proofs.Common.{◌<◌, length, get_or, sym, subst, ◌∙◌, arith, ap}
use Rattle.std.proofs.lemmas.List.{get_or_default}
use Rattle.corpus_piece.specs.Pieces.{IsJudged, JudgedFile}
use Rattle.corpus.specs.Steps.{seen}
use Rattle.corpus.proofs.Inputs.{length-files, accepted_at, is_accepted, not_accepted}
use Rattle.corpus.proofs.accepted.accepted_file.Goals as goal

pub bounds-pieces-number : goal.bounds-pieces-number
bounds-pieces-number c = omega (
  arith,
  length-files c.args.snapshot.now c.args.pieces.now
      c.requires.files,
  c.requires.within,
)

pub returns-in-Accepted-clause-accepted : goal.returns-in-Accepted-clause-accepted
returns-in-Accepted-clause-accepted c d =
    let s = c.args.snapshot.now in
    let files = c.args.pieces.now in
    let below : c.args.number < length files = omega
    (arith, length-files s files c.requires.files, c.requires.within) in
    let here = c.index-pieces-number.is ∙ get_or_default files c.args.number
    c.index-pieces-number.result d below in
    let made = c.new.ensures in
    is_accepted (get_or files c.args.number d) (seen c.new.result) c.in-Accepted.parsed
    (accepted_at s files c.requires.files c.args.number d (seen c.new.result) below made.number
    made.path made.bytes)
    made.parsed
    (sym (ap (λ (f : JudgedFile). f.outcome) here) ∙ sym c.outcome.ensures.same ∙ c.in-Accepted.is)

pub returns-in-Accepted-clause-judged : goal.returns-in-Accepted-clause-judged
returns-in-Accepted-clause-judged c d =
    let below : c.args.number < length c.args.pieces.now = omega (
      arith,
      length-files c.args.snapshot.now c.args.pieces.now c.requires.files,
      c.requires.within,
    ) in
    subst IsJudged (c.index-pieces-number.is ∙ get_or_default c.args.pieces.now c.args.number
    c.index-pieces-number.result d below) c.outcome.ensures.defined

pub returns-in_default-clause-accepted : goal.returns-in_default-clause-accepted
returns-in_default-clause-accepted c d =
    let below : c.args.number < length c.args.pieces.now = omega (
      arith,
      length-files c.args.snapshot.now c.args.pieces.now c.requires.files,
      c.requires.within,
    ) in
    let here = c.index-pieces-number.is ∙ get_or_default c.args.pieces.now c.args.number
    c.index-pieces-number.result d below in
    let outcome = sym (ap (λ (f : JudgedFile). f.outcome) here) ∙ sym c.outcome.ensures.same in
    let f = get_or c.args.pieces.now c.args.number d in
    not_accepted f f.outcome (λ parsed h. c.in_default.not-Accepted parsed (sym outcome ∙ h))

pub returns-in_default-clause-judged : goal.returns-in_default-clause-judged
returns-in_default-clause-judged c d =
    let below : c.args.number < length c.args.pieces.now = omega (
      arith,
      length-files c.args.snapshot.now c.args.pieces.now c.requires.files,
      c.requires.within,
    ) in
    subst IsJudged (c.index-pieces-number.is ∙ get_or_default c.args.pieces.now c.args.number
    c.index-pieces-number.result d below) c.outcome.ensures.defined
