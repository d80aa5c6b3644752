use Rattle.std.proofs.Common.{◌<◌, ◌≤◌, length, All, [], ◌∷◌, ap, sym, subst, ◌∙◌, arith, map}
use Rattle.std.proofs.lemmas.List.{map-append, append-nil, take_all}
use Rattle.std.specs.Prelude.{Some, None}
use Rattle.corpus_piece.specs.Pieces.{IsJudged, JudgedFile}
use Rattle.corpus.specs.Corpora.{accepted, accepted_as}
use Rattle.corpus.specs.Steps.{seen}
use Rattle.corpus.proofs.Inputs.{length-files}
use Rattle.corpus.proofs.Lists.{filter_map-more, All-more, one_of}
use Rattle.corpus.proofs.accepted.accepted_files.Goals as goal
use Rattle.corpus.proofs.accepted.accepted_files.Goals.{in-Some+in_ok-push, in_default}

pub loop-number-preserved : goal.loop-number-preserved
loop-number-preserved c =
    let files = c.args.pieces.now in
    let i = c.loop-number.number in
    let below : i < length files = omega (
      arith,
      length-files c.args.snapshot.now files c.requires,
      c.files-number-end.ensures.files,
    ) in
    let d = one_of files i below in
    let h = λ (f : JudgedFile). accepted_as f f.outcome in
    let judged = All-more IsJudged files i d below c.loop-number.invariant.judged
    (c.accepted_file.ensures.judged d) in
    elim c.match-accepted_file.branch [
      | in-Some+in_ok-push w ↦ record {
        accepted = filter_map-more h files i d (Some (seen w.in-Some.file))
            (map seen c.loop-number.files.items) (map seen c.match-accepted_file.files.items) below
            c.loop-number.invariant.accepted (w.in-Some.ensures.accepted d)
            (ap (λ v. map seen v.items) w.files-is ∙ ap (map seen) w.in_ok-push.ensures.items
            ∙ map-append seen c.loop-number.files.items (w.in-Some.file ∷ []));
        judged = judged;
      }
      | in_default w ↦ record {
        accepted = filter_map-more h files i d None (map seen c.loop-number.files.items)
            (map seen c.match-accepted_file.files.items) below
            c.loop-number.invariant.accepted (w.in_default.ensures.accepted d)
            (ap (λ v. map seen v.items) w.files-is
            ∙ sym (append-nil (map seen c.loop-number.files.items)));
        judged = judged;
      }
    ]

pub returns-clause-accepted : goal.returns-clause-accepted
returns-clause-accepted c =
    let past : length c.args.pieces.now ≤ c.loop-number.number = omega (
      arith,
      length-files c.args.snapshot.now c.args.pieces.now c.requires,
      c.files-number-end.ensures.files,
    ) in
    c.loop-number.invariant.accepted ∙ ap accepted
    (take_all c.loop-number.number c.args.pieces.now past)

pub returns-clause-judged : goal.returns-clause-judged
returns-clause-judged c =
    let past : length c.args.pieces.now ≤ c.loop-number.number = omega (
      arith,
      length-files c.args.snapshot.now c.args.pieces.now c.requires,
      c.files-number-end.ensures.files,
    ) in
    subst (All IsJudged) (take_all c.loop-number.number c.args.pieces.now past)
    c.loop-number.invariant.judged
