use Rattle.std.proofs.Common.{◌<◌, ◌≤◌, length, ap, sym, ◌∙◌, arith}
use Rattle.std.specs.Prelude.{Some, None}
use Rattle.std.specs.List.{filter_map}
use Rattle.std.proofs.lemmas.List.{append-nil, take_all}
use Rattle.corpus_piece.specs.Pieces.{JudgedFile}
use Rattle.corpus.specs.Corpora.{fault_as}
use Rattle.corpus.proofs.Inputs.{length-files}
use Rattle.corpus.proofs.Lists.{filter_map-more, one_of}
use Rattle.corpus.proofs.faulty.faults_of.Goals as goal
use Rattle.corpus.proofs.faulty.faults_of.Goals.{in-Some+in_ok-push, in_default}

pub loop-number-preserved : goal.loop-number-preserved
loop-number-preserved c =
    let files = c.args.pieces.now in
    let i = c.loop-number.number in
    let below : i < length files = omega (
      arith,
      length-files c.args.snapshot.now files
          c.requires.files,
      c.files-number-end.ensures.files,
    ) in
    let d = one_of files i below in
    let h = λ (f : JudgedFile). fault_as files f f.outcome in
    elim c.match-branch-2.branch [
      | in-Some+in_ok-push w ↦ filter_map-more h files i d (Some w.in-Some.fault)
          c.loop-number.faults.items c.match-branch-2.faults.items below
          c.loop-number.invariant (sym w.in-Some.is ∙ c.in_ok-fault.ensures d)
          (ap (λ v. v.items) w.faults-is ∙ w.in_ok-push.ensures.items)
      | in_default w ↦ filter_map-more h files i d None c.loop-number.faults.items
          c.match-branch-2.faults.items below
          c.loop-number.invariant (sym w.in_default.is ∙ c.in_ok-fault.ensures d)
          (ap (λ v. v.items) w.faults-is ∙ sym (append-nil c.loop-number.faults.items))
    ]

pub returns : goal.returns
returns c =
    let files = c.args.pieces.now in
    let past : length files ≤ c.loop-number.number = omega (
      arith,
      length-files c.args.snapshot.now files c.requires.files,
      c.files-number-end.ensures.files,
    ) in
    c.from_vec.ensures ∙ c.shrink_to_fit.ensures.items ∙ c.loop-number.invariant
    ∙ ap (filter_map (λ (f : JudgedFile). fault_as files f f.outcome))
    (take_all c.loop-number.number files past)
