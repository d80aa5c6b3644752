use Rattle.std.proofs.Common.{◌∙◌}
use Rattle.corpus.proofs.PieceLists.{input_more, inputs_all}
use Rattle.tests_corpus.proofs.whole.pieces_of.Goals as goal

pub loop-number-preserved : goal.loop-number-preserved
loop-number-preserved c =
    let made = c.in_ok-make_piece.ensures in
    rw c.in_ok-push.ensures.ok
    (input_more c.args.snapshot.now c.loop-number.number c.loop-number.pieces
    c.in_ok-make_piece.field-0
    c.path-path.result.now c.entry-entry.result.now c.path-path.ensures c.entry-entry.ensures
    made.path made.entry (made.config ∙ c.config.ensures) made.number c.loop-number.invariant)

pub returns : goal.returns
returns c =
    inputs_all c.args.snapshot.now c.loop-number.number c.loop-number.pieces
    (rw (← c.files-number-end.ensures.files) c.loop-number-test.false) c.loop-number.invariant
