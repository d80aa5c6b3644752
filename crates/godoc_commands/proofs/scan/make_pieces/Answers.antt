use Rattle.std.proofs.Common.{◌≡◌, ◌≤◌, ◌∙◌, arith, length, rules}
use Rattle.corpus.proofs.CorpusLaws.{input_more, inputs_all}
use Rattle.godoc_commands.proofs.scan.make_pieces.Goals as goal

pub loop-number-preserved : goal.loop-number-preserved
loop-number-preserved c =
    let s = c.args.snapshot.now in
    let made = c.in_ok-make_piece.ensures in
    let config : c.config.result.now ≡ s.config = search rules in
    rw c.in_ok-push.ensures.ok
    (input_more s c.loop-number.number c.loop-number.pieces c.in_ok-make_piece.field-0
    c.path-path.result.now c.entry-entry.result.now c.path-path.ensures c.entry-entry.ensures
    made.path made.entry (made.config ∙ config) made.number c.loop-number.invariant)

pub returns : goal.returns
returns c =
    let s = c.args.snapshot.now in
    let all : length s.entries ≤ c.loop-number.number = omega arith in
    inputs_all s c.loop-number.number c.loop-number.pieces all c.loop-number.invariant
