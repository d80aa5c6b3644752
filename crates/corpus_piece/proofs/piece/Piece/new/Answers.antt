use Rattle.std.proofs.Common.{◌≡◌, subst, sym}
use Rattle.std.specs.Arc.{arc_value}
use Rattle.corpus_piece.specs.Pieces.{IsJudged, judged_file}
use Rattle.corpus_piece.proofs.piece.Piece.new.Goals as goal

pub invariant_of-result : goal.invariant_of-result
invariant_of-result c =
    let same : judged_file c.in_ok-from_str.field-0 c.of.result.value c.of-2.result.value
    c.args.number (arc_value c.in_ok-new.field-0)
    ≡ judged_file c.args.path.now c.args.entry.now c.args.config.now c.args.number c.args.outcome =
    λ i. judged_file (c.in_ok-from_str.ensures i) (c.of.ensures i) (c.of-2.ensures i) c.args.number
    (c.in_ok-new.ensures.ok i) in
    subst IsJudged (sym same) c.requires
