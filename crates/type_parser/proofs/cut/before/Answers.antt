use Rattle.std.proofs.Common.{◌∙◌, ap, sym, arith, length}
use Rattle.type_parser.specs.Matching.{plain, stride}
use Rattle.type_parser.proofs.WordMatching.{matched-take, matched-drop, tail-is, length-drop}
use Rattle.type_parser.proofs.Cuts.{passes}
use Rattle.type_parser.proofs.cut.before.Goals as goal

pub stride-at-requires : goal.stride-at-requires
stride-at-requires c = record { matched = matched-take _ _ (matched-drop _ _ c.requires.matched) }

pub loop-at-preserved : goal.loop-at-preserved
loop-at-preserved c =
    let items = c.args.items.now in
    let at = c.loop-at.at in
    let tail = tail-is items at in
    let far = c.stride-at.ensures.within in
    let count = ap length tail ∙ length-drop items at in
    record {
      so_far = passes c.args.mark items at c.stride-at.result _ c.loop-at-test.true
          (sym c.is.ensures ∙ c.if-is.false) c.loop-at.invariant.so_far
          (c.stride-at.ensures.value ∙ ap (λ us. stride (plain us)) tail);
      within = omega (arith, far, count, c.loop-at.invariant.within);
    }
