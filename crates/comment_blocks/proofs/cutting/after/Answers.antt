use Rattle.std.proofs.Common.{◌≡◌, ◌+◌, ◌-◌, subst, arith}
use Rattle.std.specs.Str.{IsCharBoundary}
use Rattle.std.proofs.lemmas.Bool.{ltb-true}
use Rattle.std.proofs.lemmas.Str.{IsCharBoundary-after_ascii}
use Rattle.comment_blocks.proofs.cutting.after.Goals as goal

pub range_from-requires : goal.range_from-requires
range_from-requires c = λ _.
    let text = c.args.text.now in
    let count = c.args.count in
    let next : (count - 1) + 1 ≡ count = omega (arith, c.requires.some) in
    subst (IsCharBoundary text) next
    (IsCharBoundary-after_ascii text (count - 1) c.utf8.text
    (omega (arith, c.requires.some, c.requires.within)) (ltb-true _ _ c.requires.ascii))
