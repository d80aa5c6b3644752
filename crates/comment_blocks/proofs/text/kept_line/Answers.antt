use Rattle.std.proofs.Common.{IsUtf8, subst, rules}
use Rattle.std.proofs.lemmas.Str.{IsCharBoundary-after_ascii}
use Rattle.comment_blocks.proofs.text.kept_line.Goals as goal

pub range_from-requires : goal.range_from-requires
range_from-requires c = λ _.
    let utf8 = subst IsUtf8 c.as_bytes.ensures.value c.as_bytes.ensures.utf8 in
    IsCharBoundary-after_ascii c.args.content.now 0 utf8 (search rules) (search rules)
