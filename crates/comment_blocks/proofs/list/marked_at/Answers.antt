use Rattle.std.proofs.Common.{subst, IsUtf8, rules}
use Rattle.comment_blocks.proofs.Boundaries.{behind_bullet}
use Rattle.comment_blocks.proofs.list.marked_at.Goals as goal

pub cut-requires : goal.cut-requires
cut-requires c =
    let utf8 = subst IsUtf8 c.as_bytes.ensures.value c.as_bytes.ensures.utf8 in
    behind_bullet c.args.line.now utf8 (search rules) (search rules) (search rules) (search rules)
