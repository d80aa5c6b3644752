use Rattle.std.proofs.Common.{◌≡◌, ◌∙◌, ap, subst, arith, IsUtf8, min, rules}
use Rattle.std.specs.List.{prefix_len}
use Rattle.comment_blocks.specs.Texts.{is_blank}
use Rattle.comment_blocks.proofs.Boundaries.{behind_some, blank_is_ascii}
use Rattle.comment_blocks.proofs.list.without_blanks.Goals as goal

pub range_from-requires : goal.range_from-requires
range_from-requires c = λ _.
    let line = c.args.line.now in
    let utf8 = subst IsUtf8 c.as_bytes.ensures.value c.as_bytes.ensures.utf8 in
    let len : c.blank_len.result ≡ prefix_len is_blank line = c.blank_len.ensures
    ∙ ap (prefix_len is_blank) c.as_bytes.ensures.value in
    let least : c.min.result ≡ min c.args.count c.blank_len.result = search rules in
    behind_some is_blank blank_is_ascii line c.min.result utf8 (omega (arith, len, least))
