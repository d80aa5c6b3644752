use Rattle.std.proofs.Common.{◌≡◌, ◌∙◌, ap, subst, arith, IsUtf8}
use Rattle.std.specs.List.{prefix_len}
use Rattle.std.specs.Char.{is_ascii_digit}
use Rattle.comment_blocks.proofs.Boundaries.{behind_some, digit_is_ascii}
use Rattle.comment_blocks.proofs.list.numbered.Goals as goal

pub cut-requires : goal.cut-requires
cut-requires c =
    let line = c.args.line.now in
    let utf8 = subst IsUtf8 c.as_bytes.ensures.value c.as_bytes.ensures.utf8 in
    let len : c.digit_len.result ≡ prefix_len is_ascii_digit line = c.digit_len.ensures
    ∙ ap (prefix_len is_ascii_digit) c.as_bytes.ensures.value in
    behind_some is_ascii_digit digit_is_ascii line c.digit_len.result utf8 (omega (arith, len))
