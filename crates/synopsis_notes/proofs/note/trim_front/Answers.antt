use Rattle.std.proofs.Common.{◌≡◌, ◌∙◌, ap, subst, arith, IsUtf8}
use Rattle.std.specs.List.{prefix_len}
use Rattle.comment_blocks.proofs.BlockLaws.{behind_some}
use Rattle.synopsis_notes.specs.Synopses.{is_white}
use Rattle.synopsis_notes.proofs.Cuts.{white_is_ascii}
use Rattle.synopsis_notes.proofs.note.trim_front.Goals as goal

pub range_from-requires : goal.range_from-requires
range_from-requires c = λ _.
    let text = c.args.text.now in
    let utf8 = subst IsUtf8 c.as_bytes.ensures.value c.as_bytes.ensures.utf8 in
    let len : c.white_len.result ≡ prefix_len is_white text = c.white_len.ensures
    ∙ ap (prefix_len is_white) c.as_bytes.ensures.value in
    behind_some is_white white_is_ascii text c.white_len.result utf8 (omega (arith, len))
