use Rattle.std.proofs.Common.{◌≡◌, ◌∙◌, sym, ap, subst}
use Rattle.std.specs.Str.{IsCharBoundary}
use Rattle.std.specs.List.{prefix_len}
use Rattle.synopsis_notes.specs.Notes.{is_in_name}
use Rattle.comment_blocks.proofs.BlockLaws.{before_stop}
use Rattle.synopsis_notes.proofs.Cuts.{parenthesis_is_ascii}
use Rattle.synopsis_notes.proofs.note.note_of_named.Goals as goal

pub cut-requires : goal.cut-requires
cut-requires c =
    let text = c.args.text.now in
    let len : c.name_len.result ≡ prefix_len is_in_name text =
    c.name_len.ensures ∙ ap (prefix_len is_in_name) c.as_bytes.ensures.value in
    subst (IsCharBoundary text) (sym len)
    (before_stop is_in_name parenthesis_is_ascii text)
