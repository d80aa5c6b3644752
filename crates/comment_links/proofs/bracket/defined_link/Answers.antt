use Rattle.std.proofs.Common.{◌≡◌, ◌∙◌, sym, ap, subst}
use Rattle.std.specs.Str.{IsCharBoundary}
use Rattle.std.specs.List.{prefix_len}
use Rattle.comment_blocks.specs.Kinds.{is_in_brackets}
use Rattle.comment_blocks.proofs.BlockLaws.{before_stop, bracket_is_ascii}
use Rattle.comment_links.proofs.bracket.defined_link.Goals as goal

pub cut-requires : goal.cut-requires
cut-requires c =
    let tail = c.args.tail.now in
    let len : c.unbracketed_len.result ≡ prefix_len is_in_brackets tail =
    c.unbracketed_len.ensures ∙ ap (prefix_len is_in_brackets) c.as_bytes.ensures.value in
    subst (IsCharBoundary tail) (sym len) (before_stop is_in_brackets bracket_is_ascii tail)
