use Rattle.std.proofs.Common.{◌≡◌, ◌∙◌, sym, ap, subst}
use Rattle.std.specs.Str.{IsCharBoundary}
use Rattle.std.specs.List.{prefix_len}
use Rattle.comment_blocks.specs.Kinds.{is_in_brackets}
use Rattle.comment_blocks.proofs.Boundaries.{before_stop, bracket_is_ascii}
use Rattle.comment_blocks.proofs.plain.definition_in.Goals as goal

pub cut-requires : goal.cut-requires
cut-requires c =
    let line = c.args.line.now in
    let len : c.unbracketed_len.result ≡ prefix_len is_in_brackets line =
    c.unbracketed_len.ensures ∙ ap (prefix_len is_in_brackets) c.as_bytes.ensures.value in
    subst (IsCharBoundary line) (sym len) (before_stop is_in_brackets bracket_is_ascii line)
