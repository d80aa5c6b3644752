use Rattle.std.proofs.Common.{◌≡◌, [], ◌++◌, sym, ◌∙◌, ap}
use Rattle.std.specs.Prelude.{encode_utf8}
use Rattle.std.proofs.lemmas.List.{append-nil}
use Rattle.std.proofs.lemmas.Str.{chars_past_char}
use Rattle.go_chars.specs.Identifiers.{is_exported}
use Rattle.synopsis_notes.specs.Synopses.{is_capital}
use Rattle.synopsis_notes.proofs.sentence.is_capital.Goals as goal

pub returns-in-Some : goal.returns-in-Some
returns-in-Some c =
    let bytes = c.encode_utf8.result.now in
    let split : bytes ≡ encode_utf8 c.in-Some.c ++ [] = c.encode_utf8.ensures.value
    ∙ sym (append-nil (encode_utf8 c.in-Some.c)) in
    c.is_exported.ensures
    ∙ ap is_exported (chars_past_char bytes [] c.in-Some.c c.encode_utf8.utf8 split)
    ∙ ap is_capital (sym c.in-Some.is)
