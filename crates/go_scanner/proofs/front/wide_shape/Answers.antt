use Rattle.std.proofs.Common.{Some, sym, ◌∙◌, ap}
use Rattle.go_scanner.proofs.Dispatch.{at_wide_word, at_wide_none}
use Rattle.go_scanner.proofs.front.wide_shape.Goals as goal

pub returns-then-begins_word : goal.returns-then-begins_word
returns-then-begins_word c =
    ap Some c.front_word_shape.ensures
    ∙ sym (at_wide_word c.args.text.now c.requires
    (sym c.begins_word.ensures ∙ c.if-begins_word.true))

pub returns-else-begins_word : goal.returns-else-begins_word
returns-else-begins_word c =
    sym (at_wide_none c.args.text.now c.requires
    (sym c.begins_word.ensures ∙ c.if-begins_word.false))
