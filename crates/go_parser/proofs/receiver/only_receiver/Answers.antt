use Rattle.std.proofs.Common.{◌≡◌, ◌∙◌, sym, subst, IfOk}
use Rattle.go_parser.proofs.Choices.{no-receiver, one-receiver, two-receivers}
use Rattle.go_parser.proofs.receiver.only_receiver.Goals as goal

pub returns-then-is_empty : goal.returns-then-is_empty
returns-then-is_empty c =
    sym (no-receiver c.args.words.now (sym c.is_empty.ensures ∙ c.if-is_empty.true))

pub returns-then-is_empty-2 : goal.returns-then-is_empty-2
returns-then-is_empty-2 c = subst (λ z. IfOk c.receiver.result (λ o. o ≡ z))
    (sym (one-receiver c.args.words.now _ _ (sym c.is_empty-2.ensures ∙ c.if-is_empty-2.true)
    c.split_piece-entry.ensures.pieces))
    c.receiver.ensures

pub returns-else-is_empty-2 : goal.returns-else-is_empty-2
returns-else-is_empty-2 c =
    sym (two-receivers c.args.words.now _ _ (sym c.is_empty-2.ensures ∙ c.if-is_empty-2.false)
    c.split_piece-entry.ensures.pieces)
