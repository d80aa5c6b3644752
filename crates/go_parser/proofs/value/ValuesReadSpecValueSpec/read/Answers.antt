use Rattle.std.proofs.Common.{◌≡◌, ◌∙◌, ap, sym, subst, IfOk}
use Rattle.go_parser.specs.Reading.{read_assigned}
use Rattle.go_parser.proofs.Choices.{value-split}
use Rattle.go_parser.proofs.value.ValuesReadSpecValueSpec.read.Goals as goal

pub returns-in-Some : goal.returns-in-Some
returns-in-Some c = subst (λ z. IfOk c.assigned.result (λ o. o ≡ z))
    (ap (λ t. read_assigned t c.in-Some.front c.in-Some.run') c.range-tokens.ensures
    ∙ sym (value-split c.args.self.now.constant c.args.words.now c.in-Some.front c.in-Some.run'
    (sym c.is_empty.ensures ∙ c.if-is_empty.false) (sym c.in-Some.is ∙ c.split_once.ensures)))
    c.assigned.ensures
