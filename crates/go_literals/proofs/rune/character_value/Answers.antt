use Rattle.std.proofs.Common.{◌∙◌, sym, ap, length}
use Rattle.std.specs.Str.{chars}
use Rattle.go_literals.specs.Reading.{only_character}
use Rattle.go_literals.proofs.RuneBytes.{read_utf8, read_other}
use Rattle.go_literals.proofs.rune.character_value.Goals as goal

pub returns-in-Ok : goal.returns-in-Ok
returns-in-Ok c = c.only_character.ensures
    ∙ ap (λ t. only_character (length t) (chars t)) c.in-Ok.ensures.cases.0
    ∙ sym (read_utf8 c.args.bytes.now c.in-Ok.ensures.cases.1)

pub returns-in-Err : goal.returns-in-Err
returns-in-Err c = sym (read_other c.args.bytes.now c.in-Err.ensures.cases.0)
