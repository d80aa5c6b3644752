use Rattle.std.proofs.Common.{◌++◌, ◌∙◌, ap, arith}
use Rattle.std.specs.Prelude.{decimal}
use Rattle.std.proofs.lemmas.Result.{on_ok_weaker}
use Rattle.godoc_commands.proofs.FaultTexts.{numbered}
use Rattle.godoc_commands.proofs.faults.push_numbered.Goals as goal

pub returns : goal.returns
returns c =
    on_ok_weaker c.push_number.result
    (λ h. numbered c.args.text.now c.args.words.now c.push_escaped.new.self c.push_number.new.self
    c.args.number (omega arith) c.in_ok-push_escaped.ensures.ok
    (h ∙ ap (λ n. c.push_escaped.new.self ++ decimal n) c.from.ensures))
    c.push_number.ensures.ok
