use Rattle.std.specs.Prelude.{codes, ◌++◌}
use Rattle.std.proofs.lemmas.Result.{on_ok_weaker}
use Rattle.godoc_commands.specs.Faults.{fault_text}
use Rattle.godoc_commands.proofs.FaultTexts.{two_escaped}
use Rattle.godoc_commands.proofs.faults.push_other_package.Goals as goal

pub returns : goal.returns
unfolding fault_text
returns c =
    let name = c.args.name.now in
    let named = two_escaped c.args.text.now (codes "fault 8: package ") name c.push_escaped.new.self
    c.push_escaped-2.new.self c.in_ok-push_escaped.ensures.ok c.in_ok-push_escaped-2.ensures.ok in
    on_ok_weaker c.push_escaped-3.result
    (two_escaped c.args.text.now (codes "fault 8: package " ++ name)
    (codes " beside another package") c.push_escaped-2.new.self c.push_escaped-3.new.self named)
    c.push_escaped-3.ensures.ok
