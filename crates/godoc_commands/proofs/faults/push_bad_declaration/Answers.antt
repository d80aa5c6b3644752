use Rattle.std.proofs.Common.{◌++◌, ◌∙◌, ap, sym, append_assoc}
use Rattle.std.specs.Prelude.{codes, decimal}
use Rattle.std.proofs.lemmas.Result.{on_ok_weaker}
use Rattle.text_out.specs.Escape.{escaped}
use Rattle.godoc_commands.specs.Faults.{fault_text}
use Rattle.godoc_commands.proofs.FaultTexts.{two_escaped}
use Rattle.godoc_commands.proofs.faults.push_bad_declaration.Goals as goal

pub returns : goal.returns
unfolding fault_text
returns c =
    let first = codes "fault 7: bad declaration " ++ decimal c.args.chunk in
    on_ok_weaker c.push_numbered-2.result
    (λ h. two_escaped c.args.text.now first (codes " at line " ++ decimal c.args.line)
    c.push_numbered.new.text c.push_numbered-2.new.text c.in_ok-push_numbered.ensures h
    ∙ ap (λ t. c.args.text.now ++ escaped t)
    (sym (append_assoc first (codes " at line ") (decimal c.args.line))))
    c.push_numbered-2.ensures
