use Rattle.std.proofs.Common.{◌≡◌, false, ◌++◌, ◌∙◌, ap, arith, sym, nat_eq}
use Rattle.std.proofs.lemmas.Bool.{cond-false}
use Rattle.std.proofs.lemmas.Bool.Decides.{nat_tests}
use Rattle.std.proofs.lemmas.Result.{on_ok_weaker}
use Rattle.godoc_commands.specs.Pages.{faults_line}
use Rattle.godoc_commands.proofs.Joins.{joined_three}
use Rattle.godoc_commands.proofs.pages.push_fault_count.Goals as goal

pub returns : goal.returns
unfolding faults_line
returns c =
    let some : nat_eq c.args.count 0 ≡ false = grind (arith, nat_tests) in
    on_ok_weaker c.push-2.result
    (λ h. joined_three c.args.text.now _ _ _ c.push.new.self c.push_number.new.self
    c.push-2.new.self
    c.in_ok-push.ensures.ok c.in_ok-push_number.ensures.ok h
    ∙ ap (λ t. c.args.text.now ++ t) (sym (cond-false _ _ _ some)))
    c.push-2.ensures.ok
