use Rattle.std.proofs.lemmas.Result.{on_ok_weaker}
use Rattle.godoc_commands.specs.Pages.{package_line}
use Rattle.godoc_commands.proofs.Joins.{joined_five}
use Rattle.godoc_commands.proofs.pages.push_package.Goals as goal

pub returns : goal.returns
unfolding package_line
returns c =
    on_ok_weaker c.push-3.result
    (λ h. joined_five c.args.text.now _ _ _ _ _ c.push.new.self c.push_address.new.text
    c.push-2.new.self c.push_escaped.new.self c.push-3.new.self
    c.in_ok-push.ensures.ok c.in_ok-push_address.ensures c.in_ok-push-2.ensures.ok
    c.in_ok-push_escaped.ensures.ok h)
    c.push-3.ensures.ok
