use Rattle.std.proofs.lemmas.Result.{on_ok_weaker}
use Rattle.godoc_commands.specs.Pages.{list_start, list_end}
use Rattle.godoc_commands.proofs.Joins.{joined_three}
use Rattle.godoc_commands.proofs.pages.push_list.Goals as goal

pub returns : goal.returns
unfolding list_start list_end
returns c =
    on_ok_weaker c.push-2.result
    (λ h. joined_three c.args.text.now _ _ _ c.push.new.self c.push_packages.new.text
    c.push-2.new.self
    c.in_ok-push.ensures.ok c.in_ok-push_packages.ensures h)
    c.push-2.ensures.ok
