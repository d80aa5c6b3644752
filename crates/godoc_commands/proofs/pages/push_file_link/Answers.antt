use Rattle.std.proofs.Common.{◌≡◌, true, ◌++◌, ◌∙◌, ap, sym}
use Rattle.std.proofs.lemmas.Bool.{cond-true}
use Rattle.std.proofs.lemmas.Result.{on_ok_weaker}
use Rattle.godoc_commands.specs.Pages.{file_link}
use Rattle.godoc_commands.proofs.Joins.{joined_five}
use Rattle.godoc_commands.proofs.pages.push_file_link.Goals as goal

pub returns : goal.returns
unfolding file_link
returns c =
    let paged : c.args.paged ≡ true = cc in
    on_ok_weaker c.push-3.result
    (λ h. joined_five c.args.text.now _ _ _ _ _ c.push.new.self c.push_address.new.text
    c.push-2.new.self c.push_escaped-2.new.self c.push-3.new.self
    c.in_ok-push.ensures.ok c.in_ok-push_address.ensures c.in_ok-push-2.ensures.ok
    c.in_ok-push_escaped.ensures.ok h
    ∙ ap (λ t. c.args.text.now ++ t) (sym (cond-true _ _ _ paged)))
    c.push-3.ensures.ok
