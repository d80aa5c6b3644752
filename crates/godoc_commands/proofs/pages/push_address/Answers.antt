use Rattle.std.proofs.Common.{◌≡◌, ◌++◌, ◌∙◌, ap}
use Rattle.std.proofs.lemmas.Result.{on_ok_weaker}
use Rattle.godoc_commands.specs.Pages.{address_of}
use Rattle.godoc_commands.proofs.Addresses.{address_is}
use Rattle.godoc_commands.proofs.pages.push_address.Goals as goal

pub returns : goal.returns
returns c =
    let same : c.as_str.result.now ≡ address_of c.args.path.now = c.as_str.ensures.value
    ∙ c.in_ok-address.ensures.value ∙ c.utf8_percent_encode.ensures.text
    ∙ address_is c.args.path.now in
    on_ok_weaker c.push.result (λ h. h ∙ ap (λ t. c.args.text.now ++ t) same) c.push.ensures.ok
