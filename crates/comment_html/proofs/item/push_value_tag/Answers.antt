use Rattle.std.proofs.lemmas.Result.{on_ok_weaker}
use Rattle.comment_html.specs.Html.{value_tag}
use Rattle.comment_html.proofs.Joins.{joined_three}
use Rattle.comment_html.proofs.item.push_value_tag.Goals as goal

pub returns : goal.returns
unfolding value_tag
returns c =
    on_ok_weaker c.push-2.result
    (λ h. joined_three c.args.html.now _ _ _ c.push.new.self c.push_escaped.new.self
    c.push-2.new.self c.in_ok-push.ensures.ok c.in_ok-push_escaped.ensures.ok h)
    c.push-2.ensures.ok
