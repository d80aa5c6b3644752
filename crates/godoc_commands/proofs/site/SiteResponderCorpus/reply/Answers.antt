use Rattle.std.proofs.Common.{◌≡◌, ◌∙◌, ap}
use Rattle.std.proofs.lemmas.Result.{IfOk-weaker}
use Rattle.routes.specs.Targets.{target_of}
use Rattle.godoc_commands.specs.Replies.{Answer, page_of, reply_of, reply_with, with_code}
use Rattle.godoc_commands.proofs.site.SiteResponderCorpus.reply.Goals as goal

pub returns : goal.returns
unfolding reply_of
returns c =
    let request = c.args.request.now in
    let made : Answer = with_code c.in_ok-answer.answer.code c.in_ok-answer.answer.page.items in
    let same : made ≡ page_of c.args.edition.now (target_of request) =
    c.in_ok-answer.ensures ∙ ap (page_of c.args.edition.now) c.in_ok-target.ensures in
    IfOk-weaker c.reply_with.result
    (λ bytes. bytes.items ≡ reply_with made c.args.number request.verb c.args.last)
    (λ bytes. bytes.items ≡ reply_of c.args.number c.args.edition.now request c.args.last)
    (λ bytes h. h ∙ ap (λ a. reply_with a c.args.number request.verb c.args.last) same)
    c.reply_with.ensures
