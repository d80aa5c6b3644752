use Rattle.std.proofs.Common.{◌≡◌, ◌-◌, ◌<◌, get_or, take, false, sym, ◌∙◌, subst, arith}
use Rattle.std.proofs.lemmas.Grind.{common_steps}
use Rattle.comment_blocks.specs.Texts.{is_trailing}
use Rattle.comment_blocks.proofs.LineCuts.{trimmed_at}
use Rattle.comment_blocks.proofs.text.trim_end.Goals as goal
use Rattle.comment_blocks.proofs.text.trim_end.Goals.{then-loop-end-test+else-is_trailing}
use Rattle.comment_blocks.proofs.text.trim_end.Goals.{else-loop-end-test}

pub returns : goal.returns
returns c =
    let line = c.args.line.now in
    let end = c.loop-end.end in
    let last : 0 < end → is_trailing (get_or line (end - 1) 0) ≡ false =
    elim c.loop-end-test.branch as (λ _. 0 < end → is_trailing (get_or line (end - 1) 0) ≡ false) [
      | then-loop-end-test+else-is_trailing w ↦ λ some.
          subst (λ bs. is_trailing (get_or bs (end - 1) 0) ≡ false) c.as_bytes-bytes.ensures.value
          (sym w.if-is_trailing.ensures)
      | else-loop-end-test w ↦ λ some. absurd (omega (arith, w.loop-end-test.false))
    ] in
    let value : c.range.result.now ≡ take end line = grind (arith, common_steps) in
    value ∙ trimmed_at line end c.loop-end.invariant.within c.loop-end.invariant.behind last
