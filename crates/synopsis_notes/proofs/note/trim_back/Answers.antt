use Rattle.std.proofs.Common.{◌≡◌, ◌-◌, ◌<◌, get_or, take, false, sym, ◌∙◌, subst, arith}
use Rattle.std.proofs.lemmas.Grind.{common_steps}
use Rattle.synopsis_notes.specs.Synopses.{is_white}
use Rattle.comment_blocks.proofs.BlockLaws.{cut_at}
use Rattle.synopsis_notes.proofs.note.trim_back.Goals as goal
use Rattle.synopsis_notes.proofs.note.trim_back.Goals.{then-loop-end-test+else-is_white}
use Rattle.synopsis_notes.proofs.note.trim_back.Goals.{else-loop-end-test}

pub returns : goal.returns
returns c =
    let text = c.args.text.now in
    let end = c.loop-end.end in
    let last : 0 < end → is_white (get_or text (end - 1) 0) ≡ false =
    elim c.loop-end-test.branch as (λ _. 0 < end → is_white (get_or text (end - 1) 0) ≡ false) [
      | then-loop-end-test+else-is_white w ↦ λ some.
          subst (λ bs. is_white (get_or bs (end - 1) 0) ≡ false) c.as_bytes-bytes.ensures.value
          (sym w.if-is_white.ensures)
      | else-loop-end-test w ↦ λ some. absurd (omega (arith, w.loop-end-test.false))
    ] in
    let value : c.range.result.now ≡ take end text = grind (arith, common_steps) in
    value ∙ cut_at is_white text end c.loop-end.invariant.within c.loop-end.invariant.behind last
