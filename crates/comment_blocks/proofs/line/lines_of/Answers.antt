use Rattle.std.proofs.Common.{◌≡◌, ◌+◌, ◌<◌, [], ◌∷◌, ◌++◌, length, get_or, take, drop, Some, None}
use Rattle.std.proofs.Common.{refl, sym, ◌∙◌, ap, subst, arith, rules, IsUtf8}
use Rattle.std.proofs.lemmas.Bool.{eqb-true}
use Rattle.std.proofs.lemmas.Str.{IsCharBoundary-after_ascii}
use Rattle.std.proofs.lemmas.Grind.{common_steps}
use Rattle.std.proofs.lemmas.List.{append-nil}
use Rattle.memchr.specs.Find.{IsFirstByte, is_byte}
use Rattle.comment_blocks.specs.Texts.{lines_of}
use Rattle.comment_blocks.specs.LineSteps.{texts}
use Rattle.comment_blocks.proofs.LineCuts.{cut_first, cut_last, pushed}
use Rattle.comment_blocks.proofs.line.lines_of.Goals as goal

pub range_from-rest-requires : goal.range_from-rest-requires
range_from-rest-requires c = λ _.
    let rest = c.loop-end.rest.now in
    let utf8 = subst IsUtf8 c.as_bytes.ensures.value c.as_bytes.ensures.utf8 in
    let found = subst (λ bs. IsFirstByte (is_byte 10) bs (Some c.in-Some.end))
    c.as_bytes.ensures.value c.in-Some.ensures in
    let within : c.in-Some.end < length rest = found.0.high in
    let byte : get_or rest c.in-Some.end 0 ≡ 10 = eqb-true _ _ found.1 in
    IsCharBoundary-after_ascii rest c.in-Some.end utf8 within (omega arith)

pub loop-end-preserved : goal.loop-end-preserved
loop-end-preserved c =
    let rest = c.loop-end.rest.now in
    let cut : lines_of rest ≡ take c.in-Some.end rest ∷ lines_of (drop (c.in-Some.end + 1) rest) =
    cut_first rest c.in-Some.end
    (subst (λ bs. IsFirstByte (is_byte 10) bs (Some c.in-Some.end)) c.as_bytes.ensures.value
    c.in-Some.ensures) in
    let line : c.range.result.now ≡ take c.in-Some.end rest = grind (arith, common_steps) in (
      search rules,
      pushed c.loop-end.lines.items _ c.range.result (take c.in-Some.end rest)
          (lines_of c.range_from-rest.result.now) c.in_ok-push.ensures.items line
          ∙ ap (λ bs. texts c.loop-end.lines.items ++ (take c.in-Some.end rest ∷ lines_of bs))
          c.range_from-rest.ensures.value
          ∙ ap (λ ls. texts c.loop-end.lines.items ++ ls) (sym cut) ∙ c.loop-end.invariant.1,
    )

pub returns : goal.returns
returns c =
    let rest = c.loop-end.rest.now in
    let last : lines_of rest ≡ rest ∷ [] =
    cut_last rest (subst (λ bs. IsFirstByte (is_byte 10) bs None) c.as_bytes.ensures.value
    c.in_default.ensures) in
    sym (append-nil _)
    ∙ pushed c.loop-end.lines.items _ c.loop-end.rest rest [] c.in_ok-push-2.ensures.items refl
    ∙ ap (λ ls. texts c.loop-end.lines.items ++ ls) (sym last) ∙ c.loop-end.invariant.1
