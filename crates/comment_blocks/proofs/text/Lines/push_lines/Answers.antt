use Rattle.std.proofs.Common.{◌≡◌, ◌+◌, ◌<◌, [], ◌∷◌, length, get_or, take, drop, Some, None, sym}
use Rattle.std.proofs.Common.{◌∙◌, ap, subst, arith, rules, OnOk, IsUtf8}
use Rattle.std.proofs.lemmas.Bool.{eqb-true}
use Rattle.std.proofs.lemmas.Str.{IsCharBoundary-after_ascii}
use Rattle.std.proofs.lemmas.Grind.{common_steps}
use Rattle.memchr.specs.Find.{IsFirstByte, is_byte}
use Rattle.comment_blocks.specs.Texts.{lines_of}
use Rattle.comment_blocks.specs.TextSteps.{after_line, after_lines}
use Rattle.comment_blocks.proofs.LineCuts.{cut_first, cut_last}
use Rattle.comment_blocks.proofs.text.Lines.push_lines.Goals as goal

pub loop-end-preserved : goal.loop-end-preserved
loop-end-preserved c =
    let rest = c.loop-end.rest.now in
    let cut : lines_of rest ≡ take c.in-Some.end rest ∷ lines_of (drop (c.in-Some.end + 1) rest) =
    cut_first rest c.in-Some.end
    (subst (λ bs. IsFirstByte (is_byte 10) bs (Some c.in-Some.end)) c.as_bytes.ensures.value
    c.in-Some.ensures) in
    let line : c.range.result.now ≡ take c.in-Some.end rest = grind (arith, common_steps) in (
      search rules,
      ap (λ s. after_lines s (lines_of c.range_from-rest.result.now))
          (c.in_ok-push_line.ensures ∙ ap (after_line c.loop-end.self) line)
          ∙ ap (λ bs. after_lines (after_line c.loop-end.self (take c.in-Some.end rest))
          (lines_of bs)) c.range_from-rest.ensures.value
          ∙ ap (after_lines c.loop-end.self) (sym cut) ∙ c.loop-end.invariant.1,
    )

pub returns : goal.returns
returns c =
    let rest = c.loop-end.rest.now in
    let last : lines_of rest ≡ rest ∷ [] =
    cut_last rest (subst (λ bs. IsFirstByte (is_byte 10) bs None) c.as_bytes.ensures.value
    c.in_default.ensures) in
    subst (λ s. OnOk c.push_line-2.result (c.push_line-2.new.self ≡ s))
    (ap (after_lines c.loop-end.self) (sym last) ∙ c.loop-end.invariant.1) c.push_line-2.ensures

pub range_from-rest-requires : goal.range_from-rest-requires
range_from-rest-requires c = λ _.
    let rest = c.loop-end.rest.now in
    let utf8 = subst IsUtf8 c.as_bytes.ensures.value c.as_bytes.ensures.utf8 in
    let found = subst (λ bs. IsFirstByte (is_byte 10) bs (Some c.in-Some.end))
    c.as_bytes.ensures.value c.in-Some.ensures in
    let within : c.in-Some.end < length rest = found.0.high in
    let byte : get_or rest c.in-Some.end 0 ≡ 10 = eqb-true _ _ found.1 in
    IsCharBoundary-after_ascii rest c.in-Some.end utf8 within (omega arith)
