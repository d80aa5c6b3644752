use Rattle.std.proofs.Common.{◌≡◌, ◌++◌, ◌+◌, ◌<◌, ◌∷◌, [], take, drop, length, get_or, map, Some}
use Rattle.std.proofs.Common.{None}
use Rattle.std.proofs.Common.{sym, ◌∙◌, ap, subst, arith, rules, append_assoc, string_bytes, IsUtf8}
use Rattle.std.proofs.lemmas.Bool.{eqb-true}
use Rattle.std.proofs.lemmas.Str.{IsCharBoundary-after_ascii}
use Rattle.std.proofs.lemmas.Grind.{common_steps}
use Rattle.memchr.specs.Find.{IsFirstByte, is_byte}
use Rattle.comment_links.specs.Marks.{as_space}
use Rattle.comment_links.proofs.Spaces.{newline_at, no_newline}
use Rattle.comment_links.proofs.definitions.with_spaces.Goals as goal

pub range_from-rest-requires : goal.range_from-rest-requires
range_from-rest-requires c = λ _.
    let rest = c.loop-end.rest.now in
    let utf8 = subst IsUtf8 c.as_bytes.ensures.value c.as_bytes.ensures.utf8 in
    let found = subst (λ bs. IsFirstByte (is_byte 10) bs (Some c.in-Some.end))
    c.as_bytes.ensures.value c.in-Some.ensures in
    let within : c.in-Some.end < length rest = found.0.high in
    let byte : get_or rest c.in-Some.end 0 ≡ 10 = eqb-true _ _ found.1 in
    IsCharBoundary-after_ascii rest c.in-Some.end utf8 within (omega arith)

pub loop-end-preserved : goal.loop-end-preserved
loop-end-preserved c =
    let rest = c.loop-end.rest.now in
    let done = string_bytes c.loop-end.spaced in
    let end = c.in-Some.end in
    let cut = newline_at rest end (subst (λ bs. IsFirstByte (is_byte 10) bs (Some end))
    c.as_bytes.ensures.value c.in-Some.ensures) in
    let line : c.range.result.now ≡ take end rest = grind (arith, common_steps) in
    let grown : string_bytes c.push_str-in-Some.new.self ≡ (done ++ take end rest) ++ 32 ∷ [] =
    c.in_ok-push_str-2.ensures.bytes
    ∙ ap (λ t. t ++ 32 ∷ []) (c.in_ok-push_str.ensures.bytes ∙ ap (λ t. done ++ t) line) in (
      search rules,
      ap (λ t. t ++ map as_space c.range_from-rest.result.now) grown
          ∙ ap (λ t. ((done ++ take end rest) ++ 32 ∷ []) ++ map as_space t)
          c.range_from-rest.ensures.value
          ∙ append_assoc (done ++ take end rest) (32 ∷ []) (map as_space (drop (end + 1) rest))
          ∙ append_assoc done (take end rest) (32 ∷ map as_space (drop (end + 1) rest))
          ∙ ap (λ t. done ++ t) (sym cut) ∙ c.loop-end.invariant.1,
    )

pub returns : goal.returns
returns c =
    let rest = c.loop-end.rest.now in
    let done = string_bytes c.loop-end.spaced in
    let same = no_newline rest (subst (λ bs. IsFirstByte (is_byte 10) bs None)
    c.as_bytes.ensures.value c.in_default.ensures) in
    let grown : string_bytes c.push_str-2.new.self ≡ done ++ rest =
    c.in_ok-push_str-3.ensures.bytes in
    grown ∙ ap (λ t. done ++ t) (sym same) ∙ c.loop-end.invariant.1
