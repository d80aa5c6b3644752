use Rattle.std.proofs.Common.{◌≡◌, refl, length, arith}
use Rattle.std.proofs.lemmas.Bool.Decides.{nat_tests}
use Rattle.go_ast.specs.declared.word.Mark.TheVariants as m
use Rattle.go_ast.specs.Cutting.{pieces}
use Rattle.go_parser.specs.Reading.{names_in, read_name}
use Rattle.type_parser.proofs.GrammarLaws.{each-ends, not_empty-is}
use Rattle.type_parser.proofs.GrammarLaws.{no-pieces}
use Rattle.go_parser.proofs.receiver.names.Goals as goal

pub returns-then-is_empty : goal.returns-then-is_empty
unfolding names_in
returns-then-is_empty c =
    let over : length c.loop-rest.rest ≡ 0 = grind (arith, nat_tests, c.loop-rest-test.ensures) in
    let all = each-ends read_name (pieces m.Comma c.args.words.now) _ _ c.loop-rest.invariant
    (no-pieces m.Comma _ over) in
    rw (all, c.is_empty-2.ensures.0 c.if-is_empty.true) refl

pub returns : goal.returns
unfolding names_in
returns c =
    let over : length c.loop-rest.rest ≡ 0 = grind (arith, nat_tests, c.loop-rest-test.ensures) in
    let all = each-ends read_name (pieces m.Comma c.args.words.now) _ _ c.loop-rest.invariant
    (no-pieces m.Comma _ over) in
    rw (
      all,
      not_empty-is c.loop-rest.found
          (λ e. absurd (cc (c.is_empty-2.ensures.1 e, c.if-is_empty.false))),
    ) refl
