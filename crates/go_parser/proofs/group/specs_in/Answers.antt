use Rattle.std.proofs.Common.{◌≡◌, ◌∙◌, sym, length, arith}
use Rattle.std.proofs.lemmas.Bool.Decides.{nat_tests}
use Rattle.go_ast.specs.declared.word.Mark.TheVariants as m
use Rattle.go_ast.specs.Cutting.{pieces}
use Rattle.go_parser.specs.Reading.{specs_in}
use Rattle.type_parser.proofs.GrammarLaws.{each-stops, each-ends}
use Rattle.type_parser.proofs.GrammarLaws.{no-pieces}
use Rattle.go_parser.proofs.group.specs_in.Goals as goal

pub returns-in-None : goal.returns-in-None
unfolding specs_in
returns-in-None g c =
    let read = g.R.ReadSpec.reads c.args.reader.now in
    let none = each-stops read (pieces m.Semi c.args.words.now) _ _ _ _ c.loop-rest.invariant
    c.split_piece-piece.ensures.pieces
    (sym c.in_ok-read.ensures ∙ c.in-None.is) in
    sym none

pub returns : goal.returns
unfolding specs_in
returns g c =
    let over : length c.loop-rest.rest ≡ 0 = grind (arith, nat_tests, c.loop-rest-test.ensures) in
    let read = g.R.ReadSpec.reads c.args.reader.now in
    sym (each-ends read (pieces m.Semi c.args.words.now) _ _ c.loop-rest.invariant
    (no-pieces m.Semi _ over))
