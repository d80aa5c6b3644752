use Rattle.std.proofs.Common.{◌≡◌, ◌∙◌, sym, length, arith}
use Rattle.std.proofs.lemmas.Bool.Decides.{nat_tests}
use Rattle.go_ast.specs.declared.word.Mark.TheVariants as m
use Rattle.go_ast.specs.Cutting.{pieces}
use Rattle.type_parser.specs.Reading.{list, type_of}
use Rattle.type_parser.proofs.Options.{each-stops, each-ends}
use Rattle.type_parser.proofs.Pieces.{no-pieces}
use Rattle.type_parser.proofs.reader.Reader.list.Goals as goal

pub returns-in-None : goal.returns-in-None
unfolding list
returns-in-None g c =
    let none = each-stops (type_of c.args.self.now.levels) (pieces m.Comma c.args.words.now) _ _ _ _
    c.loop-rest.invariant c.split_piece-piece.ensures.pieces
    (sym c.in_ok-part.ensures ∙ c.in-None.is) in
    rw none

pub returns : goal.returns
unfolding list
returns g c =
    let over : length c.loop-rest.rest ≡ 0 = grind (arith, nat_tests, c.loop-rest-test.ensures) in
    let all = each-ends (type_of c.args.self.now.levels) (pieces m.Comma c.args.words.now) _ _
    c.loop-rest.invariant (no-pieces m.Comma _ over) in
    rw (all, c.not_empty.ensures)
