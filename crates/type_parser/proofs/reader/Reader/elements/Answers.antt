use Rattle.std.proofs.Common.{◌≡◌, ◌∙◌, sym, length, arith}
use Rattle.std.proofs.lemmas.Bool.Decides.{nat_tests}
use Rattle.go_ast.specs.declared.word.Mark.TheVariants as m
use Rattle.go_ast.specs.Cutting.{pieces}
use Rattle.type_parser.specs.Reading.{type_of, read_element}
use Rattle.type_parser.specs.Members.{elements_in}
use Rattle.type_parser.proofs.Options.{each-stops, each-ends}
use Rattle.type_parser.proofs.Pieces.{no-pieces}
use Rattle.type_parser.proofs.reader.Reader.elements.Goals as goal

pub returns-in-None : goal.returns-in-None
unfolding elements_in
returns-in-None g c =
    let read = read_element (type_of c.args.self.now.levels) in
    let none = each-stops read (pieces m.Semi c.args.words.now) _ _ _ _ c.loop-rest.invariant
    c.split_piece-piece.ensures.pieces
    (sym c.in_ok-element.ensures ∙ c.in-None.is) in
    sym none

pub returns : goal.returns
unfolding elements_in
returns g c =
    let over : length c.loop-rest.rest ≡ 0 = grind (arith, nat_tests, c.loop-rest-test.ensures) in
    let read = read_element (type_of c.args.self.now.levels) in
    sym (each-ends read (pieces m.Semi c.args.words.now) _ _ c.loop-rest.invariant
    (no-pieces m.Semi _ over))
