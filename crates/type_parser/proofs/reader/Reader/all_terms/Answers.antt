use Rattle.std.proofs.Common.{◌≡◌, ◌∙◌, sym, length, arith}
use Rattle.std.proofs.lemmas.Bool.Decides.{nat_tests}
use Rattle.go_ast.specs.declared.word.Mark.TheVariants as m
use Rattle.go_ast.specs.Cutting.{pieces}
use Rattle.type_parser.specs.Reading.{type_of, read_term}
use Rattle.type_parser.specs.Members.{terms_in}
use Rattle.type_parser.proofs.Options.{each-stops, each-ends}
use Rattle.type_parser.proofs.Pieces.{no-pieces}
use Rattle.type_parser.proofs.reader.Reader.all_terms.Goals as goal

pub returns-in-None : goal.returns-in-None
unfolding terms_in
returns-in-None g c =
    let read = read_term (type_of c.args.self.now.levels) in
    let none = each-stops read (pieces m.Bar c.args.words.now) _ _ _ _ c.loop-rest.invariant
    c.split_piece-piece.ensures.pieces
    (sym c.in_ok-term.ensures ∙ c.in-None.is) in
    sym none

pub returns : goal.returns
unfolding terms_in
returns g c =
    let over : length c.loop-rest.rest ≡ 0 = grind (arith, nat_tests, c.loop-rest-test.ensures) in
    let read = read_term (type_of c.args.self.now.levels) in
    sym (each-ends read (pieces m.Bar c.args.words.now) _ _ c.loop-rest.invariant
    (no-pieces m.Bar _ over))
