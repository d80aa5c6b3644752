use Rattle.std.proofs.Common.{◌≡◌, ◌∙◌, length, arith}
use Rattle.std.proofs.lemmas.Bool.Decides.{nat_tests}
use Rattle.go_ast.specs.declared.word.Mark.TheVariants as m
use Rattle.type_parser.proofs.Pieces.{one-piece, no-one-piece}
use Rattle.type_parser.proofs.type_params.is_one_piece.Goals as goal

pub returns-then-is_empty : goal.returns-then-is_empty
returns-then-is_empty c =
    let none : length c.args.words.now ≡ 0 =
    grind (arith, nat_tests, c.is_empty.ensures, c.if-is_empty.true) in
    no-one-piece m.Comma c.args.words.now none

pub returns : goal.returns
returns c = c.is_empty-2.ensures
    ∙ one-piece m.Comma c.args.words.now c.split_piece-rest.result.0 c.split_piece-rest.result.1
    c.split_piece-rest.ensures.pieces
