use Rattle.std.proofs.Common.{◌≡◌, ◌∙◌, sym, append-nil, length, arith, ◌++◌, ap}
use Rattle.std.proofs.lemmas.Bool.Decides.{nat_tests}
use Rattle.go_ast.specs.declared.word.Mark.TheVariants as m
use Rattle.type_parser.proofs.Pieces.{no-pieces}
use Rattle.type_parser.proofs.signature.entries_of.Goals as goal

pub returns : goal.returns
returns c =
    let over : length c.loop-rest.rest ≡ 0 = grind (arith, nat_tests, c.loop-rest-test.ensures) in
    sym (append-nil c.loop-rest.found.items)
    ∙ ap (λ ps. c.loop-rest.found.items ++ ps) (sym (no-pieces m.Comma c.loop-rest.rest over))
    ∙ c.loop-rest.invariant
