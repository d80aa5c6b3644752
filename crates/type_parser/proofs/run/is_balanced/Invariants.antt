use Rattle.std.proofs.Common.{◌≡◌, [], drop, reverse}
use Rattle.go_ast.specs.Cutting.{balanced}
use Rattle.type_parser.specs.Matching.{plain}
use Rattle.type_parser.proofs.run.is_balanced.Given as goal

abbrev pub invariant-loop-item : goal.invariant-loop-item
invariant-loop-item l = balanced [] (plain l.items)
    ≡ balanced (reverse l.expected.items) (plain (drop l.item-index l.items))
