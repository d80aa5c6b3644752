use Rattle.std.proofs.Common.{◌≡◌, ◌++◌, length}
use Rattle.go_ast.specs.Cutting.{pieces}
use Rattle.go_ast.specs.declared.word.Mark.TheVariants as m
use Rattle.type_parser.proofs.signature.entries_of.Given as goal

abbrev pub invariant-loop-rest : goal.invariant-loop-rest
invariant-loop-rest l = l.found.items ++ pieces m.Comma l.rest ≡ pieces m.Comma l.words

abbrev pub decreases-loop-rest : goal.decreases-loop-rest
decreases-loop-rest l = length l.rest
