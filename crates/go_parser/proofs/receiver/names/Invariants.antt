use Rattle.std.proofs.Common.{◌≡◌, length}
use Rattle.go_ast.specs.Cutting.{pieces}
use Rattle.go_ast.specs.declared.word.Mark.TheVariants as m
use Rattle.type_parser.specs.Reading.{each, with_front}
use Rattle.go_parser.specs.Reading.{read_name}
use Rattle.go_parser.proofs.receiver.names.Given as goal

-- what is found and what the rest gives is what all gives
abbrev pub invariant-loop-rest : goal.invariant-loop-rest
invariant-loop-rest l = each read_name (pieces m.Comma l.words)
    ≡ with_front l.found (each read_name (pieces m.Comma l.rest))

abbrev pub decreases-loop-rest : goal.decreases-loop-rest
decreases-loop-rest l = length l.rest
