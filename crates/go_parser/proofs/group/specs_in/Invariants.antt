use Rattle.std.proofs.Common.{◌≡◌, length}
use Rattle.go_ast.specs.Cutting.{pieces}
use Rattle.go_ast.specs.declared.word.Mark.TheVariants as m
use Rattle.type_parser.specs.Reading.{each, with_front}
use Rattle.go_parser.proofs.group.specs_in.Given as goal

-- what is found and what the rest gives is what all gives
abbrev pub invariant-loop-rest : goal.invariant-loop-rest
invariant-loop-rest g l = each (g.R.ReadSpec.reads l.reader) (pieces m.Semi l.words)
    ≡ with_front l.found (each (g.R.ReadSpec.reads l.reader) (pieces m.Semi l.rest))

abbrev pub decreases-loop-rest : goal.decreases-loop-rest
decreases-loop-rest g l = length l.rest
