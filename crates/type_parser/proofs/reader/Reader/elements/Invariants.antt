use Rattle.std.proofs.Common.{◌≡◌, length}
use Rattle.go_ast.specs.Cutting.{pieces}
use Rattle.go_ast.specs.declared.word.Mark.TheVariants as m
use Rattle.type_parser.specs.Reading.{type_of, each, with_front, read_element}
use Rattle.type_parser.proofs.reader.Reader.elements.Given as goal

-- what is found and what the rest gives is what all gives
abbrev pub invariant-loop-rest : goal.invariant-loop-rest
invariant-loop-rest g l = each (read_element (type_of l.self.levels)) (pieces m.Semi l.words)
    ≡ with_front l.found (each (read_element (type_of l.self.levels)) (pieces m.Semi l.rest))

abbrev pub decreases-loop-rest : goal.decreases-loop-rest
decreases-loop-rest g l = length l.rest
