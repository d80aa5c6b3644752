use Rattle.go_parser.proofs.Steps.{at-first}
use Rattle.go_parser.proofs.cutter.Cutter.new.Goals as goal

pub returns : goal.returns
returns c = λ words. rw (c.new.ensures.items, c.new-2.ensures.items) (at-first words)
