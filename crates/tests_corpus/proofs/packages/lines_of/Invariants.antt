use Rattle.std.proofs.Common.{All}
use Rattle.tree_io.specs.Path.{Belongs}
use Rattle.tests_corpus.proofs.packages.lines_of.Given as goal

abbrev pub invariant-loop-path : goal.invariant-loop-path
invariant-loop-path g l = All (λ file. Belongs file.path) l.facts.items
