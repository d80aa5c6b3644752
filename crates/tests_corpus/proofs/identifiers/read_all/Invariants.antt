use Rattle.std.proofs.Common.{All}
use Rattle.ident_index.specs.Postings.{HasNames}
use Rattle.tests_corpus.proofs.identifiers.read_all.Given as goal

abbrev pub invariant-loop-number : goal.invariant-loop-number
invariant-loop-number g l = All (λ s. HasNames s.text s.hits) l.sources.items
