use Rattle.std.proofs.Common.{All}
use Rattle.ident_index.specs.Postings.{HasNames}
use Rattle.tests_corpus.proofs.identifiers.index.Given as goal

abbrev pub invariant-loop-source : goal.invariant-loop-source
invariant-loop-source l = All (λ file. HasNames file.source.now file.hits.now) l.files.items
