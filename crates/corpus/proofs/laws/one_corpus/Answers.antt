use Rattle.corpus.proofs.OneCorpus.{same_corpus}
use Rattle.corpus.proofs.laws.one_corpus.Goals as goal

pub returns : goal.returns
returns c = same_corpus c.one_outcome.ensures.one c.one_grouping.ensures c.one_table.ensures
