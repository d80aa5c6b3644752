use Rattle.corpus.proofs.HitsByName.{has_hits_by_name}
use Rattle.corpus.proofs.laws.hits_by_name.Goals as goal

pub returns : goal.returns
returns c = has_hits_by_name
