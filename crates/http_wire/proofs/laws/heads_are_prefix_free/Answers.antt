use Rattle.http_wire.proofs.StreamLemmas.{IsHead_prefix_free}
use Rattle.http_wire.proofs.laws.heads_are_prefix_free.Goals as goal

pub returns : goal.returns
returns c = IsHead_prefix_free
