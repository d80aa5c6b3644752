use Rattle.http_wire.proofs.StreamLemmas.{Requests_unique}
use Rattle.http_wire.proofs.laws.requests_are_unique.Goals as goal

pub returns : goal.returns
returns c = Requests_unique
