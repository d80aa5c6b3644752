use Rattle.http_wire.proofs.ExistenceLemmas.{has_requests}
use Rattle.http_wire.proofs.laws.each_stream_has_requests.Goals as goal

pub returns : goal.returns
returns c = has_requests
