use Rattle.http_wire.proofs.StreamLemmas.{Requests-append_bad}
use Rattle.http_wire.proofs.laws.bad_streams_stay_bad.Goals as goal

pub returns : goal.returns
returns c = Requests-append_bad
