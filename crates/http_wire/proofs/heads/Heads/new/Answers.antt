use Rattle.http_wire.specs.Requests.{none_yet}
use Rattle.http_wire.proofs.heads.Heads.new.Goals as goal

pub returns-clause-given : goal.returns-clause-given
returns-clause-given c = rw c.in_ok-with_capacity.ensures.items none_yet
