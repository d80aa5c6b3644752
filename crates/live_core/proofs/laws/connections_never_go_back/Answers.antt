use Rattle.std.proofs.Common.{[]}
use Rattle.live_core.specs.Events.{core_answers, editions_to}
use Rattle.live_core.proofs.Falling.{climbs-never_falls, editions-climb}
use Rattle.live_core.proofs.laws.connections_never_go_back.Goals as goal

pub returns : goal.returns
returns c opening connection all = climbs-never_falls 1 (editions_to connection all
    (core_answers opening all)) (editions-climb opening connection [] all)
