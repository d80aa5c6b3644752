use Rattle.std.proofs.lemmas.List.Sums.{AllPass-from_list_all}
use Rattle.live_core.specs.Events.{core_answers, is_legal}
use Rattle.live_core.specs.Trail.{trail_of}
use Rattle.live_core.proofs.Trails.{trail-verdict}
use Rattle.live_core.proofs.laws.trails_are_legal.Goals as goal

pub returns-clause-legal : goal.returns-clause-legal
returns-clause-legal c pieces entries known =
    AllPass-from_list_all is_legal (core_answers 1 (trail_of pieces entries))
    (trail-verdict pieces entries known).0

pub returns-clause-served : goal.returns-clause-served
returns-clause-served c pieces entries known = (trail-verdict pieces entries known).1
