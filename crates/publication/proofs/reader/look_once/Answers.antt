use Rattle.publication.proofs.Steps.{looks}
use Rattle.publication.proofs.reader.look_once.Goals as goal

pub enter_as-requires : goal.enter_as-requires
enter_as-requires g c slot = looks _ _ slot
