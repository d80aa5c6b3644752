use Rattle.publication.proofs.Steps.{glances}
use Rattle.publication.proofs.reader.glance_once.Goals as goal

pub enter_as-requires : goal.enter_as-requires
enter_as-requires g c slot = glances _ _ slot
