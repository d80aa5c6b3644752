use Rattle.publication.proofs.Steps.{enters}
use Rattle.publication.proofs.reader.enter_once.Goals as goal

pub enter_as-requires : goal.enter_as-requires
enter_as-requires g c slot = enters _ _ slot
