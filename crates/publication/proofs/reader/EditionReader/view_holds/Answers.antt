use Rattle.std.proofs.Common.{subst}
use Rattle.publication.specs.View.{IsView}
use Rattle.publication.proofs.Reading.{view_holds}
use Rattle.publication.proofs.reader.EditionReader.view_holds.Goals as goal

pub returns : goal.returns
returns g c = subst (λ view. IsView view) c.self.view_is (view_holds _ _ _ _ c.self.invariant)
