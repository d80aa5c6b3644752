use Rattle.name_scope.specs.Scopes.{predeclared}
use Rattle.name_scope.proofs.predeclared.number_of.Goals as goal

pub returns : goal.returns
unfolding predeclared
returns c = c.place_among.ensures
