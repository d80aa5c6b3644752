use Rattle.tree_io.proofs.Leading.{names_that_lead}
use Rattle.tree_io.proofs.names.names_that_lead.Goals as goal

pub returns : goal.returns
returns c = names_that_lead
