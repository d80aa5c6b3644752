use Rattle.piece_crew.proofs.Ordering.{same_outputs}
use Rattle.piece_crew.proofs.laws.outputs_do_not_depend_on_the_workers.Goals as goal

pub returns : goal.returns
returns g c = λ all these those. same_outputs (g.J.Job.gives all) (g.J.Job.jobs all) these those
