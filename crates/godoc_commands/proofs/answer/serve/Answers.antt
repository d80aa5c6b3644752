-- Where nothing is begun for lack of memory, nothing is read or written.
use Rattle.godoc_commands.proofs.Sessions.{Serves-unbegun}
use Rattle.godoc_commands.proofs.answer.serve.Goals as goal

pub returns-in_default-clause-session : goal.returns-in_default-clause-session
returns-in_default-clause-session g c = Serves-unbegun c.args.edition _ _

pub returns-in_default-new-clause-session : goal.returns-in_default-new-clause-session
returns-in_default-new-clause-session g c = Serves-unbegun c.args.edition _ _

pub returns-in_default-open_editions-clause-session :
    goal.returns-in_default-open_editions-clause-session
returns-in_default-open_editions-clause-session g c = Serves-unbegun c.args.edition _ _
