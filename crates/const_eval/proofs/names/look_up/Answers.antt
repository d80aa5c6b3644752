use Rattle.std.proofs.Common.{sym}
use Rattle.const_eval.proofs.Characters.{none_named}
use Rattle.const_eval.proofs.names.look_up.Goals as goal

pub returns-in-Err : goal.returns-in-Err
returns-in-Err c = sym (none_named c.args.name.now c.in-Err.ensures.cases.0 c.args.values.now)
