use Rattle.std.proofs.Common.{arith}
use Rattle.go_scanner.proofs.ClassTable.{class_at}
use Rattle.go_scanner.proofs.class.class_of.Goals as goal

pub returns : goal.returns
returns c = class_at c.args.byte (omega arith)
