use Rattle.go_scanner.proofs.Marks.{operator_shape_found}
use Rattle.go_scanner.proofs.mark.operator_shape.Goals as goal

pub returns-else-length-eq0 : goal.returns-else-length-eq0
returns-else-length-eq0 c =
    operator_shape_found c.args.rest.now _ _ (cc) c.if-length-eq0.false c.mark_shape.ensures
