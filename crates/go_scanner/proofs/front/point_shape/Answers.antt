use Rattle.std.proofs.Common.{sym, ◌∙◌}
use Rattle.go_scanner.proofs.Dispatch.{at_point_number, at_point_other}
use Rattle.go_scanner.proofs.front.point_shape.Goals as goal

pub returns-then-begins_number : goal.returns-then-begins_number
returns-then-begins_number c = c.number_shape.ensures
    ∙ sym (at_point_number c.args.bytes.now c.requires
    (sym c.begins_number.ensures ∙ c.if-begins_number.true))

pub returns-else-begins_number : goal.returns-else-begins_number
returns-else-begins_number c = c.operator_shape.ensures
    ∙ sym (at_point_other c.args.bytes.now c.requires
    (sym c.begins_number.ensures ∙ c.if-begins_number.false))
