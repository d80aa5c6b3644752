use Rattle.std.proofs.Common.{sym}
use Rattle.http_wire.specs.Fields.{announces_body}
use Rattle.http_wire.proofs.FieldLemmas.{any_here, none_more}
use Rattle.http_wire.proofs.fields.some_announces_body.Goals as goal

pub returns-then-announces_body : goal.returns-then-announces_body
returns-then-announces_body c =
    sym (any_here announces_body c.args.buffer.now c.args.fields.now c.loop-field.field-index _ _ c.loop-field-test.true
    c.announces_body.ensures c.if-announces_body.true)

pub loop-field-preserved : goal.loop-field-preserved
loop-field-preserved c =
    none_more announces_body c.args.buffer.now c.args.fields.now c.loop-field.field-index _ _ c.loop-field-test.true
    c.announces_body.ensures c.if-announces_body.false c.loop-field.invariant
