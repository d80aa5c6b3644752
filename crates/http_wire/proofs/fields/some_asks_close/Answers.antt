use Rattle.std.proofs.Common.{sym}
use Rattle.http_wire.specs.Fields.{asks_close}
use Rattle.http_wire.proofs.FieldLemmas.{any_here, none_more}
use Rattle.http_wire.proofs.fields.some_asks_close.Goals as goal

pub returns-then-asks_close : goal.returns-then-asks_close
returns-then-asks_close c =
    sym (any_here asks_close c.args.buffer.now c.args.fields.now c.loop-field.field-index _ _ c.loop-field-test.true
    c.asks_close.ensures c.if-asks_close.true)

pub loop-field-preserved : goal.loop-field-preserved
loop-field-preserved c =
    none_more asks_close c.args.buffer.now c.args.fields.now c.loop-field.field-index _ _ c.loop-field-test.true
    c.asks_close.ensures c.if-asks_close.false c.loop-field.invariant
