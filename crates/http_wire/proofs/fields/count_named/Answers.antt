use Rattle.std.proofs.Common.{◌+◌, cond, ap, sym, ◌∙◌, arith}
use Rattle.http_wire.proofs.FieldLemmas.{count_more}
use Rattle.http_wire.proofs.fields.count_named.Goals as goal
use Rattle.http_wire.proofs.fields.count_named.Goals.{then-is_named, else-is_named}

pub loop-field-preserved : goal.loop-field-preserved
loop-field-preserved c =
    let count = c.loop-field.count in
    elim c.if-is_named.branch [
      | then-is_named w ↦ (
        omega arith,
        count_more c.args.name.now c.args.buffer.now c.args.fields.now c.loop-field.field-index _ _ count _ c.loop-field-test.true
            c.is_named.ensures c.loop-field.invariant.1 (w.count-is ∙ ap (λ b. cond b (count + 1) count) (sym w.if-is_named.true)),
      )
      | else-is_named w ↦ (
        omega arith,
        count_more c.args.name.now c.args.buffer.now c.args.fields.now c.loop-field.field-index _ _ count _ c.loop-field-test.true
            c.is_named.ensures c.loop-field.invariant.1 (w.count-is ∙ ap (λ b. cond b (count + 1) count) (sym w.if-is_named.false)),
      )
    ]
