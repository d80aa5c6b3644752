use Rattle.std.proofs.Common.{rules, ◌≡◌, ◌∙◌, ap, set, sym}
use Rattle.std.proofs.lemmas.Result.{on_ok_weaker}
use Rattle.doc_order.specs.Slots.{changed_at, with_number}
use Rattle.doc_order.proofs.FillLemmas.{set-changed, unchanged-past}
use Rattle.doc_order.proofs.lists.put_in_slot.Goals as goal

pub returns-then-slot-types : goal.returns-then-slot-types
returns-then-slot-types c =
    on_ok_weaker c.put_under.result
    (λ e. ap (λ doc. set c.args.types.now c.args.slot doc) e
    ∙ set-changed (λ doc. with_number doc c.args.kind c.args.number) c.args.types.now c.args.slot
    c.index-types-slot.result c.if-slot-types.true)
    c.put_under.ensures

pub returns-else-slot-types : goal.returns-else-slot-types
returns-else-slot-types c =
    sym (unchanged-past (λ doc. with_number doc c.args.kind c.args.number) c.args.types.now
    c.args.slot c.if-slot-types.false)
