use Rattle.std.proofs.Common.{◌≡◌, map, drop, fold}
use Rattle.doc_order.specs.Slots.{slot_of, with_member_at}
use Rattle.doc_order.proofs.lists.Lists.fill.Given as goal

-- what is left to be put makes of the lists so far what all numbers make of the lists at the start
abbrev pub invariant-loop-number : goal.invariant-loop-number
invariant-loop-number l =
    let put = with_member_at l.members (slot_of (map (λ it. it.now) l.names))
    in fold put l.self (drop l.number-index l.numbers) ≡ fold put l.fn.self l.numbers
