use Rattle.std.proofs.Common.{◌≡◌, ◌++◌, map, drop}
use Rattle.doc_order.specs.Slots.{bare_type}
use Rattle.doc_order.proofs.lists.bare_types.Given as goal

-- the types so far, and those of the numbers that are left
abbrev pub invariant-loop-number : goal.invariant-loop-number
invariant-loop-number l = l.docs.items ++ map bare_type (drop l.number-index l.numbers) ≡ map
    bare_type l.numbers
