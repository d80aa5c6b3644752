use Rattle.std.proofs.Common.{◌≡◌, ◌++◌, [], map, drop}
use Rattle.doc_order.specs.Documentation.{at_number, key_of}
use Rattle.doc_order.proofs.listing.keys_at.Given as goal

-- the keys so far, and those of the numbers that are left
abbrev pub invariant-loop-number : goal.invariant-loop-number
invariant-loop-number l =
    map (λ it. it.now) l.keys.items
    ++ map (at_number key_of [] l.members) (drop l.number-index l.numbers)
    ≡ map (at_number key_of [] l.members) l.numbers
