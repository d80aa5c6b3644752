use Rattle.std.proofs.Common.{◌≡◌, ◌++◌, map, drop}
use Rattle.std.specs.List.{filter_map}
use Rattle.std.specs.Option.{option_to_list}
use Rattle.doc_order.specs.Slots.{slot_of}
use Rattle.doc_order.proofs.place.slot_of_results.Given as goal

-- the slot so far, and those of the results that are left
abbrev pub invariant-loop-base : goal.invariant-loop-base
invariant-loop-base l =
    let slots = slot_of (map (λ it. it.now) l.names)
    in option_to_list l.found ++ filter_map slots (drop l.base-index l.results) ≡ filter_map slots
    l.results
