use Rattle.std.proofs.Common.{◌≡◌, ◌++◌, length}
use Rattle.std.specs.List.{fold}
use Rattle.std.specs.Vec.Iter.{into_iter_items}
use Rattle.piece_crew.specs.Bundles.{placed}
use Rattle.piece_crew.proofs.order.place.Given as goal

abbrev pub invariant-loop-number : goal.invariant-loop-number
invariant-loop-number g l =
    (l.yielded ++ into_iter_items l.number-iterator ≡ l.fn.pieces.items)
    × (l.places.items ≡ fold placed l.initial.places.items l.yielded)
    × (length l.places.items ≡ length l.initial.places.items)
