use Rattle.std.proofs.Common.{◌≡◌, ◌++◌, map, length}
use Rattle.std.specs.List.{fold}
use Rattle.std.specs.Vec.Iter.{into_iter_items}
use Rattle.piece_crew.specs.Bundles.{place_all}
use Rattle.piece_crew.proofs.order.take_apart.Given as goal

abbrev pub invariant-loop-seat : goal.invariant-loop-seat
invariant-loop-seat g l =
    (l.yielded ++ into_iter_items l.seat-iterator ≡ l.fn.bundles.items)
    × (l.places.items ≡ fold place_all l.initial.places.items l.yielded)
    × (length l.places.items ≡ length l.initial.places.items)
    × (l.seats.items ≡ l.initial.seats.items ++ map (λ bundle. bundle.seat) l.yielded)
