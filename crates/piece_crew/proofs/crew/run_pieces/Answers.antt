use Rattle.std.proofs.Common.{◌≡◌, ap, ◌∙◌, length, map, replicate}
use Rattle.std.specs.Prelude.{None, Some}
use Rattle.std.proofs.lemmas.Result.{IfOk-weaker}
use Rattle.piece_crew.specs.Jobs.{AreInOrder}
use Rattle.piece_crew.proofs.Ordering.{all_taken, finished, in_order, seats_are, seats_of}
use Rattle.piece_crew.proofs.crew.run_pieces.Goals as goal

pub close-claimed-requires : goal.close-claimed-requires
close-claimed-requires g c =
    let jobs = g.J.Job.jobs c.args.all.now in
    seats_of (g.J.Job.gives c.args.all.now) jobs c.in_ok-bundles.bundles.items c.from_vec.result c.in_ok-bundles.ensures
    (seats_are c.in_ok-bundles.bundles.items c.in_ok-seats.seats.items c.take_apart.new.seats.items c.from_vec.result c.from_vec.ensures c.in_ok-take_apart.ensures.seats c.in_ok-seats.ensures.items)

pub outputs_of-requires : goal.outputs_of-requires
outputs_of-requires g c =
    let jobs = g.J.Job.jobs c.args.all.now in
    let gives = g.J.Job.gives c.args.all.now in
    let seats = seats_are c.in_ok-bundles.bundles.items c.in_ok-seats.seats.items c.take_apart.new.seats.items c.from_vec.result c.from_vec.ensures c.in_ok-take_apart.ensures.seats c.in_ok-seats.ensures.items in
    all_taken gives jobs c.take_apart.new.places.items
    (finished gives jobs c.close-claimed.result c.in_ok-bundles.bundles.items c.from_vec.result c.in_ok-places.places.items c.take_apart.new.places.items
    c.in_ok-bundles.ensures seats c.close-claimed.ensures.claims c.close-claimed.ensures.total (c.in_ok-places.ensures ∙ ap (λ n. replicate n None) c.count.ensures) c.in_ok-take_apart.ensures.places)

pub returns : goal.returns
returns g c =
    let jobs = g.J.Job.jobs c.args.all.now in
    let gives = g.J.Job.gives c.args.all.now in
    let seats = seats_are c.in_ok-bundles.bundles.items c.in_ok-seats.seats.items c.take_apart.new.seats.items c.from_vec.result c.from_vec.ensures c.in_ok-take_apart.ensures.seats c.in_ok-seats.ensures.items in
    let places = c.take_apart.new.places.items in
    let placed = finished gives jobs c.close-claimed.result c.in_ok-bundles.bundles.items c.from_vec.result c.in_ok-places.places.items places
    c.in_ok-bundles.ensures seats c.close-claimed.ensures.claims c.close-claimed.ensures.total (c.in_ok-places.ensures ∙ ap (λ n. replicate n None) c.count.ensures) c.in_ok-take_apart.ensures.places in
    record {
      count = IfOk-weaker c.outputs_of.result (λ outputs. map Some outputs ≡ places) (λ outputs. length outputs ≡ jobs) (λ outputs same. (in_order gives jobs places outputs placed same).0) c.outputs_of.ensures;
      order = IfOk-weaker c.outputs_of.result (λ outputs. map Some outputs ≡ places) (AreInOrder gives) (λ outputs same. (in_order gives jobs places outputs placed same).1) c.outputs_of.ensures;
    }
