use Rattle.std.proofs.Common.{◌≡◌, ◌+◌, [], length, All}
use Rattle.piece_crew.specs.Claims.{Seat, fresh}
use Rattle.piece_crew.proofs.claims.Claims.make.Given as goal

abbrev pub invariant-loop : goal.invariant-loop
invariant-loop l = record {
  rest : (l.rest.seat.me.0.total ≡ l.total) × (l.rest.seat.me.0.made ≡ l.seats) × (l.rest.seat.me.0.claimed ≡ []) × (l.rest.seat.me.0.past ≡ []);
  count : (length l.all.items + l.rest.seat.me.0.seats ≡ l.seats) × (length l.all.items + 1 ≡ l.counter);
  each : All (λ (seat : Seat). seat ≡ fresh (record { id = l.rest.seat.table_id; total = l.total; seats = l.seats })) l.all.items;
}
