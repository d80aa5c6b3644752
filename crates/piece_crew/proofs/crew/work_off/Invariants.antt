use Rattle.std.proofs.Common.{◌≡◌, ℕ, ◌-◌, ◌<◌, ◌≤◌, [], map, length, All}
use Rattle.piece_crew.proofs.crew.work_off.Given as goal

abbrev pub invariant-loop-number : goal.invariant-loop-number
invariant-loop-number g l = record {
  word : l.seat.word ≡ l.fn.seat.word;
  open_seat : l.seat.past ≡ [];
  numbers : l.seat.claimed ≡ map (λ piece. piece.number) l.pieces.items;
  within : All (λ piece. piece.number < l.fn.seat.word.total) l.pieces.items;
  gives : All (λ piece. g.J.Job.gives l.all piece.number piece.output) l.pieces.items;
  room : (bound : ℕ) → All (λ number. number < bound) l.seat.claimed → length l.seat.claimed ≤ bound;
}

abbrev pub decreases-loop-number : goal.decreases-loop-number
decreases-loop-number g l = l.seat.word.total - length l.seat.claimed
