use Rattle.std.proofs.Common.{length}
use Rattle.piece_crew.proofs.Closing.{IsJoined}
use Rattle.piece_crew.proofs.claims.Claims.close.Given as goal

abbrev pub invariant-loop-seat : goal.invariant-loop-seat
invariant-loop-seat l = IsJoined l.fn.seats l.seats.items l.whole.seat.table_id l.whole.seat.me.0

abbrev pub decreases-loop-seat : goal.decreases-loop-seat
decreases-loop-seat l = length l.seats.items
