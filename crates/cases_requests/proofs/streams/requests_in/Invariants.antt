use Rattle.std.proofs.Common.{◌≡◌, false}
use Rattle.cases_requests.proofs.streams.requests_in.Given as goal

abbrev pub invariant-loop-piece : goal.invariant-loop-piece
invariant-loop-piece l = l.heads.ended ≡ false
