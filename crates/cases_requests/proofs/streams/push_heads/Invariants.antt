use Rattle.std.proofs.Common.{◌≡◌}
use Rattle.cases_requests.proofs.streams.push_heads.Given as goal

abbrev pub invariant-loop : goal.invariant-loop
invariant-loop l = l.heads.ended ≡ l.fn.heads.ended
