-- The history is never closed.
use Rattle.std.proofs.Common.{◌≡◌, false}
use Rattle.tests_serving.proofs.editions.publish_up_to.Given as goal

abbrev pub invariant-loop : goal.invariant-loop
invariant-loop g l = l.publisher.closed ≡ false
