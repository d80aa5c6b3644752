-- Nothing was published, and the change alone waits.
use Rattle.std.proofs.Common.{◌≡◌, [], ◌∷◌, drop}
use Rattle.publication.proofs.publisher.publish_change.Given as goal

abbrev pub invariant-loop : goal.invariant-loop
invariant-loop g l = record {
  desk : l.writer.desk.shown.value ≡ l.fn.writer.desk.shown.value;
  pending : drop l.writer.behind l.writer.log.items ≡ l.fn.change ∷ [];
}
