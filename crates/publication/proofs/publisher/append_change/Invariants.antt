-- The change is still to be handed over.
use Rattle.std.proofs.Common.{◌≡◌, drop}
use Rattle.publication.proofs.publisher.append_change.Given as goal

abbrev pub invariant-loop : goal.invariant-loop
invariant-loop g l = record {
  desk : l.writer.desk ≡ l.initial.writer.desk;
  pending : drop l.writer.behind l.writer.log.items ≡ drop l.initial.writer.behind
      l.initial.writer.log.items;
  change : l.change ≡ l.initial.change;
}
