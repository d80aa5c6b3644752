-- Each reader so far is a newcomer.
use Rattle.std.proofs.Common.{◌≡◌, drop, All, vec_len}
use Rattle.left_right.specs.Sides.{view as sight}
use Rattle.publication.specs.View.{newcomer}
use Rattle.publication.specs.Readers.{opening_by}
use Rattle.publication.proofs.opening.add_readers.Given as goal

abbrev pub invariant-loop : goal.invariant-loop
invariant-loop g l = record {
  shown : l.writer.desk.shown ≡ l.initial.writer.desk.shown;
  pending : drop l.writer.behind l.writer.log.items ≡ drop l.initial.writer.behind
      l.initial.writer.log.items;
  sight : sight l.writer.desk.place ≡ sight l.initial.writer.desk.place;
  len : vec_len l.all ≡ l.counter;
  newcomers : All (λ reader. reader ≡ newcomer (opening_by l.origin)) l.all.items;
}
