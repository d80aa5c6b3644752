-- So many first bytes of the piece were added.
use Rattle.std.proofs.Common.{◌≡◌, ◌≤◌, ◌-◌, length, take}
use Rattle.link_io.specs.Beside.{Leaves}
use Rattle.link_io.specs.Streams.{Adds}
use Rattle.link_io.proofs.sink.write_whole.Given as goal

abbrev pub invariant-loop-written : goal.invariant-loop-written
invariant-loop-written g l = record {
  within : l.written ≤ length l.piece;
  added : Adds (g.O.Sink.held l.initial.out) (take l.written l.piece) (g.O.Sink.held l.out);
  no_fault : g.O.Sink.write_faults l.out ≡ g.O.Sink.write_faults l.initial.out;
  leaves : Leaves g.O.Sink.beside g.O.Sink.references l.initial.out l.out;
}

abbrev pub decreases-loop-written : goal.decreases-loop-written
decreases-loop-written g l = length l.initial.piece - l.written
