-- What was read was fed, and nothing is decided yet.
use Rattle.std.proofs.Common.{◌≡◌}
use Rattle.session.specs.Incoming.{KnowsEnd}
use Rattle.session.proofs.IncomingLemmas.{HasHeard, remaining}
use Rattle.session.proofs.incoming.next_head.Given as goal

abbrev pub invariant-loop-link : goal.invariant-loop-link
invariant-loop-link g l = record {
  heard : HasHeard (g.L.Source.remaining l.initial.link) (g.L.Source.remaining l.link)
      l.initial.heads l.heads;
  end : KnowsEnd (g.L.Source.remaining l.initial.link) l.initial.heads
      → KnowsEnd (g.L.Source.remaining l.link) l.heads;
  read_faults : g.L.Source.read_faults l.link ≡ g.L.Source.read_faults l.initial.link;
  held : g.L.Sink.held l.link ≡ g.L.Sink.held l.initial.link;
  write_faults : g.L.Sink.write_faults l.link ≡ g.L.Sink.write_faults l.initial.link;
  same_references : g.L.Source.references l.link ≡ g.L.Source.references l.initial.link;
}

abbrev pub decreases-loop-link : goal.decreases-loop-link
decreases-loop-link g l = remaining l.heads
