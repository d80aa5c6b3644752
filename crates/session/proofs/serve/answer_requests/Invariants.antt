-- The first requests were answered, none of them closes, and the reader of heads knows the input as
-- ended only where it is.
use Rattle.std.proofs.Common.{◌≡◌}
use Rattle.publication.specs.View.{OnlySees}
use Rattle.session.specs.Incoming.{KnowsEnd}
use Rattle.session.proofs.Progress.{Progress}
use Rattle.session.proofs.serve.answer_requests.Given as goal

abbrev pub invariant-loop-answered : goal.invariant-loop-answered
invariant-loop-answered g l = record {
  progress : Progress (g.R.Responder.reply_of l.site) (g.L.Source.remaining l.initial.link)
      (g.L.Source.remaining l.link) (g.L.Sink.held l.initial.link) (g.L.Sink.held l.link)
      l.initial.reader l.reader l.heads.rest l.answered;
  end : KnowsEnd (g.L.Source.remaining l.link) l.heads;
  read_faults : g.L.Source.read_faults l.link ≡ g.L.Source.read_faults l.initial.link;
  write_faults : g.L.Sink.write_faults l.link ≡ g.L.Sink.write_faults l.initial.link;
  same_references : g.L.Source.references l.link ≡ g.L.Source.references l.initial.link;
  looks : l.reader.looks ≡ l.initial.reader.looks;
  only_sees : OnlySees l.initial.reader l.reader;
}
