-- By whether a scan is under way, and what the draft answered.
use Rattle.live_core.proofs.Flags.{finishes-ok, finishes-err}
use Rattle.live_core.proofs.Following.{piece-no_scan, piece-refused, piece-finished}
use Rattle.live_core.proofs.machine.Core.finish.Goals as goal
use Rattle.live_core.proofs.machine.Core.finish.Goals.{in-None, in-Some+in-Ok, in-Some+in-Err}

pub returns : goal.returns
returns c worker = elim c.match-self.branch [
  | in-None w ↦
      rw (w.result-is, w.self-inside-is, ← c.self.view_is) (piece-no_scan _ worker c.args.index
      w.in-None.is)
  | in-Some+in-Ok w ↦
      rw (w.result-is, w.self-inside-is, ← c.self.view_is)
      (piece-finished _ w.in-Some.draft w.finish.new.self worker c.args.index w.in-Some.is
      (finishes-ok w.in-Some.draft c.args.index w.finish.result w.finish.new.self w.finish.ensures
      w.in-Ok.is))
  | in-Some+in-Err w ↦
      rw (w.result-is, w.self-inside-is, ← c.self.view_is)
      (piece-refused _ w.in-Some.draft w.finish.new.self w.in-Err.why worker c.args.index
      w.in-Some.is
      (finishes-err w.in-Some.draft c.args.index w.finish.result w.finish.new.self w.in-Err.why
      w.finish.ensures w.in-Err.is))
]
