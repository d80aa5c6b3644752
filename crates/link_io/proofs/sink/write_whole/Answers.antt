-- A write continues where the one before it ended.
use Rattle.std.proofs.Common.{rules}
use Rattle.std.proofs.lemmas.List.{take_rest}
use Rattle.link_io.proofs.Laws.{Adds-more}
use Rattle.link_io.proofs.sink.write_whole.Goals as goal

pub loop-written-preserved : goal.loop-written-preserved
loop-written-preserved g c = record {
  within = search rules;
  added = Adds-more _ _ _ c.args.piece.now _ _ c.loop-written.invariant.added (rw take_rest at c.in_ok-written.ensures.bytes.added);
  no_fault = search rules;
  leaves = search rules;
}
