use Rattle.std.proofs.Common.{◌≡◌, All}
use Rattle.std.specs.Slice.Iter.{chunks_rest}
use Rattle.godoc_commands.specs.HitLines.{IsHitIn}
use Rattle.godoc_commands.proofs.Writing.{IsUnderWay}
use Rattle.godoc_commands.proofs.find.write_lines.Given as goal

-- the lines of the hits before those that are left are written
abbrev pub invariant-loop-part : goal.invariant-loop-part
invariant-loop-part g l = record {
  next : (goal.iterator-loop-part g).can_next l.part-iterator;
  finite : (goal.iterator-loop-part g).is_finite l.part-iterator;
  stand : All (IsHitIn l.corpus) (chunks_rest l.part-iterator);
  written : IsUnderWay l.corpus.tables.files l.hits (chunks_rest l.part-iterator)
      (g.O.Sink.held l.fn.out) (g.O.Sink.held l.out);
  write_faults : g.O.Sink.write_faults l.out ≡ g.O.Sink.write_faults l.fn.out;
}
