use Rattle.std.proofs.Common.{◌∙◌}
use Rattle.std.specs.Slice.Iter.{chunks_rest}
use Rattle.godoc_commands.specs.HitLines.{IsHitIn}
use Rattle.godoc_commands.proofs.Scanning.{all_behind}
use Rattle.godoc_commands.proofs.Writing.{OnErr-always, front_written, part_written}
use Rattle.godoc_commands.proofs.find.write_lines.Goals as goal

pub loop-part-preserved : goal.loop-part-preserved
loop-part-preserved g c =
    let kept = c.loop-part.invariant in
    let part = c.in-Some.part.now in
    let steps = c.in-Some.ensures.steps in
    let rest = chunks_rest c.next.new.self in
    let ends = c.in_ok-write_part.ensures in record {
      next = rw steps.0 kept.next;
      finite = tt;
      stand = all_behind (IsHitIn c.args.corpus.now) part rest (rw steps.1.0 at kept.stand);
      written = part_written c.args.corpus.now.tables.files c.args.hits.now _ _ _
          (chunks_rest c.loop-part.part-iterator) part rest steps.1.0 kept.written ends.ok;
      write_faults = ends.cause.kept ∙ kept.write_faults;
    }

pub returns-in_err-write_part-clause-front : goal.returns-in_err-write_part-clause-front
returns-in_err-write_part-clause-front g c =
    let kept = c.loop-part.invariant in
    let steps = c.in-Some.ensures.steps in
    OnErr-always c.from_residual.result
    (front_written c.args.corpus.now.tables.files c.args.hits.now _ _ _
    (chunks_rest c.loop-part.part-iterator) c.in-Some.part.now (chunks_rest c.next.new.self)
    steps.1.0 kept.written c.in_err-write_part.ensures.front)
