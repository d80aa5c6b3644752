use Rattle.std.proofs.Common.{append_assoc, arith}
use Rattle.tree_io.proofs.FileMaps.{AllZip-told, All-told}
use Rattle.tree_io.proofs.memory.MemTree.new.Goals as goal

pub loop-version-preserved : goal.loop-version-preserved
loop-version-preserved c = (
  rw append_assoc (rw c.in-Some.ensures.steps.0 at c.loop-version.invariant.0),
  rw c.in_ok-push.ensures.items (AllZip-told c.loop-version.yielded c.loop-version.told.items
      c.in-Some.version c.in_ok-told_files.field-0 c.loop-version.invariant.1
      c.in_ok-told_files.ensures),
)

pub invariant_of-result : goal.invariant_of-result
invariant_of-result c = record {
  versions_belong = All-told _ _ c.loop-version.invariant.1;
  opened_by_calls = omega arith;
}
