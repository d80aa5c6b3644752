use Rattle.std.proofs.Common.{arith}
use Rattle.std.proofs.lemmas.Grind.{common_steps, text_groups}
use Rattle.package_group.proofs.grouping.group_by_path.Goals as goal

pub loop-path-preserved : goal.loop-path-preserved
loop-path-preserved c = (
  λ q. grind (arith, text_groups, c.loop-path.invariant.0 q),
  λ q. grind
      (arith, text_groups, c.loop-path.invariant.1 q),
)

pub returns-clause-members : goal.returns-clause-members
returns-clause-members c = λ q. grind (arith, common_steps, c.loop-path.invariant.0 q)

pub returns-clause-paths : goal.returns-clause-paths
returns-clause-paths c = λ q. grind (arith, common_steps, c.loop-path.invariant.1 q)
