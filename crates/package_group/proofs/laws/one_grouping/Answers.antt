use Rattle.package_group.proofs.Rising.{same_grouping}
use Rattle.package_group.proofs.laws.one_grouping.Goals as goal

pub returns : goal.returns
returns c = same_grouping
