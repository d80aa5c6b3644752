use Rattle.comment_blocks.proofs.DocGroups.{Looked}
use Rattle.comment_blocks.proofs.group.find_group.Given as goal

abbrev pub invariant-loop-after : goal.invariant-loop-after
invariant-loop-after l = Looked l.scanned l.line l.after

abbrev pub decreases-loop-after : goal.decreases-loop-after
decreases-loop-after l = l.after
