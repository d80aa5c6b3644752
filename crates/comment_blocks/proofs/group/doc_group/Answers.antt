use Rattle.comment_blocks.proofs.Scans.{in_order}
use Rattle.comment_blocks.proofs.group.doc_group.Goals as goal

pub find_group-requires : goal.find_group-requires
find_group-requires c = in_order c.args.scanned.now c.requires
