use Rattle.comment_blocks.proofs.OneGroup.{one_doc_group}
use Rattle.comment_blocks.proofs.laws.one_doc_group.Goals as goal

pub returns : goal.returns
returns c = one_doc_group
