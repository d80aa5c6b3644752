use Rattle.ident_index.proofs.OneTable.{same_table}
use Rattle.ident_index.proofs.laws.one_table.Goals as goal

pub returns : goal.returns
returns c = same_table
