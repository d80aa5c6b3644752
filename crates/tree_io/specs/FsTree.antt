-- Cited by public clauses. What contracts see of an `FsTree`. This is the project's own.
use Rattle.std.specs.Prelude.{ℕ, List}
use Rattle.plain_data.specs.Counts.{one_more}

-- a tree in a real folder: the folder's path, and the two counts of faults
pub record State : Type 0 where
  pub root : List ℕ
  pub list_faults : ℕ
  pub read_faults : ℕ

-- the tree after a call of `list` that failed, and after one of `read`
abbrev pub list_failed : State → State
list_failed tree = record tree { list_faults = one_more tree.list_faults }

abbrev pub read_failed : State → State
read_failed tree = record tree { read_faults = one_more tree.read_faults }
