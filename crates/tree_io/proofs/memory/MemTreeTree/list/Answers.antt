use Rattle.std.proofs.Common.{map}
use Rattle.tree_io.specs.Files.{files_of}
use Rattle.tree_io.proofs.FileMaps.{Belongs-under_way, IsRising-under_way}
use Rattle.tree_io.proofs.memory.MemTreeTree.list.Goals as goal

pub returns-clause-belong : goal.returns-clause-belong
returns-clause-belong c =
    Belongs-under_way (map files_of c.self.inside.versions.items) c.self.inside.opened _
    c.self.invariant.versions_belong (rw c.deref.ensures.value at
    c.in_ok-list_under_way.ensures)

pub returns-clause-rising : goal.returns-clause-rising
returns-clause-rising c =
    IsRising-under_way (map files_of c.self.inside.versions.items) c.self.inside.opened _
    c.self.invariant.versions_belong (rw c.deref.ensures.value at
    c.in_ok-list_under_way.ensures)
