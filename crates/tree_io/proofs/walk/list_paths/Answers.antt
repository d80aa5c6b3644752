use Rattle.std.specs.String.{string_eq}
use Rattle.std.proofs.lemmas.List.Filters.{dedup_is}
use Rattle.tree_io.proofs.Dedup.{Belongs-kept, IsRising-kept}
use Rattle.tree_io.proofs.walk.list_paths.Goals as goal

pub returns-clause-belong : goal.returns-clause-belong
returns-clause-belong g c =
    let same = dedup_is string_eq c.sort_unstable.new.self.items c.dedup.new.self.items
    c.dedup.ensures.filtered in
    rw c.in_ok-texts.ensures (Belongs-kept c.in_ok-paths.paths.items c.sort_unstable.new.self.items
    c.dedup.new.self.items c.sort_unstable.ensures.permutation same c.in_ok-paths.ensures)

pub returns-clause-rising : goal.returns-clause-rising
returns-clause-rising g c =
    let same = dedup_is string_eq c.sort_unstable.new.self.items c.dedup.new.self.items
    c.dedup.ensures.filtered in
    rw c.in_ok-texts.ensures (IsRising-kept c.sort_unstable.new.self.items c.dedup.new.self.items
    c.sort_unstable.ensures.sorted same)
