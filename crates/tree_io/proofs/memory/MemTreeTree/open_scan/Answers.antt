use Rattle.std.proofs.Common.{map}
use Rattle.tree_io.specs.Files.{files_of}
use Rattle.tree_io.proofs.FileMaps.{HasSourcePaths-version_at, length-scans_of, scans_of-more}
use Rattle.tree_io.specs.MemTree.{version_at}
use Rattle.tree_io.proofs.memory.MemTreeTree.open_scan.Goals as goal

pub returns-clause-ok : goal.returns-clause-ok
returns-clause-ok c =
    let versions = map files_of c.self.inside.versions.items in
    rw (
      ← c.self.view_is,
      scans_of-more versions c.self.inside.opened,
      length-scans_of versions
          c.self.inside.opened,
      c.next_fails.ensures.counted,
    )

pub returns-clause-opens : goal.returns-clause-opens
returns-clause-opens c =
    let versions = map files_of c.self.inside.versions.items in
    let n = c.self.inside.opened in
    rw (← c.self.view_is) (
      version_at versions n,
      HasSourcePaths-version_at versions n
          c.self.invariant.versions_belong,
      scans_of-more versions n,
    )
