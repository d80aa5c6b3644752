use Rattle.std.proofs.Common.{take}
use Rattle.std.specs.List.{AllZip}
use Rattle.name_scope.specs.Tables.{AreTables}
use Rattle.name_scope.proofs.tables.make_tables.Given as goal

abbrev pub invariant-loop-package : goal.invariant-loop-package
invariant-loop-package l = AllZip (AreTables l.packages) (take l.package-index l.packages)
    l.tables.items
