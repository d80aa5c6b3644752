use Rattle.std.proofs.Common.{take}
use Rattle.std.specs.List.{AllZip}
use Rattle.name_scope.specs.Tables.{IndexesImports}
use Rattle.name_scope.proofs.tables.index_files.Given as goal

abbrev pub invariant-loop-file : goal.invariant-loop-file
invariant-loop-file l = AllZip (IndexesImports l.packages) (take l.file-index l.files)
    l.places.items
