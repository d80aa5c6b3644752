use Rattle.std.specs.List.{AllZip}
use Rattle.name_scope.specs.Tables.{AreTables, IndexesImports, IsIndex}
use Rattle.name_scope.proofs.Lists.{AllZip-step}
use Rattle.name_scope.proofs.tables.make_tables.Goals as goal

pub loop-package-preserved : goal.loop-package-preserved
loop-package-preserved c =
    let types : IsIndex c.in_ok-index_of.field-0 c.package-item.result.types =
    rw (c.in_ok-copies_of.ensures, c.as_slice.ensures) at c.in_ok-index_of.ensures in
    let files : AllZip (IndexesImports c.args.packages.now) c.package-item.result.files
    c.in_ok-index_files.field-0.items = rw c.as_slice-in-loop-package.ensures at
    c.in_ok-index_files.ensures in
    AllZip-step (AreTables c.args.packages.now) c.args.packages.now c.loop-package.tables.items
    c.push.new.self.items c.loop-package.package-index c.package-item.result
    (record { types = c.in_ok-index_of.field-0; files = c.in_ok-index_files.field-0 })
    c.loop-package-test.true c.package-item.is c.loop-package.invariant
    (record { types = types; files = files }) c.in_ok-push.ensures.items
