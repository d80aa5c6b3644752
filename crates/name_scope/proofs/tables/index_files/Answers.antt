use Rattle.name_scope.specs.Tables.{IndexesImports}
use Rattle.name_scope.proofs.Lists.{AllZip-step}
use Rattle.name_scope.proofs.tables.index_files.Goals as goal

pub loop-file-preserved : goal.loop-file-preserved
loop-file-preserved c =
    let indexed : IndexesImports c.args.packages.now c.file-item.result c.in_ok-index_of.field-0 =
    rw (c.in_ok-names.ensures, c.as_slice.ensures) at c.in_ok-index_of.ensures in
    AllZip-step (IndexesImports c.args.packages.now) c.args.files.now c.loop-file.places.items
    c.push.new.self.items c.loop-file.file-index c.file-item.result c.in_ok-index_of.field-0
    c.loop-file-test.true c.file-item.is c.loop-file.invariant indexed c.in_ok-push.ensures.items
