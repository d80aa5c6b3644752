use Rattle.std.proofs.Common.{[], sym}
use Rattle.std.proofs.lemmas.List.{append-nil}
use Rattle.tree_io.proofs.FileMaps.{HasSourcePaths-empty, bytes_at-empty}
use Rattle.tree_io.proofs.files.told_files.Goals as goal

pub loop-path-init : goal.loop-path-init
loop-path-init c = (
  HasSourcePaths-empty c.new-files.result c.new-files.ensures.empty,
  (
    [],
    sym (append-nil c.args.version),
    λ path _. bytes_at-empty c.new-files.result path
        c.new-files.ensures.empty,
  ),
)
