use Rattle.std.proofs.Common.{sym, ◌∙◌}
use Rattle.tree_io.proofs.FileMaps.{bytes_at-files_of}
use Rattle.tree_io.proofs.files.find.Goals as goal

pub returns : goal.returns
returns c = c.get.ensures.value ∙ sym (bytes_at-files_of c.args.files.now c.args.path.now)
