use Rattle.std.proofs.Common.{◌≡◌, ◌++◌, [], map, string_bytes, sym, ◌∙◌}
use Rattle.std.proofs.lemmas.List.{append-nil}
use Rattle.std.specs.BTreeMap.{keys}
use Rattle.tree_io.proofs.FileMaps.{paths_of-files_of}
use Rattle.tree_io.proofs.files.paths.Goals as goal

pub returns : goal.returns
returns c =
    let whole : c.loop-path.paths ++ [] ≡ map string_bytes (keys c.args.files.now) = rw
    c.in-None.ensures.steps.0 at c.loop-path.invariant in
    sym (append-nil c.loop-path.paths) ∙ whole ∙ sym (paths_of-files_of c.args.files.now)
