use Rattle.std.proofs.Common.{◌≡◌, List, ℕ, Some, cond, string_bytes, refl, subst, sym}
use Rattle.std.specs.Str.{bytes_eq}
use Rattle.tree_io.specs.Path.{Belongs}
use Rattle.tree_io.specs.Sources.{bytes_at}
use Rattle.tree_io.specs.Files.{files_of}
use Rattle.tree_io.proofs.FileMaps.{HasSourcePaths-insert, bytes_at-insert}
use Rattle.tree_io.proofs.files.put_file.Goals as goal

pub returns-in_ok-insert-clause-paths : goal.returns-in_ok-insert-clause-paths
returns-in_ok-insert-clause-paths c =
    let path : Belongs c.args.path = subst Belongs c.as_str.ensures.text
    (c.if-belongs.ensures.0 refl) in
    let key : Belongs (string_bytes c.into_string.result) = subst Belongs
    (sym c.into_string.ensures) path in
    HasSourcePaths-insert c.args.files.now c.insert.new.self c.into_string.result c.args.bytes
    c.in_ok-insert.ensures.entries c.in_ok-insert.ensures.ordered key c.requires

pub returns-in_ok-insert-clause-put : goal.returns-in_ok-insert-clause-put
returns-in_ok-insert-clause-put c = λ wanted _.
    let put = bytes_at-insert c.args.files.now c.insert.new.self c.into_string.result c.args.bytes
    c.in_ok-insert.ensures.updates wanted in
    subst (λ (path : List ℕ). bytes_at (files_of c.insert.new.self) wanted
    ≡ cond (bytes_eq wanted path) (Some c.args.bytes)
    (bytes_at (files_of c.args.files.now) wanted)) c.into_string.ensures put
