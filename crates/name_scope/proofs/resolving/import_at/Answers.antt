use Rattle.std.proofs.Common.{List, ap, sym, ◌∙◌}
use Rattle.std.specs.List.{slice_get}
use Rattle.std.specs.Str.{bytes_eq}
use Rattle.name_scope.specs.declared.packages.NamedPackage.{NamedPackage}
use Rattle.name_scope.specs.Scopes.{imports_of, local_name}
use Rattle.name_scope.proofs.Lists.{find-at, find-none}
use Rattle.name_scope.proofs.resolving.import_at.Goals as goal

pub returns-in-Some : goal.returns-in-Some
returns-in-Some c =
    c.import_in.ensures
    ∙ ap (λ (ps : List NamedPackage). slice_get (imports_of ps c.args.package c.args.file)
    c.in-Some.place) c.packages.ensures
    ∙ sym (find-at (bytes_eq c.args.name.now) (local_name c.args.world.now)
    (imports_of c.args.world.now c.args.package c.args.file) c.in-Some.place
    (sym c.import_place.ensures ∙ c.in-Some.is))

pub returns-in-None : goal.returns-in-None
returns-in-None c =
    sym (find-none (bytes_eq c.args.name.now) (local_name c.args.world.now)
    (imports_of c.args.world.now c.args.package c.args.file) (sym c.import_place.ensures
    ∙ c.in-None.is))
