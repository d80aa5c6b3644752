use Rattle.std.proofs.Common.{List, ℕ, String, Global, map, ap, sym, ◌∙◌}
use Rattle.std.specs.BTreeMap.{BTreeMap}
use Rattle.std.specs.List.{slice_get}
use Rattle.std.specs.Option.{option_copied}
use Rattle.name_scope.specs.declared.packages.NamedPackage.{NamedPackage}
use Rattle.name_scope.specs.declared.tables.PackageTables.{PackageTables}
use Rattle.name_scope.specs.Scopes.{first_place, imports_of, local_name}
use Rattle.name_scope.proofs.Found.{import_found, import_no_file, import_no_package}
use Rattle.name_scope.proofs.world.World.import_place.Goals as goal

pub returns-in-Some-index_in : goal.returns-in-Some-index_in
returns-in-Some-index_in c =
    let at = ap (λ (ts : List PackageTables). slice_get ts c.args.package)
    (sym c.deref.ensures.value) ∙ sym c.tables_in.ensures ∙ ap option_copied c.in-Some.is in
    let file = ap (λ (ms : List (BTreeMap (String Global) ℕ)). slice_get ms c.args.file)
    (sym c.deref-in-Some.ensures.value) ∙ sym c.index_in.ensures
    ∙ ap option_copied c.in-Some-index_in.is in
    c.place_in.ensures
    ∙ import_found c.self.inside.packages.items c.self.inside.tables.items
    c.self.invariant.by_package c.args.package c.args.name.now c.args.file c.in-Some.tables.now
    c.in-Some-index_in.imports.now at file
    ∙ ap (λ (ps : List NamedPackage). first_place c.args.name.now
    (map (local_name ps) (imports_of ps c.args.package c.args.file))) c.self.view_is

pub returns-in-None-index_in : goal.returns-in-None-index_in
returns-in-None-index_in c =
    let at = ap (λ (ts : List PackageTables). slice_get ts c.args.package)
    (sym c.deref.ensures.value) ∙ sym c.tables_in.ensures ∙ ap option_copied c.in-Some.is in
    let file = ap (λ (ms : List (BTreeMap (String Global) ℕ)). slice_get ms c.args.file)
    (sym c.deref-in-Some.ensures.value) ∙ sym c.index_in.ensures
    ∙ ap option_copied c.in-None-index_in.is in
    import_no_file c.self.inside.packages.items c.self.inside.tables.items
    c.self.invariant.by_package c.args.package c.args.name.now c.args.file c.in-Some.tables.now
    at file
    ∙ ap (λ (ps : List NamedPackage). first_place c.args.name.now
    (map (local_name ps) (imports_of ps c.args.package c.args.file))) c.self.view_is

pub returns-in-None : goal.returns-in-None
returns-in-None c =
    let at = ap (λ (ts : List PackageTables). slice_get ts c.args.package)
    (sym c.deref.ensures.value) ∙ sym c.tables_in.ensures ∙ ap option_copied c.in-None.is in
    import_no_package c.self.inside.packages.items c.self.inside.tables.items
    c.self.invariant.by_package c.args.package c.args.name.now c.args.file at
    ∙ ap (λ (ps : List NamedPackage). first_place c.args.name.now
    (map (local_name ps) (imports_of ps c.args.package c.args.file))) c.self.view_is
