use Rattle.std.proofs.Common.{List, ◌<◌, ◌^◌, ap, sym, subst, ◌∙◌}
use Rattle.std.specs.List.{slice_get}
use Rattle.std.specs.Option.{IfSome, option_copied}
use Rattle.name_scope.specs.declared.packages.NamedPackage.{NamedPackage}
use Rattle.name_scope.specs.declared.tables.PackageTables.{PackageTables}
use Rattle.name_scope.specs.Scopes.{first_place, types_of}
use Rattle.name_scope.proofs.Found.{few_types_at, type_found, type_missed}
use Rattle.name_scope.proofs.Lists.{first_place_below}
use Rattle.name_scope.proofs.world.World.type_place.Goals as goal

pub number_of-requires : goal.number_of-requires
number_of-requires c =
    let packages = c.self.inside.packages.items in
    let at = ap (λ (ts : List PackageTables). slice_get ts c.args.package)
    (sym c.deref.ensures.value) ∙ sym c.tables_in.ensures ∙ ap option_copied c.in-Some.is in
    let found = c.place_in.ensures
    ∙ type_found packages c.self.inside.tables.items c.self.invariant.by_package c.args.package
    c.args.name.now c.in-Some.tables.now at in
    subst (λ o. IfSome o (λ k. k < 2 ^ 32)) (sym found)
    (first_place_below c.args.name.now (types_of packages c.args.package) (2 ^ 32)
    (few_types_at packages c.args.package c.self.invariant.few_types))

pub returns-in-Some : goal.returns-in-Some
returns-in-Some c =
    let at = ap (λ (ts : List PackageTables). slice_get ts c.args.package)
    (sym c.deref.ensures.value) ∙ sym c.tables_in.ensures ∙ ap option_copied c.in-Some.is in
    c.number_of.ensures ∙ c.place_in.ensures
    ∙ type_found c.self.inside.packages.items c.self.inside.tables.items c.self.invariant.by_package
    c.args.package c.args.name.now c.in-Some.tables.now at
    ∙ ap (λ (ps : List NamedPackage). first_place c.args.name.now (types_of ps c.args.package))
    c.self.view_is

pub returns-in-None : goal.returns-in-None
returns-in-None c =
    let at = ap (λ (ts : List PackageTables). slice_get ts c.args.package)
    (sym c.deref.ensures.value) ∙ sym c.tables_in.ensures ∙ ap option_copied c.in-None.is in
    type_missed c.self.inside.packages.items c.self.inside.tables.items c.self.invariant.by_package
    c.args.package c.args.name.now at
    ∙ ap (λ (ps : List NamedPackage). first_place c.args.name.now (types_of ps c.args.package))
    c.self.view_is
