use Rattle.std.proofs.Common.{map, length, ◌<◌, ◌^◌, sym, subst, ◌∙◌, arith}
use Rattle.std.specs.Option.{IfSome}
use Rattle.std.proofs.lemmas.List.{length-map}
use Rattle.name_scope.specs.declared.packages.NamedPackage.{NamedPackage}
use Rattle.name_scope.proofs.Lists.{first_place_below}
use Rattle.name_scope.proofs.world.World.package_place.Goals as goal

pub number_of-requires : goal.number_of-requires
number_of-requires c =
    let packages = c.self.inside.packages.items in
    let paths = map (λ (p : NamedPackage). p.path) packages in
    let few : length paths < 2 ^ 32 =
    omega (arith, length-map packages (λ (p : NamedPackage). p.path), c.self.invariant.few) in
    subst (λ o. IfSome o (λ k. k < 2 ^ 32))
    (sym (c.place_in.ensures ∙ c.self.invariant.by_path c.args.path.now))
    (first_place_below c.args.path.now paths (2 ^ 32) few)
