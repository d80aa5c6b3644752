use Rattle.std.proofs.Common.{ap, sym, ◌∙◌}
use Rattle.std.specs.Option.{option_copied}
use Rattle.std.specs.Str.{bytes_eq}
use Rattle.name_scope.specs.declared.packages.NamedPackage.{NamedPackage}
use Rattle.name_scope.proofs.Lists.{find-at, find-none}
use Rattle.name_scope.proofs.locals.package_at.Goals as goal

pub returns-in-Some : goal.returns-in-Some
returns-in-Some c =
    let at = sym (c.requires c.args.path.now) ∙ sym c.get.ensures.value
    ∙ ap option_copied c.in-Some.is in
    c.package_in.ensures
    ∙ sym (find-at (bytes_eq c.args.path.now) (λ (p : NamedPackage). p.path) c.args.packages.now
    c.in-Some.place.now at)

pub returns-in-None : goal.returns-in-None
returns-in-None c =
    let none = sym (c.requires c.args.path.now) ∙ sym c.get.ensures.value
    ∙ ap option_copied c.in-None.is in
    sym (find-none (bytes_eq c.args.path.now) (λ (p : NamedPackage). p.path) c.args.packages.now
    none)
