use Rattle.std.proofs.Common.{◌++◌, ◌∙◌, ap, sym}
use Rattle.std.specs.List.{flat_map}
use Rattle.std.proofs.lemmas.List.{take_all}
use Rattle.std.proofs.lemmas.List.Folds.{flat_map-map}
use Rattle.godoc_commands.specs.Pages.{package_line}
use Rattle.godoc_commands.proofs.pages.push_packages.Goals as goal

pub returns : goal.returns
returns c =
    let all = take_all c.loop-package.package-index c.args.packages.now c.loop-package-test.false in
    c.loop-package.invariant
    ∙ ap (λ packages. c.args.text.now ++ flat_map (λ p. package_line p.path) packages) all
    ∙ ap (λ lines. c.args.text.now ++ lines)
    (sym (flat_map-map package_line (λ p. p.path) c.args.packages.now))
