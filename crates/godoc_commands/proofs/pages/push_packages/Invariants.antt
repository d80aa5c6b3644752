use Rattle.std.proofs.Common.{◌≡◌, ◌++◌, take}
use Rattle.std.specs.List.{flat_map}
use Rattle.godoc_commands.specs.Pages.{package_line}
use Rattle.godoc_commands.proofs.pages.push_packages.Given as goal

-- the lines of the packages so far are appended
abbrev pub invariant-loop-package : goal.invariant-loop-package
invariant-loop-package l = l.text ≡ l.initial.text ++ flat_map (λ p. package_line p.path)
    (take l.package-index l.packages)
