use Rattle.std.proofs.Common.{◌≡◌, map, take, string_bytes}
use Rattle.name_scope.proofs.tables.paths_of.Given as goal

abbrev pub invariant-loop-package : goal.invariant-loop-package
invariant-loop-package l = map string_bytes l.paths.items ≡ map (λ p. p.path)
    (take l.package-index l.packages)
