use Rattle.std.proofs.Common.{◌≡◌, ◌++◌, map, string_bytes}
use Rattle.package_group.specs.Steps.{package_of, seen}
use Rattle.package_group.proofs.grouping.make_packages.Given as goal

abbrev pub invariant-loop-path : goal.invariant-loop-path
invariant-loop-path l =
    l.packages ++ map (λ folder. package_of (string_bytes folder.0) (map seen folder.1.items))
    l.path-iterator
    ≡ map (λ folder. package_of (string_bytes folder.0) (map seen folder.1.items)) l.folders.entries
