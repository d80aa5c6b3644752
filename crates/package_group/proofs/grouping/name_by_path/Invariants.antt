use Rattle.std.proofs.Common.{◌≡◌, List, ℕ, map, take, string_bytes, is_some}
use Rattle.std.specs.Prelude.{Contains, IfSome}
use Rattle.std.specs.BTreeMap.{get_by_text}
use Rattle.std.specs.List.{list_any}
use Rattle.std.specs.Str.{bytes_eq}
use Rattle.package_group.proofs.grouping.name_by_path.Given as goal

abbrev pub invariant-loop-package : goal.invariant-loop-package
invariant-loop-package l =
    ((q : List ℕ) → is_some (get_by_text l.names q)
    ≡ list_any (λ p. bytes_eq q p.path) (take l.package-index l.packages))
    × ((q : List ℕ) → IfSome (get_by_text l.names q)
    (λ name. Contains {X = List ℕ × List ℕ} (map (λ p. (p.path, p.name)) l.packages)
    (q, string_bytes name)))
