use Rattle.std.proofs.Common.{◌≡◌, List, ℕ, [], filter, map, take, string_bytes, is_some}
use Rattle.std.specs.BTreeMap.{get_by_text}
use Rattle.std.specs.List.{list_any}
use Rattle.std.specs.Option.{option_map_or}
use Rattle.std.specs.Str.{bytes_eq}
use Rattle.package_group.proofs.grouping.group_by_path.Given as goal

abbrev pub invariant-loop-path : goal.invariant-loop-path
invariant-loop-path l =
    ((q : List ℕ) → option_map_or (λ g. g.items) (get_by_text l.folders q) []
    ≡ map (λ p. p.1) (filter (λ p. bytes_eq q (string_bytes p.0)) (take l.path-index l.placed)))
    × ((q : List ℕ) → is_some (get_by_text l.folders q)
    ≡ list_any (λ p. bytes_eq q (string_bytes p.0)) (take l.path-index l.placed))
