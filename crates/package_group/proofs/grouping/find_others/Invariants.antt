use Rattle.std.proofs.Common.{◌≡◌, filter, map, take, string_bytes}
use Rattle.std.specs.BTreeMap.{get_by_text}
use Rattle.std.specs.Option.{option_map}
use Rattle.package_group.specs.Steps.{is_beside}
use Rattle.package_group.proofs.grouping.find_others.Given as goal

abbrev pub invariant-loop-path : goal.invariant-loop-path
invariant-loop-path l = l.others ≡ map (λ p. p.1.0)
    (filter (λ p. is_beside (option_map string_bytes (get_by_text l.names (string_bytes p.0)))
    p.1.1.now) (take l.path-index l.placed))
