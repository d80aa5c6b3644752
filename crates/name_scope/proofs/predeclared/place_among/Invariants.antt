use Rattle.std.proofs.Common.{◌≡◌, drop, map}
use Rattle.std.specs.List.{position_from}
use Rattle.std.specs.Str.{bytes_eq}
use Rattle.name_scope.proofs.predeclared.place_among.Given as goal

abbrev pub invariant-loop-known : goal.invariant-loop-known
invariant-loop-known l =
    (l.place ≡ l.known-index)
    × (position_from (bytes_eq l.name) 0 (map (λ known. known.now) l.names)
    ≡ position_from (bytes_eq l.name) l.known-index
    (map (λ known. known.now) (drop l.known-index l.names)))
