use Rattle.std.proofs.Common.{◌≡◌, ◌++◌, map, filter, not, drop}
use Rattle.doc_order.specs.Documentation.{is_empty}
use Rattle.doc_order.proofs.values.without_empty.Given as goal

-- the names so far, and those of the names that are left
abbrev pub invariant-loop-name : goal.invariant-loop-name
invariant-loop-name l =
    map (λ it. it.now) l.named.items
    ++ filter (λ name. not (is_empty name)) (map (λ it. it.now) (drop l.name-index l.names))
    ≡ filter (λ name. not (is_empty name)) (map (λ it. it.now) l.names)
