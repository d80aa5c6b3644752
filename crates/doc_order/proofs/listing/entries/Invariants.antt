use Rattle.std.proofs.Common.{◌≡◌, ◌++◌, map, drop}
use Rattle.std.specs.List.{enumerate_from}
use Rattle.doc_order.specs.Documentation.{key_of}
use Rattle.doc_order.proofs.listing.entries.Given as goal

-- the entries so far, and those of the members that are left
abbrev pub invariant-loop-place : goal.invariant-loop-place
invariant-loop-place l =
    map (λ it. (it.1, it.0.now)) l.entries.items
    ++ enumerate_from l.place (map key_of (drop l.place l.members))
    ≡ enumerate_from 0 (map key_of l.members)
