use Rattle.std.proofs.Common.{◌≡◌, ℕ, List, ◌++◌, length, map, string_bytes, vec_len}
use Rattle.std.specs.BTreeMap.{get_by_text}
use Rattle.std.specs.List.{position_from}
use Rattle.std.specs.Str.{bytes_eq}
use Rattle.name_scope.proofs.index.index_of.Given as goal

abbrev pub invariant-loop-name : goal.invariant-loop-name
invariant-loop-name l =
    (done : List (List ℕ))
    × (map string_bytes l.initial.names.items ≡ map string_bytes l.names.items ++ done)
    × ((q : List ℕ) → get_by_text l.places q ≡ position_from (bytes_eq q) (length l.names.items)
    done)

abbrev pub decreases-loop-name : goal.decreases-loop-name
decreases-loop-name l = vec_len l.names
