use Rattle.std.proofs.Common.{◌≡◌, ℕ, drop, length, map, take}
use Rattle.go_scanner.specs.Results.{AreInOrder}
use Rattle.ident_index.specs.Hits.{hit_of, identifiers}
use Rattle.ident_index.specs.Places.{AreLinesTo, AreNamesBefore}
use Rattle.ident_index.proofs.hits.hits_of.Given as goal

-- the tokens that are left stand from some offset on, which the counts of lines and names are for
abbrev pub invariant-loop-token : goal.invariant-loop-token
invariant-loop-token l =
    (from : ℕ) × AreInOrder from (drop l.token-index l.token-items) (length l.source)
    × AreLinesTo l.starts from l.passed.lines
    × AreNamesBefore l.names.items from l.passed.names
    × (l.hits.items ≡ map (hit_of l.source l.fn.file l.number)
    (identifiers (take l.token-index l.token-items)))
