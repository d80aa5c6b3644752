use Rattle.std.proofs.Common.{List, map, take, ◌++◌}
use Rattle.ident_index.specs.Postings.{NamedHit, name_at}
use Rattle.ident_index.specs.Tables.{HasGroups}
use Rattle.ident_index.proofs.groups.add_file.Given as goal

abbrev pub invariant-loop-hit : goal.invariant-loop-hit
invariant-loop-hit l =
    (before : List NamedHit) → HasGroups l.fn.groups before
    → HasGroups l.groups (before ++ map (λ hit. record {
      name = name_at l.source hit.offset;
      hit =
          hit;
    }) (take l.hit-index l.hits))
