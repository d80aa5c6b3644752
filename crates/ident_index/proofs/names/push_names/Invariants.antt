use Rattle.std.proofs.Common.{◌≡◌, ◌++◌, map, take}
use Rattle.ident_index.specs.Naming.{declares}
use Rattle.ident_index.proofs.names.push_names.Given as goal

abbrev pub invariant-loop-span : goal.invariant-loop-span
invariant-loop-span l = l.names.items ≡ l.fn.names.items ++ map (declares l.kind)
    (take l.span-index l.spans)
