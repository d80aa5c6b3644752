use Rattle.std.proofs.Common.{◌≡◌, ◌++◌, take}
use Rattle.std.specs.List.{flat_map}
use Rattle.ident_index.specs.Naming.{names_of_value}
use Rattle.ident_index.proofs.declarations.value_names.Given as goal

abbrev pub invariant-loop-spec : goal.invariant-loop-spec
invariant-loop-spec l = l.names.items ≡ l.fn.names.items ++ flat_map (names_of_value l.kind)
    (take l.spec-index l.spec-items)
