use Rattle.std.proofs.Common.{◌≡◌, ◌++◌, take}
use Rattle.std.specs.List.{flat_map}
use Rattle.ident_index.specs.Naming.{names_of_type_param}
use Rattle.ident_index.proofs.declarations.type_param_names.Given as goal

abbrev pub invariant-loop-param : goal.invariant-loop-param
invariant-loop-param l = l.names.items ≡ l.fn.names.items ++ flat_map names_of_type_param
    (take l.param-index l.param-items)
