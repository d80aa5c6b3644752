use Rattle.std.proofs.Common.{◌≡◌, map, take, string_bytes}
use Rattle.name_scope.specs.Scopes.{local_name}
use Rattle.name_scope.proofs.locals.local_names.Given as goal

abbrev pub invariant-loop-import : goal.invariant-loop-import
invariant-loop-import l = map string_bytes l.names.items ≡ map (local_name l.packages)
    (take l.import-index l.imports)
