use Rattle.std.proofs.Common.{◌≡◌, ◌∷◌, take}
use Rattle.std.specs.List.{flat_map}
use Rattle.ident_index.specs.declared.hit.HitKind.TheVariants as kinds
use Rattle.ident_index.specs.Naming.{declares, names_of_decl}
use Rattle.ident_index.proofs.declarations.file_names.Given as goal

abbrev pub invariant-loop-decl : goal.invariant-loop-decl
invariant-loop-decl l =
    l.names.items ≡ declares kinds.PackageName l.file.package ∷ flat_map names_of_decl
    (take l.decl-index l.decl-items)
