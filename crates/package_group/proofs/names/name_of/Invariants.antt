use Rattle.std.proofs.Common.{◌≡◌, not, drop, map}
use Rattle.std.specs.List.{find}
use Rattle.package_group.proofs.names.name_of.Given as goal

abbrev pub invariant-loop-file : goal.invariant-loop-file
invariant-loop-file l = find (λ file. not file.test) (map (λ member. member.1.now) l.members)
    ≡ find (λ file. not file.test) (map (λ member. member.1.now) (drop l.file-index l.members))
