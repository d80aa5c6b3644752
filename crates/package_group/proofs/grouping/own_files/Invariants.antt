use Rattle.std.proofs.Common.{◌≡◌, ◌&&◌, not, filter, map, take}
use Rattle.package_group.specs.Groups.{has_name}
use Rattle.package_group.proofs.grouping.own_files.Given as goal

abbrev pub invariant-loop-place : goal.invariant-loop-place
invariant-loop-place l = l.own ≡ map (λ member. member.0)
    (filter (λ member. has_name l.name member.1.now && not member.1.now.test)
    (take l.place-index l.members))
