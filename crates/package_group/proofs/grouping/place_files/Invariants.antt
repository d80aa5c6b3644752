use Rattle.std.proofs.Common.{take}
use Rattle.package_group.specs.Steps.{ArePlaced}
use Rattle.package_group.proofs.grouping.place_files.Given as goal

abbrev pub invariant-loop-place : goal.invariant-loop-place
invariant-loop-place l = ArePlaced l.prefix (take l.place l.files) l.placed.items
