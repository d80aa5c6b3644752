use Rattle.std.proofs.Common.{◌≡◌, take}
use Rattle.std.specs.List.{flat_map}
use Rattle.godoc_commands.specs.HitLines.{hit_line}
use Rattle.godoc_commands.proofs.hit_lines.lines_of.Given as goal

-- the lines of the hits so far
abbrev pub invariant-loop-hit : goal.invariant-loop-hit
invariant-loop-hit l = l.text ≡ flat_map (hit_line l.corpus.tables.files) (take l.hit-index l.hits)
