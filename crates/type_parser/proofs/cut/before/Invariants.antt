use Rattle.std.proofs.Common.{◌≡◌, ◌+◌, ◌≤◌, drop, length, ◌-◌}
use Rattle.type_parser.specs.Cut as spec
use Rattle.type_parser.specs.Matching.{plain}
use Rattle.type_parser.proofs.cut.before.Given as goal

abbrev pub invariant-loop-at : goal.invariant-loop-at
invariant-loop-at l = record {
  so_far : spec.before l.mark 0 (plain l.items)
      ≡ l.at + spec.before l.mark 0 (plain (drop l.at l.items));
  within : l.at ≤ length l.items;
}

abbrev pub decreases-loop-at : goal.decreases-loop-at
decreases-loop-at l = length l.items - l.at
