use Rattle.std.proofs.Common.{◌≡◌, ◌≤◌, drop, reverse, length, Some}
use Rattle.type_parser.specs.TypeParams as spec
use Rattle.type_parser.specs.Reading.{type_of}
use Rattle.type_parser.proofs.reader.Reader.type_params_of.Given as goal

-- what the entries from here on give
abbrev pub invariant-loop-at : goal.invariant-loop-at
invariant-loop-at g l = record {
  within : l.at ≤ length l.entries;
  so_far : spec.entries (type_of l.self.levels) (drop l.at l.entries)
      ≡ Some (reverse l.found.items);
}

abbrev pub decreases-loop-at : goal.decreases-loop-at
decreases-loop-at g l = l.at
