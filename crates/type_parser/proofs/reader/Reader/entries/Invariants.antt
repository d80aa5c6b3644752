use Rattle.std.proofs.Common.{◌≡◌, ◌<◌, drop, reverse, length, Some}
use Rattle.type_parser.specs.Entries as spec
use Rattle.type_parser.specs.Reading.{type_of}
use Rattle.type_parser.proofs.reader.Reader.entries.Given as goal

-- what the entries from here on give
abbrev pub invariant-loop-at : goal.invariant-loop-at
invariant-loop-at g l = record {
  within : l.at < length l.entries;
  some : 0 < length l.found.items;
  so_far : spec.from_last (type_of l.self.levels) l.named l.dots (drop l.at l.entries)
      ≡ Some (reverse l.found.items);
}

abbrev pub decreases-loop-at : goal.decreases-loop-at
decreases-loop-at g l = l.at
