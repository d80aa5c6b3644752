use Rattle.std.proofs.Common.{◌≡◌, length}
use Rattle.type_parser.specs.Reading.{◌<$>◌, type_of, declared}
use Rattle.type_parser.specs.Entries.{after_names}
use Rattle.type_parser.proofs.reader.Reader.declared.Given as goal

-- the names before, and what the rest gives, is what all gives
abbrev pub invariant-loop-name : goal.invariant-loop-name
invariant-loop-name g l = declared (type_of l.self.levels) l.words ≡ after_names l.names
    <$> declared (type_of l.self.levels) l.rest

abbrev pub decreases-loop-name : goal.decreases-loop-name
decreases-loop-name g l = length l.rest
