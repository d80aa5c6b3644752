use Rattle.std.proofs.Common.{◌≡◌, length}
use Rattle.type_parser.specs.Reading.{◌<$>◌}
use Rattle.go_parser.specs.Reading.{after_names, read_typed}
use Rattle.go_parser.proofs.value.typed.Given as goal

-- the names before, and what the rest gives, is what all gives
abbrev pub invariant-loop-name : goal.invariant-loop-name
invariant-loop-name l = read_typed l.words ≡ after_names l.names <$> read_typed l.rest

abbrev pub decreases-loop-name : goal.decreases-loop-name
decreases-loop-name l = length l.rest
