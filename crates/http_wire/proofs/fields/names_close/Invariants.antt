use Rattle.std.proofs.Common.{◌≡◌, length}
use Rattle.std.specs.List.{list_any}
use Rattle.http_wire.specs.Fields.{between_commas, is_close}
use Rattle.http_wire.proofs.fields.names_close.Given as goal

abbrev pub invariant-loop-comma : goal.invariant-loop-comma
invariant-loop-comma l = list_any is_close (between_commas l.rest) ≡ list_any is_close (between_commas l.fn.value)

abbrev pub decreases-loop-comma : goal.decreases-loop-comma
decreases-loop-comma l = length l.rest
