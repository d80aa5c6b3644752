use Rattle.std.proofs.Common.{◌≡◌, ◌≤◌, take}
use Rattle.http_wire.specs.Fields.{count_named}
use Rattle.http_wire.specs.Front.{fields_at}
use Rattle.http_wire.proofs.fields.count_named.Given as goal

abbrev pub invariant-loop-field : goal.invariant-loop-field
invariant-loop-field l =
    (l.count ≤ l.field-index) × (l.count ≡ count_named l.name (take l.field-index (fields_at l.buffer l.fields)))
