use Rattle.std.proofs.Common.{◌≡◌, false, take}
use Rattle.std.specs.List.{list_any}
use Rattle.http_wire.specs.Fields.{announces_body}
use Rattle.http_wire.specs.Front.{fields_at}
use Rattle.http_wire.proofs.fields.some_announces_body.Given as goal

abbrev pub invariant-loop-field : goal.invariant-loop-field
invariant-loop-field l = list_any announces_body (take l.field-index (fields_at l.buffer l.fields)) ≡ false
