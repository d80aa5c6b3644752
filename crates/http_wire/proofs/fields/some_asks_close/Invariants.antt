use Rattle.std.proofs.Common.{◌≡◌, false, take}
use Rattle.std.specs.List.{list_any}
use Rattle.http_wire.specs.Fields.{asks_close}
use Rattle.http_wire.specs.Front.{fields_at}
use Rattle.http_wire.proofs.fields.some_asks_close.Given as goal

abbrev pub invariant-loop-field : goal.invariant-loop-field
invariant-loop-field l = list_any asks_close (take l.field-index (fields_at l.buffer l.fields)) ≡ false
