use Rattle.std.proofs.Common.{◌≡◌, drop}
use Rattle.std.specs.List.{list_any}
use Rattle.type_parser.specs.Reading as spec
use Rattle.type_parser.proofs.signature.some_looks_named.Given as goal

abbrev pub invariant-loop-entry : goal.invariant-loop-entry
invariant-loop-entry l = list_any spec.looks_named l.entries
    ≡ list_any spec.looks_named (drop l.entry-index l.entries)
