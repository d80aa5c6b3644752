use Rattle.std.proofs.Common.{◌≡◌, length}
use Rattle.std.specs.List.{list_any}
use Rattle.go_ast.specs.TypeParameters.{shows_bound}
use Rattle.type_parser.proofs.type_params.some_shows_bound.Given as goal

abbrev pub invariant-loop-word : goal.invariant-loop-word
invariant-loop-word l = list_any shows_bound l.words ≡ list_any shows_bound l.rest

abbrev pub decreases-loop-word : goal.decreases-loop-word
decreases-loop-word l = length l.rest
