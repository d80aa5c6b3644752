use Rattle.std.proofs.Common.{◌≡◌, map, take}
use Rattle.corpus.specs.Corpora.{input_of, inputs_of}
use Rattle.godoc_commands.proofs.scan.make_pieces.Given as goal

-- the pieces so far are those of the first files
abbrev pub invariant-loop-number : goal.invariant-loop-number
invariant-loop-number l = map input_of l.pieces ≡ take l.number (inputs_of l.snapshot)
