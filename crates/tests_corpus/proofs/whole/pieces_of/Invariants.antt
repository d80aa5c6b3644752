use Rattle.std.proofs.Common.{◌≡◌, map, take}
use Rattle.corpus.specs.Corpora.{input_of, inputs_of}
use Rattle.tests_corpus.proofs.whole.pieces_of.Given as goal

abbrev pub invariant-loop-number : goal.invariant-loop-number
invariant-loop-number l = map input_of l.pieces ≡ take l.number (inputs_of l.snapshot)
