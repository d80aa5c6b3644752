use Rattle.std.proofs.Common.{◌≡◌, take}
use Rattle.std.specs.List.{filter_map}
use Rattle.corpus_piece.specs.Pieces.{JudgedFile}
use Rattle.corpus.specs.Corpora.{fault_as}
use Rattle.corpus.proofs.faulty.faults_of.Given as goal

abbrev pub invariant-loop-number : goal.invariant-loop-number
invariant-loop-number l = l.faults.items ≡ filter_map
    (λ (f : JudgedFile). fault_as l.pieces f f.outcome) (take l.number l.pieces)
