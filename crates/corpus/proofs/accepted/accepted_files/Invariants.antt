use Rattle.std.proofs.Common.{◌≡◌, map, take, All}
use Rattle.corpus_piece.specs.Pieces.{IsJudged}
use Rattle.corpus.specs.Corpora.{accepted}
use Rattle.corpus.specs.Steps.{seen}
use Rattle.corpus.proofs.accepted.accepted_files.Given as goal

abbrev pub invariant-loop-number : goal.invariant-loop-number
invariant-loop-number l = record {
  accepted : map seen l.files.items ≡ accepted (take l.number l.pieces);
  judged : All IsJudged (take l.number l.pieces);
}
