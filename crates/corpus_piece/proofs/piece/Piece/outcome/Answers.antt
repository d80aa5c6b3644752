use Rattle.std.proofs.Common.{subst}
use Rattle.corpus_piece.specs.Pieces.{IsJudged}
use Rattle.corpus_piece.proofs.piece.Piece.outcome.Goals as goal

pub returns-clause-defined : goal.returns-clause-defined
returns-clause-defined c = subst IsJudged c.self.view_is c.self.invariant
