-- Each clause is a part of what the private function of that event ensures.
use Rattle.live_core.proofs.machine.Core.step.Goals as goal

pub returns-in-Piece-clause-answer : goal.returns-in-Piece-clause-answer
returns-in-Piece-clause-answer c opening past before =
    rw c.in-Piece.is ((c.finish.ensures c.in-Piece.worker).answer opening past before)

pub returns-in-Piece-clause-after : goal.returns-in-Piece-clause-after
returns-in-Piece-clause-after c opening past before =
    rw c.in-Piece.is ((c.finish.ensures c.in-Piece.worker).after opening past before)

pub returns-in-Piece-clause-illegal : goal.returns-in-Piece-clause-illegal
returns-in-Piece-clause-illegal c = (c.finish.ensures c.in-Piece.worker).illegal

pub returns-in-Piece-clause-editions : goal.returns-in-Piece-clause-editions
returns-in-Piece-clause-editions c = (c.finish.ensures c.in-Piece.worker).editions

pub returns-in-Enter-clause-answer : goal.returns-in-Enter-clause-answer
returns-in-Enter-clause-answer c opening past before =
    rw c.in-Enter.is ((c.enter.ensures c.in-Enter.connection).answer opening past before)
