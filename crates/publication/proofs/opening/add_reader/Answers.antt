use Rattle.left_right.specs.Sides.{view as sight}
use Rattle.publication.proofs.Steps.{admits, forks, merges}
use Rattle.publication.proofs.opening.add_reader.Goals as goal

pub reader-requires : goal.reader-requires
reader-requires g c = admits

pub tell-note-requires : goal.tell-note-requires
tell-note-requires g c = forks _ (sight c.args.writer.now.desk.place)

pub learn-requires-clause-rule : goal.learn-requires-clause-rule
learn-requires-clause-rule g c = merges _ (sight c.in_ok-reader.reader.place) _
    (sight c.tell-note.result)
