-- The history is what both know.
use Rattle.std.proofs.Common.{List, ap, subst}
use Rattle.left_right.specs.Sides.{view as sight}
use Rattle.publication.specs.View.{ShareHistory, StartsWith}
use Rattle.publication.specs.Chronicle.{editions_of}
use Rattle.publication.specs.Readers.{view_by}
use Rattle.publication.proofs.Logs.{begins_of, starts_then}
use Rattle.publication.proofs.Reading.{editions_start}
use Rattle.publication.proofs.reader.EditionReader.shares_history.Goals as goal

pub returns : goal.returns
returns g c =
    let all = c.learn.new.self.log in
    let mine = subst (λ (log : List _). StartsWith all log)
    (ap (λ token. token.log) c.again-all.ensures) (begins_of _ _ c.learn.ensures.2) in
    let theirs = begins_of _ _ c.learn.ensures.3 in
    subst (λ view. ShareHistory view c.args.other.now) c.self.view_is
    (subst (λ view. ShareHistory (view_by (sight c.self.inside.reader.place) c.self.inside.seen
    c.self.inside.knowledge) view) c.other.view_is (record {
      history = editions_of all;
      one_seen = editions_start all _ (starts_then _ _ _ c.self.invariant.begins mine);
      one_told = editions_start all _ (starts_then _ _ _ c.self.invariant.told.begins mine);
      other_seen = editions_start all _ (starts_then _ _ _ c.other.invariant.begins theirs);
      other_told = editions_start all _ (starts_then _ _ _ c.other.invariant.told.begins theirs);
    }))
