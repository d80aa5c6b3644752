-- What is known then, in editions.
use Rattle.std.proofs.Common.{ap, subst, ◌∙◌, sym}
use Rattle.left_right.specs.Sides.{view as sight}
use Rattle.publication.specs.View.{StartsWith}
use Rattle.publication.specs.Chronicle.{editions_of}
use Rattle.publication.proofs.Reading.{editions_start, view_holds}
use Rattle.publication.proofs.Logs.{starts_then}
use Rattle.publication.proofs.reader.EditionReader.learn.Goals as goal

pub returns-clause-told : goal.returns-clause-told
returns-clause-told g c =
    subst (λ history. StartsWith (editions_of c.joined.result.told.log) history.editions)
    c.told.view_is (editions_start _ _ c.joined.ensures.other)

pub returns-clause-told_before : goal.returns-clause-told_before
returns-clause-told_before g c =
    subst (λ view. StartsWith (editions_of c.joined.result.told.log) view.told) c.self.view_is
    (editions_start _ _ c.joined.ensures.mine)

pub returns-clause-view : goal.returns-clause-view
returns-clause-view g c =
    let is = c.self.invariant in
    let origin = ap (λ s. s.book) c.joined.ensures.origin in
    view_holds (sight c.self.inside.reader.place) c.self.inside.seen c.self.inside.count
    c.joined.result (record {
      told = c.joined.ensures.told;
      opened = is.opened;
      book = is.book ∙ sym origin;
      counted = is.counted;
      unclosed = is.unclosed;
      begins = starts_then _ _ _ is.begins c.joined.ensures.kept;
      within = is.within;
      rising = is.rising;
      entered = is.entered;
      rising_looks = is.rising_looks;
      looked = is.looked;
    })
