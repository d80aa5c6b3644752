use Rattle.std.proofs.Common.{ap, sym, ◌∙◌, subst, Some}
use Rattle.std.specs.Arc.{arc_value}
use Rattle.publication.specs.View.{EndsWith}
use Rattle.publication.proofs.Reading.{editions_end}
use Rattle.publication.proofs.publisher.Publisher.latest.Goals as goal

pub returns : goal.returns
returns g c =
    let slot = c.self.inside.writer.desk.shown.value in
    let same = sym (c.deref.ensures ∙ ap (λ s. arc_value s.edition) c.published.ensures) in
    subst (λ view. EndsWith view.editions c.deref.result.now) c.self.view_is
    (editions_end slot.log.log c.deref.result.now
    (subst (λ edition. EndsWith slot.log.log (Some edition)) same
    c.self.invariant.0.sound.newest))
