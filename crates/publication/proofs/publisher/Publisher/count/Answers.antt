use Rattle.std.proofs.Common.{ap, ◌∙◌, length}
use Rattle.publication.proofs.Publishing.{editions_count}
use Rattle.publication.proofs.publisher.Publisher.count.Goals as goal

pub returns : goal.returns
returns g c = ap (λ slot. slot.number) c.published.ensures
    ∙ editions_count _ c.self.invariant.0.sound ∙ ap (λ view. length view.editions) c.self.view_is
