-- The change is published, and nothing else.
use Rattle.std.proofs.Common.{◌≡◌, fold, sym, ap, ◌∙◌, subst}
use Rattle.publication.specs.View.{StartsWith}
use Rattle.publication.specs.Slots.{shown}
use Rattle.publication.proofs.Steps.{publishes}
use Rattle.publication.proofs.publisher.publish_change.Goals as goal

pub publish_as-back-requires : goal.publish_as-back-requires
publish_as-back-requires g c next is =
    let now = c.loop.writer in
    let old = now.desk.shown.value in
    let change = c.args.change in
    let desk = c.loop.invariant.desk in
    let same : shown next ≡ shown change = is ∙ ap (fold (λ x change. shown change) (shown old))
    c.loop.invariant.pending in
    publishes _ _ old next change same c.requires.sound (c.requires.book
    ∙ ap (λ slot. slot.log.book) (sym desk))
    (subst (λ slot. StartsWith change.log.log slot.log.log) (sym desk) c.requires.later)
