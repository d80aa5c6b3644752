-- What is published at the opening.
use Rattle.std.proofs.Common.{ap, ◌∙◌}
use Rattle.std.specs.Arc.{arc_value}
use Rattle.publication.specs.Slots.{shown}
use Rattle.publication.proofs.Publishing.{opened}
use Rattle.publication.proofs.opening.open_editions.Goals as goal

pub new-requires-clause-publisher : goal.new-requires-clause-publisher
new-requires-clause-publisher g c =
    opened c.add_readers.new.writer.desk.shown.value (arc_value c.args.first)
    c.in_ok-counter.counter c.in_ok-counter.log c.again.result c.in_ok-counter.pen
    (ap (λ part. shown part.value) c.in-Ok.ensures.shown ∙ c.in_ok-writer.ensures.shown)
    c.again.ensures c.in_ok-counter.ensures.log
    c.in_ok-counter.ensures.counter c.in_ok-counter.ensures.book c.in_ok-counter.ensures.place
