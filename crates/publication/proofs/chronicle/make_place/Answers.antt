use Rattle.std.proofs.Common.{sym, ap, ◌∙◌, ◌+◌}
use Rattle.publication.proofs.Adding.{makes_moves}
use Rattle.publication.proofs.chronicle.make_place.Goals as goal

pub compare_exchange-found-requires : goal.compare_exchange-found-requires
compare_exchange-found-requires g c =
    let h = c.requires.counter in
    let offer = c.plain-offer.ensures in
    let pen = c.no_pen-pen.ensures in
    let again = ap (λ s. s.book) c.again-known.ensures in (
      ap (λ w. w.tracked) h,
      again ∙ sym (ap (λ w. w.book) h),
      pen.0 ∙ again ∙ sym (ap (λ w. w.book) h),
      offer.0,
      rw (ap (λ w. w.key) h, pen.1) (makes_moves c.again-known.result.log c.plain-offer.result.ask
          c.plain-offer.result.state (c.args.entries + 1)),
    )
