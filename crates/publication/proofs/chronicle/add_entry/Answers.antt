use Rattle.std.proofs.Common.{sym, ap, ◌∙◌}
use Rattle.publication.proofs.Adding.{adds_moves}
use Rattle.publication.proofs.chronicle.add_entry.Goals as goal

pub compare_exchange-requires : goal.compare_exchange-requires
compare_exchange-requires g c =
    let h = c.requires.counter in
    let offer = c.plain-offer.ensures in (
      ap (λ w. w.tracked) h,
      sym (ap (λ w. w.book) h),
      c.requires.book ∙ sym (ap (λ w. w.book) h),
      offer.0,
      rw (ap (λ w. w.key) h, c.requires.place) (adds_moves c.args.known.now.log _ _
          c.requires.open),
    )
