use Rattle.std.proofs.Common.{sym, ap, ◌∙◌, arith}
use Rattle.piece_crew.proofs.Steps.{draws}
use Rattle.piece_crew.proofs.group.SeatGroup.claim.Goals as goal

pub fetch_add-found-requires : goal.fetch_add-found-requires
fetch_add-found-requires c =
    let d = c.deref.ensures in (
      c.args.self.now.seated ∙ ap (λ b. b.shared.table_id) (sym d),
      (let w = ap (λ b. b.shared.table_id.words) d in omega (arith, w, c.args.self.now.one_word)),
      draws c.deref.result.now.shared.key c.deref.result.now.shared.table_id.slots c.args.self.now.seat.id c.args.self.now.seat.me.0 c.args.self.now.seat.me.1 c.requires.room,
    )
