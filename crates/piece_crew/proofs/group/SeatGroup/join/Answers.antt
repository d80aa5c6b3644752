use Rattle.std.proofs.Common.{sym, ap, ◌∙◌, arith}
use Rattle.piece_crew.proofs.Steps.{joins}
use Rattle.piece_crew.proofs.group.SeatGroup.join.Goals as goal

pub join_seat-requires : goal.join_seat-requires
join_seat-requires c =
    let d = c.deref.ensures in
    let here = c.args.self.now.seated ∙ ap (λ b. b.shared.table_id) (sym d) in (
      here,
      c.requires.id ∙ here,
      c.args.other.no_slot,
      (let w = ap (λ b. b.shared.table_id.words) d in omega (arith, w, c.args.self.now.one_word)),
      joins c.deref.result.now.shared.key c.args.self.now.seat.id c.args.self.now.seat.me.0 c.args.other.seat.id c.args.other.seat.me.0 c.requires.some,
    )
