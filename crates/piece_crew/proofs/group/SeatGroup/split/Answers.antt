use Rattle.std.proofs.Common.{sym, ap, ◌∙◌, arith}
use Rattle.piece_crew.proofs.Steps.{splits}
use Rattle.piece_crew.proofs.group.SeatGroup.split.Goals as goal

pub split_seat-seat-requires : goal.split_seat-seat-requires
split_seat-seat-requires c =
    let d = c.deref.ensures ∙ c.in_ok-table.ensures in (
      c.args.self.now.seated ∙ ap (λ b. b.shared.table_id) (sym d),
      (let w = ap (λ b. b.shared.table_id.words) d in omega (arith, w, c.args.self.now.one_word)),
      splits c.deref.result.now.shared.key c.args.self.now.seat.id c.args.self.now.seat.me.0 c.requires.several c.requires.open,
    )
