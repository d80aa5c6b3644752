use Rattle.std.proofs.Common.{◌∷◌, ◌++◌, [], sym, ap, ◌∙◌, subst}
use Rattle.atomic_table.specs.Seated.{TableId}
use Rattle.piece_crew.specs.declared.rule.View.{View}
use Rattle.piece_crew.proofs.Closing.{IsJoined, joined_first, joined_more}
use Rattle.piece_crew.proofs.claims.Claims.close.Goals as goal

pub loop-seat-init : goal.loop-seat-init
loop-seat-init c =
    let rest = c.pop.new.self.items in
    joined_first c.args.seats rest c.into_group-whole.result.seat.table_id c.into_group-whole.result.seat.me.0 c.requires
    (sym c.into_vec-seats.ensures ∙ c.in-Some.ensures.items ∙ ap (λ last. rest ++ last ∷ []) (sym c.into_group-whole.ensures.same)) c.into_group-whole.ensures.one

pub loop-seat-preserved : goal.loop-seat-preserved
loop-seat-preserved c =
    let rest = c.pop-in-loop-seat.new.self.items in
    let more = joined_more c.args.seats c.loop-seat.seats.items rest c.loop-seat.whole.seat.table_id c.into_group.result.seat.table_id c.loop-seat.whole.seat.me.0 c.into_group.result.seat.me.0 c.loop-seat.invariant
    (c.in-Some-pop.ensures.items ∙ ap (λ seat. rest ++ seat ∷ []) (sym c.into_group.ensures.same)) c.into_group.ensures.one in
    subst (λ (id : TableId). IsJoined c.args.seats rest id c.join.new.self.seat.me.0) (sym c.join.ensures.same_id)
    (subst (λ (v : View). IsJoined c.args.seats rest c.loop-seat.whole.seat.table_id v) (sym c.join.ensures.joined) more)
