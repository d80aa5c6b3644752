-- The history grows by this edition.
use Rattle.std.proofs.Common.{◌≡◌, ◌+◌, [], ◌∷◌, ◌++◌, length, ap, sym, ◌∙◌, subst, arith, Some, false}
use Rattle.std.specs.Arc.{arc_value}
use Rattle.publication.specs.Publishers.{IsPublisher}
use Rattle.publication.specs.Slots.{IsSound}
use Rattle.publication.specs.declared.slot.Slot.{Slot}
use Rattle.publication.proofs.Publishing.{change_sound, published, editions_more, editions_count}
use Rattle.publication.proofs.publisher.Publisher.publish.Goals as goal

pub overflow_add-number : goal.overflow_add-number
overflow_add-number g c =
    let number = ap (λ slot. slot.number) c.published.ensures
    ∙ editions_count _ c.self.invariant.0.sound ∙ ap (λ view. length view.editions)
    c.self.view_is in
    omega (arith, number, c.requires.room)

pub publish_at-requires-clause-sound : goal.publish_at-requires-clause-sound
publish_at-requires-clause-sound g c =
    let slot = c.self.inside.writer.desk.shown.value in
    let unclosed : c.self.inside.closed ≡ false = ap (λ view. view.closed) c.self.view_is
    ∙ c.requires.unclosed in
    let change : Slot _ = record {
      edition = c.args.next;
      number = c.published.result.now.number +
          1;
      log = c.again.result;
    } in
    let log : change.log.log ≡ slot.log.log ++ Some (arc_value c.args.next) ∷ [] =
    ap (λ token. token.log) c.again.ensures ∙ c.add_entry.ensures.added
    ∙ ap (λ l. l ++ Some (arc_value c.args.next) ∷ []) (c.self.invariant.0.all unclosed) in
    change_sound slot change c.self.invariant.0.sound (ap (λ s. s.number + 1) c.published.ensures)
    log

pub invariant_of-self : goal.invariant_of-self
invariant_of-self g c =
    let slot = c.self.inside.writer.desk.shown.value in
    let is = c.self.invariant.0 in
    let unclosed : c.self.inside.closed ≡ false = ap (λ view. view.closed) c.self.view_is
    ∙ c.requires.unclosed in
    let change : Slot _ = record {
      edition = c.args.next;
      number = c.published.result.now.number +
          1;
      log = c.again.result;
    } in
    let log : change.log.log ≡ slot.log.log ++ Some (arc_value c.args.next) ∷ [] =
    ap (λ token. token.log) c.again.ensures ∙ c.add_entry.ensures.added
    ∙ ap (λ l. l ++ Some (arc_value c.args.next) ∷ []) (is.all unclosed) in
    let sound : IsSound change = change_sound slot change is.sound
    (ap (λ s. s.number + 1) c.published.ensures) log in
    let books : change.log.book ≡ slot.log.book = ap (λ token. token.book) c.again.ensures
    ∙ c.add_entry.ensures.book ∙ is.log_book in
    let new = c.publish_at.new.writer.desk.shown.value in (
      subst (λ token. IsPublisher new c.self.inside.counter token c.self.inside.origin
          c.in_ok-pen.pen c.self.inside.closed) c.again.ensures
          (published slot change new c.self.inside.counter c.self.inside.log c.self.inside.origin
          c.self.inside.pen c.in_ok-pen.pen c.self.inside.closed is
          c.publish_at.ensures.shown sound books (Some (arc_value c.args.next) ∷ [], log)
          (c.in_ok-pen.ensures.book ∙ is.log_book) c.in_ok-pen.ensures.place unclosed),
      c.publish_at.ensures.clean,
    )

pub returns-clause-history : goal.returns-clause-history
returns-clause-history g c =
    let slot = c.self.inside.writer.desk.shown.value in
    let unclosed : c.self.inside.closed ≡ false = ap (λ view. view.closed) c.self.view_is
    ∙ c.requires.unclosed in
    let change : Slot _ = record {
      edition = c.args.next;
      number = c.published.result.now.number +
          1;
      log = c.again.result;
    } in
    let log : change.log.log ≡ slot.log.log ++ Some (arc_value c.args.next) ∷ [] =
    ap (λ token. token.log) c.again.ensures ∙ c.add_entry.ensures.added
    ∙ ap (λ l. l ++ Some (arc_value c.args.next) ∷ []) (c.self.invariant.0.all unclosed) in
    editions_more slot change c.publish_at.new.writer.desk.shown.value c.publish_at.ensures.shown
    log ∙ ap (λ view. view.editions ++ arc_value c.args.next ∷ []) c.self.view_is

pub returns-clause-number : goal.returns-clause-number
returns-clause-number g c =
    let new = c.publish_at.new.writer.desk.shown.value in
    sym (ap (λ s. s.number) c.publish_at.ensures.shown) ∙ editions_count new
    (invariant_of-self g c).0.sound
