-- What a publisher keeps, from one publication to the next.
use Rattle.std.proofs.Common.{◌≡◌, ℕ, ◌+◌, Bool, true, false, List, [], ◌∷◌, ◌++◌, length, refl, sym, ap, ◌∙◌, subst, length-append, arith, Option, Some, None}
use Rattle.std.proofs.lemmas.List.{append-nil}
use Rattle.std.specs.Arc.{arc_value}
use Rattle.logbook.specs.Pages.{Named}
use Rattle.logbook.specs.declared.tokens.Seen.{Seen}
use Rattle.logbook.specs.declared.tokens.Pen.{Pen}
use Rattle.publication.specs.View.{StartsWith}
use Rattle.publication.specs.Chronicle.{IsOpen, counter_of, editions_of, place_after}
use Rattle.publication.specs.Slots.{IsSound, shown}
use Rattle.publication.specs.Publishers.{IsPublisher}
use Rattle.publication.specs.Readers.{IsTold}
use Rattle.publication.specs.declared.slot.Slot.{Slot}
use Rattle.publication.specs.declared.chronicle.Chronicle.{Chronicle}
use Rattle.publication.proofs.Logs.{open_more, starts_same, starts_then}
use Rattle.publication.proofs.Reading.{editions_append, editions_length}

abbrev Token : Type 0 → Type 0
Token E = Seen (Option E) ℕ Chronicle

module _ {E : Type 0} where
  pub change_sound : (slot change : Slot E) → IsSound slot → change.number ≡ slot.number + 1
      → change.log.log ≡ slot.log.log ++ Some (arc_value change.edition) ∷ [] → IsSound change
  change_sound slot change s number log = record {
    number =
        let longer : length change.log.log ≡ length slot.log.log + 1 = ap length log
        ∙ length-append slot.log.log (Some (arc_value change.edition) ∷ []) in
        omega (arith, number, longer, s.number);
    newest = (slot.log.log, log);
    unclosed = subst (λ (l : List (Option E)). IsOpen l) (sym log) (open_more slot.log.log
        (arc_value change.edition) s.unclosed);
  }

  pub published : (slot change new : Slot E) (counter : Named) (log origin : Token E)
      (pen next : Pen) (closed : Bool) → IsPublisher slot counter log origin pen closed
      → shown new ≡ shown change → IsSound change → change.log.book ≡ slot.log.book
      → StartsWith change.log.log slot.log.log
      → next.book ≡ slot.log.book → next.nib ≡ place_after change.number → closed ≡ false
      → IsPublisher new counter change.log origin next closed
  published slot change new counter log origin pen next closed p same sound book later next_book
      place unclosed =
      let books : new.log.book ≡ slot.log.book = ap (λ z. z.log.book) same ∙ book in
      let logs : new.log.log ≡ change.log.log = ap (λ z. z.log.log) same in record {
        sound = record {
          number = ap (λ z. z.number) same ∙ sound.number ∙ ap length (sym logs);
          newest = subst (λ z. (front : List (Option E)) × (z.log.log ≡ front ++ Some z.edition
              ∷ [])) (sym same) sound.newest;
          unclosed = subst (λ (l : List (Option E)). IsOpen l) (sym logs) sound.unclosed;
        };
        counter_is = subst (λ b. counter ≡ record { tracked = true; key = 0; book = b })
            (sym books) p.counter_is;
        log_book = sym (ap (λ z. z.log.book) same);
        origin_book = p.origin_book ∙ sym books;
        one = p.one;
        first = p.first;
        informed = subst (λ (l : List (Option E)). StartsWith l origin.log) (sym logs)
            (starts_then origin.log slot.log.log change.log.log p.informed later);
        all = λ _. sym logs;
        next = λ _. record {
          book = next_book ∙ sym books;
          place = place ∙ ap place_after
              (sound.number ∙ ap length (sym logs));
        };
        last = λ closed'. absurd (cc (unclosed, closed'));
      }

  pub closed_now : (slot : Slot E) (counter : Named) (log all origin : Token E) (pen used : Pen)
      (closed : Bool) → IsPublisher slot counter log origin pen closed
      → all.book ≡ slot.log.book → all.log ≡ slot.log.log ++ None ∷ [] → IsPublisher slot counter
      all origin used true
  closed_now slot counter log all origin pen used closed p book last = record {
    sound = p.sound;
    counter_is = p.counter_is;
    log_book = book;
    origin_book = p.origin_book;
    one = p.one;
    first = p.first;
    informed = p.informed;
    all = λ h. absurd (cc (h));
    next = λ h. absurd (cc (h));
    last = λ _. last;
  }

  -- what is told while the history may go on
  pub told_open : (slot : Slot E) (counter : Named) (log origin : Token E) (pen : Pen)
      (closed : Bool) → IsPublisher slot counter log origin pen closed
      → IsTold (record {
        origin = origin;
        told = slot.log;
        all = slot.log;
        number = slot.number;
        closed = false;
      })
  told_open slot counter log origin pen closed p = record {
    told_book = sym p.origin_book;
    all_book = sym p.origin_book;
    one = p.one;
    first = p.first;
    number = p.sound.number;
    informed = p.informed;
    unclosed = p.sound.unclosed;
    begins = starts_same slot.log.log;
    last = λ h. absurd (cc (h));
  }

  -- what is told of a closed history
  pub told_closed : (slot : Slot E) (counter : Named) (log origin : Token E) (pen : Pen)
      → IsPublisher slot counter log origin pen true
      → IsTold (record {
        origin = origin;
        told = slot.log;
        all = log;
        number = slot.number;
        closed = true;
      })
  told_closed slot counter log origin pen p = record {
    told_book = sym p.origin_book;
    all_book = p.log_book ∙ sym p.origin_book;
    one = p.one;
    first = p.first;
    number = p.sound.number;
    informed = p.informed;
    unclosed = p.sound.unclosed;
    begins = (None ∷ [], p.last refl);
    last = p.last;
  }

  pub editions_more : (slot change new : Slot E) → shown new ≡ shown change → change.log.log
      ≡ slot.log.log ++ Some (arc_value change.edition) ∷ []
      → editions_of new.log.log ≡ editions_of slot.log.log ++ arc_value change.edition ∷ []
  editions_more slot change new same log = ap (λ z. editions_of z.log.log) same ∙ ap editions_of log
      ∙ editions_append slot.log.log (Some (arc_value change.edition) ∷ [])

  pub editions_count : (slot : Slot E) → IsSound slot → slot.number ≡ length
      (editions_of slot.log.log)
  editions_count slot s = s.number ∙ sym (editions_length slot.log.log s.unclosed)

  -- a history that was just opened
  pub opened : (slot : Slot E) (edition : E) (counter : Named) (log token : Token E) (pen : Pen)
      → shown slot ≡ record { edition = edition; number = 1; log = token } → token ≡ log
      → log.log ≡ Some edition ∷ []
      → counter ≡ counter_of log.book → pen.book ≡ log.book → pen.nib ≡ place_after 1
      → IsPublisher slot counter log log pen false
  opened slot edition counter log token pen same again one counter_is book place =
      let tokens : slot.log ≡ log = ap (λ z. z.log) same ∙ again in
      let logs : slot.log.log ≡ Some edition ∷ [] = ap (λ t. t.log) tokens ∙ one in
      let books : log.book ≡ slot.log.book = ap (λ t. t.book) (sym tokens) in
      let length_one : length slot.log.log ≡ 1 = ap length logs in record {
        sound = record {
          number = ap (λ z. z.number) same ∙ sym length_one;
          newest = ([], logs ∙ ap (λ e. Some e ∷ []) (sym (ap (λ z. z.edition) same)));
          unclosed = subst (λ (l : List (Option E)). IsOpen l) (sym logs) tt;
        };
        counter_is = counter_is ∙ ap counter_of books;
        log_book = books;
        origin_book = books;
        one = ap length one;
        first = subst (λ (l : List (Option E)). IsOpen l) (sym one) tt;
        informed = ([], ap (λ t. t.log) tokens ∙ sym (append-nil log.log));
        all = λ _. ap (λ t. t.log) (sym tokens);
        next = λ _. record { book = book ∙ books; place = place ∙ ap place_after (sym length_one) };
        last = λ h. absurd (cc (h));
      }
