-- What a session read and wrote, at each of its ends.
use Rattle.std.proofs.Common.{◌⊎◌, ◌≡◌, ℕ, ◌+◌, ◌-◌, ◌<◌, ◌≤◌, Bool, true, false, cond, ◌||◌, eqb}
use Rattle.std.proofs.Common.{List, [], ◌∷◌, ◌++◌, length, take, drop, Option, refl, sym, ap, ◌∙◌}
use Rattle.std.proofs.Common.{subst, arith, append_assoc, append-nil, length-append, inl, inr}
use Rattle.std.proofs.Common.{⊎_elim}
use Rattle.std.specs.Prelude.{IsSome, All}
use Rattle.std.specs.List.{concat}
use Rattle.std.proofs.lemmas.Bool.{false≢true}
use Rattle.std.proofs.lemmas.List.{take_all, take-append-drop, length-take-le, length-drop}
use Rattle.http_wire.specs.declared.request.Request.{Request}
use Rattle.http_wire.specs.Reply.{bad_reply_bytes}
use Rattle.http_wire.specs.Requests.{Requests, HasGiven, none_yet, StreamEnd, Bad, Unfinished}
use Rattle.publication.specs.View.{View, StartsWith}
use Rattle.session.specs.declared.session_end.SessionEnd.{SessionEnd}
use Rattle.session.specs.declared.session_end.SessionEnd.TheVariants as ends
use Rattle.session.specs.Pace.{IsPaced, EndsInReply, closes, full, cut}
use Rattle.session.specs.Session.{Exchange, IsAnswered}
use Rattle.session.specs.Text.{Replier, is_last, answerable, edition_at, replies, some_closes}
use Rattle.session.specs.Text.{is_bad, refusal, first_replies, end_at}
use Rattle.session.proofs.AnsweredLemmas.{answerable-begins, answerable-next, answerable-closed}
use Rattle.session.proofs.AnsweredLemmas.{answerable-all, answerable-limit, some_closes-append}
use Rattle.session.proofs.AnsweredLemmas.{refusal-at_end, refusal-closed, refusal-full}
use Rattle.session.proofs.AnsweredLemmas.{end_of-at_end, end_of-closed, end_of-full}
use Rattle.session.proofs.AnsweredLemmas.{first_replies-front, answered_no_memory, answered_cut}
use Rattle.session.proofs.AnsweredLemmas.{answered_whole}
use Rattle.session.proofs.Counted.{answerable_from, replies_from, replies-counted}
use Rattle.session.proofs.PaceLemmas.{IsPaced-nothing, IsPaced-weaker}
use Rattle.session.proofs.Progress.{Progress, most_replies, text_with}
use Rattle.session.proofs.ReplyLemmas.{Enters, newest_reply}
use Rattle.session.proofs.StreamLaws.{Requests-split}
use Rattle.session.proofs.TextLemmas.{replies-grown, length-replies, concat-split, closes_last}

module _ {E : Type 0} {reply : Replier E} {left left_now held held_now : Option (List ℕ)}
    {old view : View E} {rest : List ℕ} {count : ℕ} (so_far : Progress reply left left_now held
    held_now old view rest count) where
  few_given : count < 1000 → length so_far.given < 1000
  few_given room = omega (arith, so_far.counted)

  short_so_far : length so_far.entries ≤ length so_far.given
  short_so_far = omega (arith, so_far.each, so_far.counted)

  long_so_far : length (replies_from reply view.seen 1 so_far.given so_far.entries)
      ≤ length so_far.entries
  long_so_far =
      omega (arith, length-replies reply view.seen 1 so_far.given so_far.entries short_so_far)

  -- ---- each request that was given has its whole reply

  all_written : count < 1000
      → first_replies (length so_far.entries) reply view.seen so_far.given so_far.entries
      ≡ so_far.written
  all_written room =
      first_replies-front reply view.seen so_far.given Unfinished so_far.given [] so_far.entries []
      (length so_far.entries)
      (answerable-all so_far.given so_far.none_closes (few_given room)
      ∙ sym (append-nil so_far.given)) short_so_far
      ∙ ap concat (take_all (length so_far.entries)
      (replies_from reply view.seen 1 so_far.given so_far.entries) long_so_far)
      ∙ sym so_far.text

  not_in_reply : count < 1000 → (written : List ℕ) → length so_far.written ≤ length written
      → EndsInReply so_far.given
      (first_replies (length so_far.entries) reply view.seen so_far.given so_far.entries) written
      → ⊥
  not_in_reply room written long (closes some) = false≢true (sym so_far.none_closes ∙ some)
  not_in_reply room written long (full all) =
      absurd (omega (arith, so_far.counted))
  not_in_reply room written long (cut short) =
      let same = ap length (all_written room) in absurd (omega arith)

  pub exchange_between : (fed now written : List ℕ) (ended : Bool) (end : StreamEnd)
      (result : SessionEnd) → count < 1000
      → HasGiven fed so_far.given now → IsPaced fed (length so_far.given)
      → length so_far.written ≤ length written
      → Requests fed ended so_far.given end ⊎ (result ≡ ends.NoMemory)
      → IsAnswered reply view.seen so_far.given end so_far.entries written result
      → ((requests : List Request) (end : StreamEnd) → Requests fed ended requests end
      → IsAnswered reply view.seen requests end so_far.entries written result)
      → Exchange reply view.seen fed written ended so_far.entries result
  exchange_between fed now written ended end result room given paced long is_end answered law =
      let same : length so_far.given ≡ length so_far.entries =
      so_far.counted ∙ sym so_far.each in
      record {
        requests = so_far.given;
        rest = now;
        given = given;
        one_each = same;
        end = end;
        is_end = ⊎_elim inl (λ e. inr (inl e)) is_end;
        answered = answered;
        answers = law;
        paced = IsPaced-weaker fed (length so_far.given) (length so_far.entries) (omega arith)
            paced;
        paced_reply = λ why. absurd (not_in_reply room written long why);
      }

  -- ---- memory ran out with no entry more

  no_memory_with : count < 1000 → (requests more : List Request) (end : StreamEnd)
      → requests ≡ so_far.given ++ more
      → IsAnswered reply view.seen requests end so_far.entries so_far.written ends.NoMemory
  no_memory_with room requests more end is =
      answered_no_memory reply view.seen requests end so_far.given
      (answerable_from (1 + length so_far.given) more) so_far.entries so_far.written
      (ap answerable is
      ∙ answerable-begins so_far.given more so_far.none_closes (few_given room)) short_so_far
      (inl (so_far.text ∙ ap concat (sym (take_all (length so_far.entries)
      (replies_from reply view.seen 1 so_far.given so_far.entries) long_so_far))))

  pub exchange_no_memory : count < 1000 → (fed now : List ℕ) (ended : Bool)
      → HasGiven fed so_far.given now → IsPaced fed (length so_far.given)
      → Exchange reply view.seen fed so_far.written ended so_far.entries ends.NoMemory
  exchange_no_memory room fed now ended given paced =
      exchange_between fed now so_far.written ended Unfinished ends.NoMemory room given paced
      (omega arith) (inr refl)
      (no_memory_with room so_far.given [] Unfinished (sym (append-nil so_far.given)))
      (λ requests end all.
      let split = Requests-split fed now ended so_far.given requests end given all in
      no_memory_with room requests split.0 end split.1)

  -- ---- the stream gave no more requests

  pub ends_there : count < 1000 → (requests : List Request) (end : StreamEnd)
      (result : SessionEnd) (written : List ℕ) → requests ≡ so_far.given
      → result ≡ end_at end → written ≡ so_far.written ++ cond (is_bad end) bad_reply_bytes []
      → (result ≡ ends.WriteFault → ⊥) → (result ≡ ends.NoMemory → ⊥)
      → IsAnswered reply view.seen requests end so_far.entries written result
  ends_there room requests end result written all ends_so is no_fault memory =
      let given : List Request = so_far.given in
      let entries : List ℕ = so_far.entries in
      let same : length entries ≡ length given = so_far.each ∙ sym so_far.counted in
      let due = refusal-at_end given end (length entries) so_far.none_closes same
      (omega (arith, so_far.each)) in
      subst (λ (w : List Request). IsAnswered reply view.seen w end entries written result)
      (sym all)
      (answered_whole reply view.seen given end given [] entries written result
      (answerable-all given so_far.none_closes (few_given room)) same
      (is ∙ ap (λ (w : List ℕ). w ++ cond (is_bad end) bad_reply_bytes []) so_far.text
      ∙ ap (λ (w : List ℕ). concat (replies_from reply view.seen 1 given entries) ++ w)
      (sym due))
      (ends_so ∙ sym (end_of-at_end given end so_far.none_closes (few_given room)))
      no_fault memory)

  -- a failed write in the bad reply
  pub cut_in_refusal : count < 1000 → (part : ℕ) → part < length bad_reply_bytes
      → IsAnswered reply view.seen so_far.given Bad so_far.entries
      (so_far.written ++ take part bad_reply_bytes) ends.WriteFault
  cut_in_refusal room part short =
      let given : List Request = so_far.given in
      let entries : List ℕ = so_far.entries in
      let texts : List (List ℕ) = replies_from reply view.seen 1 given entries in
      let same : length entries ≡ length given = so_far.each ∙ sym so_far.counted in
      let due : refusal given Bad (length entries) ≡ bad_reply_bytes = refusal-at_end given Bad
      (length entries) so_far.none_closes same (omega (arith, so_far.each)) in
      let whole : (so_far.written ++ take part bad_reply_bytes) ++ drop part bad_reply_bytes
      ≡ concat texts ++ bad_reply_bytes =
      append_assoc so_far.written (take part bad_reply_bytes) (drop part bad_reply_bytes)
      ∙ ap (λ (w : List ℕ). so_far.written ++ w) (take-append-drop part bad_reply_bytes)
      ∙ ap (λ (w : List ℕ). w ++ bad_reply_bytes) so_far.text in
      let most : ℕ = length entries - 1 in
      let parts : concat texts ≡ concat (take most texts) ++ concat (drop most texts) =
      concat-split most texts in
      answered_cut reply view.seen given Bad given [] entries
      (so_far.written ++ take part bad_reply_bytes)
      (answerable-all given so_far.none_closes (few_given room) ∙ sym (append-nil given))
      (omega arith)
      (drop part bad_reply_bytes, ap (λ (w : List ℕ). concat texts ++ w) due ∙ sym whole)
      (omega (arith, length-drop part bad_reply_bytes)) (
        concat (drop most texts) ++ take part bad_reply_bytes,
        ap (λ (w : List ℕ). w ++ take part bad_reply_bytes) (so_far.text ∙ parts)
            ∙ append_assoc (concat (take most texts)) (concat (drop most texts))
            (take part bad_reply_bytes),
      )

  -- ---- 1,000 requests were answered

  full_with : count ≡ 1000 → (requests more : List Request) (end : StreamEnd)
      → requests ≡ so_far.given ++ more
      → IsAnswered reply view.seen requests end so_far.entries so_far.written ends.Full
  full_with all requests more end is =
      let counted : length so_far.given ≡ 1000 = so_far.counted ∙ all in
      let answered : answerable requests ≡ so_far.given = ap answerable is
      ∙ answerable-limit so_far.given more so_far.none_closes counted in
      let none : some_closes (answerable requests) ≡ false = ap some_closes answered
      ∙ so_far.none_closes in
      let many : 1000 ≤ length requests = rw is (simp length-append (omega arith)) in
      let no_refusal : refusal requests end (length so_far.entries) ≡ [] = refusal-full requests end
      (length so_far.entries) (omega (arith, so_far.each)) in
      answered_whole reply view.seen requests end so_far.given [] so_far.entries so_far.written
      ends.Full answered (so_far.each ∙ sym so_far.counted)
      (so_far.text ∙ sym (append-nil (concat (replies_from reply view.seen 1 so_far.given
      so_far.entries))) ∙ ap (λ (w : List ℕ). concat
      (replies_from reply view.seen 1 so_far.given so_far.entries) ++ w) (sym no_refusal))
      (sym (end_of-full requests end none many)) (λ e. cc) (λ e. cc)

  pub exchange_full : count ≡ 1000 → (ended : Bool)
      → Exchange reply view.seen so_far.read so_far.written ended so_far.entries ends.Full
  exchange_full all ended = record {
    requests = so_far.given;
    rest = rest;
    given = so_far.has_given;
    one_each = so_far.counted ∙ sym so_far.each;
    end = Unfinished;
    is_end = inr (inr (full (so_far.counted ∙ all)));
    answered = full_with all so_far.given [] Unfinished (sym (append-nil so_far.given));
    answers = λ requests end of_stream.
        let split = Requests-split so_far.read rest ended so_far.given requests end
        so_far.has_given of_stream in
        full_with all requests split.0 end split.1;
    paced = IsPaced-weaker so_far.read (count - 1) (length so_far.entries)
        (omega (arith, so_far.each)) so_far.paced;
    paced_reply = λ _. IsPaced-weaker so_far.read (count - 1) (length so_far.entries - 1)
        (omega (arith, so_far.each)) so_far.paced;
  }

  -- ---- one entry more

  module _ (new : View E) (request : Request) (last : Bool) (enters : Enters view new)
      (later : StartsWith new.seen view.seen) (last_is : last ≡ is_last (count + 1) request) where
    short_with : length (so_far.entries ++ length new.seen ∷ []) ≤ length (so_far.given ++ request
        ∷ [])
    short_with = simp length-append (omega (arith, so_far.each, so_far.counted))

    exchange_entered : (fed now written : List ℕ) (ended : Bool) (result : SessionEnd)
        → HasGiven fed (so_far.given ++ request ∷ []) now → IsPaced fed (length so_far.given)
        → (result ≡ ends.NoMemory) ⊎ EndsInReply (so_far.given ++ request ∷ [])
        (first_replies (length (so_far.entries ++ length new.seen ∷ [])) reply new.seen
        (so_far.given ++ request ∷ []) (so_far.entries ++ length new.seen ∷ [])) written
        → ((requests more : List Request) (end : StreamEnd)
        → requests ≡ so_far.given ++ request ∷ more → IsAnswered reply new.seen requests end
        (so_far.entries ++ length new.seen ∷ []) written result)
        → Exchange reply new.seen fed written ended (so_far.entries ++ length new.seen ∷ []) result
    exchange_entered fed now written ended result given paced why answered =
        let entries : List ℕ = so_far.entries ++ length new.seen ∷ [] in
        let counted : length so_far.given ≡ length entries - 1 = simp length-append
        (omega (arith, so_far.each, so_far.counted)) in
        record {
          requests = so_far.given ++ request ∷ [];
          rest = now;
          given = given;
          one_each = simp length-append (omega (arith, so_far.each, so_far.counted));
          end = Unfinished;
          is_end = inr why;
          answered = answered (so_far.given ++ request ∷ []) [] Unfinished refl;
          answers = λ requests end all.
              let split = Requests-split fed now ended (so_far.given ++ request ∷ []) requests end
              given all in
              answered requests split.0 end
              (split.1 ∙ append_assoc so_far.given (request ∷ []) split.0);
          paced = IsPaced-weaker fed (length so_far.given) (length entries) (omega arith) paced;
          paced_reply = λ _. IsPaced-weaker fed (length so_far.given) (length entries - 1)
              (omega arith) paced;
        }

    no_memory_entered : count < 1000 → (requests more : List Request) (end : StreamEnd)
        → requests ≡ so_far.given ++ request ∷ more
        → IsAnswered reply new.seen requests end (so_far.entries ++ length new.seen ∷ [])
        so_far.written ends.NoMemory
    no_memory_entered room requests more end is =
        let begins = answerable-next so_far.given request more so_far.none_closes
        (few_given room) in
        answered_no_memory reply new.seen requests end (so_far.given ++ request ∷ []) begins.0
        (so_far.entries ++ length new.seen ∷ []) so_far.written
        (ap answerable is ∙ begins.1) short_with
        (inr (most_replies so_far new request last enters later last_is))

    pub exchange_entered_no_memory : count < 1000 → (fed now : List ℕ) (ended : Bool)
        → HasGiven fed (so_far.given ++ request ∷ []) now → IsPaced fed (length so_far.given)
        → Exchange reply new.seen fed so_far.written ended (so_far.entries ++ length new.seen ∷ [])
        ends.NoMemory
    exchange_entered_no_memory room fed now ended given paced =
        exchange_entered fed now so_far.written ended ends.NoMemory given paced (inl refl)
        (no_memory_entered room)

    -- a failed write in the reply

    all_replies : count < 1000
        → first_replies (length (so_far.entries ++ length new.seen ∷ [])) reply new.seen
        (so_far.given ++ request ∷ []) (so_far.entries ++ length new.seen ∷ [])
        ≡ so_far.written ++ newest_reply reply new request last
    all_replies room =
        let entries : List ℕ = so_far.entries ++ length new.seen ∷ [] in
        let given : List Request = so_far.given ++ request ∷ [] in
        let begins = answerable-next so_far.given request [] so_far.none_closes (few_given room) in
        let texts : List (List ℕ) = replies_from reply new.seen 1 given entries in
        let long : length texts ≤ length entries =
        omega (arith, length-replies reply new.seen 1 given entries short_with) in
        first_replies-front reply new.seen given Unfinished given begins.0 entries []
        (length entries) begins.1 short_with
        ∙ ap concat (take_all (length entries) texts long)
        ∙ sym (text_with so_far new request last enters later last_is)

    cut_in_reply : count < 1000 → (part : ℕ)
        → part < length (newest_reply reply new request last)
        → (requests more : List Request) (end : StreamEnd)
        → requests ≡ so_far.given ++ request ∷ more
        → IsAnswered reply new.seen requests end (so_far.entries ++ length new.seen ∷ [])
        (so_far.written ++ take part (newest_reply reply new request last)) ends.WriteFault
    cut_in_reply room part short requests more end is =
        let made : List ℕ = newest_reply reply new request last in
        let entries : List ℕ = so_far.entries ++ length new.seen ∷ [] in
        let begins = answerable-next so_far.given request more so_far.none_closes
        (few_given room) in
        let bad : List ℕ = refusal requests end (length entries) in
        let whole : (so_far.written ++ take part made) ++ drop part made ≡ concat
        (replies_from reply new.seen 1 (so_far.given ++ request ∷ []) entries) =
        append_assoc so_far.written (take part made) (drop part made)
        ∙ ap (λ (w : List ℕ). so_far.written ++ w) (take-append-drop part made)
        ∙ text_with so_far new request last enters later last_is in
        answered_cut reply new.seen requests end (so_far.given ++ request ∷ []) begins.0 entries
        (so_far.written ++ take part made)
        (ap answerable is ∙ begins.1) short_with (
          drop part made ++ bad,
          ap (λ (w : List ℕ). w ++ bad) (sym whole) ∙ append_assoc
              (so_far.written ++ take part made) (drop part made) bad,
        )
        (simp length-append (omega (arith, length-drop part made))) (
          take part made,
          ap (λ (w : List ℕ). w ++ take part made)
              (most_replies so_far new request last enters later last_is),
        )

    pub exchange_cut : count < 1000 → (fed now : List ℕ) (ended : Bool) (part : ℕ)
        → part < length (newest_reply reply new request last)
        → HasGiven fed (so_far.given ++ request ∷ []) now → IsPaced fed (length so_far.given)
        → Exchange reply new.seen fed
        (so_far.written ++ take part (newest_reply reply new request last)) ended
        (so_far.entries ++ length new.seen ∷ []) ends.WriteFault
    exchange_cut room fed now ended part short given paced =
        let made : List ℕ = newest_reply reply new request last in
        let some : length (take part made) ≡ part = length-take-le part made (omega arith) in
        let shorter : length (so_far.written ++ take part made) < length (so_far.written ++ made) =
        simp length-append (omega arith) in
        let all = ap length (all_replies room) in
        exchange_entered fed now (so_far.written ++ take part made) ended ends.WriteFault given
        paced (inr (cut (omega arith))) (cut_in_reply room part short)

    -- the request closes

    some_closes_with : (more : List Request) → request.close ≡ true
        → some_closes (so_far.given ++ request ∷ more) ≡ true
    some_closes_with more closes_now =
        some_closes-append so_far.given (request ∷ more)
        ∙ closes_last (some_closes so_far.given) request.close (some_closes more) closes_now

    closed_with : count < 1000 → request.close ≡ true → (requests more : List Request)
        (end : StreamEnd) → requests ≡ so_far.given ++ request ∷ more
        → IsAnswered reply new.seen requests end (so_far.entries ++ length new.seen ∷ [])
        (so_far.written ++ newest_reply reply new request last) ends.Closed
    closed_with room closes_now requests more end is =
        let entries : List ℕ = so_far.entries ++ length new.seen ∷ [] in
        let made : List ℕ = newest_reply reply new request last in
        let last_one : is_last (1 + length so_far.given) request ≡ true =
        ap (λ w. w || eqb (1 + length so_far.given) 1000) closes_now in
        let answered : answerable requests ≡ so_far.given ++ request ∷ [] = ap answerable is
        ∙ answerable-closed so_far.given request more so_far.none_closes (few_given room)
        last_one in
        let some = some_closes_with [] closes_now in
        let some_at_all : some_closes requests ≡ true = ap some_closes is
        ∙ some_closes_with more closes_now in
        let no_refusal : refusal requests end (length entries) ≡ [] = refusal-closed requests end
        (length entries) some_at_all in
        let same : length entries ≡ length (so_far.given ++ request ∷ []) = simp length-append
        (omega (arith, so_far.each, so_far.counted)) in
        let text : so_far.written ++ made ≡ concat (replies_from reply new.seen 1
        (so_far.given ++ request ∷ []) entries) = text_with so_far new request last enters later
        last_is in
        answered_whole reply new.seen requests end (so_far.given ++ request ∷ []) [] entries
        (so_far.written ++ made) ends.Closed answered same
        (text ∙ sym (append-nil (concat (replies_from reply new.seen 1 (so_far.given ++ request
        ∷ []) entries))) ∙ ap (λ (w : List ℕ). concat (replies_from reply new.seen 1
        (so_far.given ++ request ∷ []) entries) ++ w) (sym no_refusal))
        (sym (end_of-closed requests end (ap some_closes answered ∙ some))) (λ e. cc) (λ e. cc)

    pub exchange_closed : count < 1000 → (fed now : List ℕ) (ended : Bool)
        → request.close ≡ true
        → HasGiven fed (so_far.given ++ request ∷ []) now → IsPaced fed (length so_far.given)
        → Exchange reply new.seen fed (so_far.written ++ newest_reply reply new request last) ended
        (so_far.entries ++ length new.seen ∷ []) ends.Closed
    exchange_closed room fed now ended closes_now given paced =
        exchange_entered fed now (so_far.written ++ newest_reply reply new request last) ended
        ends.Closed given paced (inr (closes (some_closes_with [] closes_now)))
        (closed_with room closes_now)

-- ---- nothing was read or written

pub Exchange-unbegun : {E : Type 0} (reply : Replier E) (history : List E) (ended : Bool)
    → Exchange reply history [] [] ended [] ends.NoMemory
Exchange-unbegun reply history ended = record {
  requests = [];
  rest = [];
  given = none_yet;
  one_each = refl;
  end = Unfinished;
  is_end = inr (inl refl);
  answered = unanswered [] Unfinished;
  answers = λ requests end all. unanswered requests end;
  paced = IsPaced-nothing;
  paced_reply = λ _. IsPaced-nothing;
}
  where
    unanswered : (requests : List Request) (end : StreamEnd)
        → IsAnswered reply history requests end [] [] ends.NoMemory
    unanswered requests end =
        answered_no_memory reply history requests end [] (answerable requests) [] [] refl
        (omega arith) (inl refl)

-- ---- over a longer history

module _ {E : Type 0} (reply : Replier E) (history more : List E) (entries : List ℕ)
    (known : All (λ entry. IsSome (edition_at history entry)) entries) where
  same_replies : (requests : List Request) → replies reply history requests entries
      ≡ replies reply (history ++ more) requests entries
  same_replies requests =
      sym (replies-counted reply history requests entries)
      ∙ sym (replies-grown reply history more 1 requests entries known)
      ∙ replies-counted reply (history ++ more) requests entries

  IsAnswered-grown : (requests : List Request) (end : StreamEnd) (written : List ℕ)
      (result : SessionEnd) → IsAnswered reply history requests end entries written result
      → IsAnswered reply (history ++ more) requests end entries written result
  IsAnswered-grown requests end written result a =
      let same = same_replies (answerable requests) in
      record {
        within = a.within;
        each = a.each;
        text = λ whole. a.text whole ∙ ap (λ texts. concat texts ++ refusal requests end
            (length entries)) same;
        exact = a.exact;
        begun = λ e. subst (λ (texts : List (List ℕ)). StartsWith
            (concat texts ++ refusal requests end (length entries)) written) same (a.begun e);
        shorter = λ e. subst (λ (texts : List (List ℕ)). length written
            < length (concat texts ++ refusal requests end (length entries))) same (a.shorter e);
        whole_replies = λ e. subst (λ (texts : List (List ℕ)). StartsWith written
            (concat (take (length entries - 1) texts))) same (a.whole_replies e);
        no_memory = λ e. ⊎_elim
            (λ h. inl (h ∙ ap (λ texts. concat (take (length entries) texts)) same))
            (λ h. inr (h ∙ ap (λ texts. concat (take (length entries - 1) texts)) same))
            (a.no_memory e);
      }

  -- the same exchange
  pub Exchange-grown : (read written : List ℕ) (ended : Bool) (result : SessionEnd)
      → Exchange reply history read written ended entries result
      → Exchange reply (history ++ more) read written ended entries result
  Exchange-grown read written ended result x =
      let same : first_replies (length entries) reply history x.requests entries
      ≡ first_replies (length entries) reply (history ++ more) x.requests entries =
      ap (λ texts. concat (take (length entries) texts)) (same_replies (answerable x.requests)) in
      record {
        requests = x.requests;
        rest = x.rest;
        given = x.given;
        one_each = x.one_each;
        end = x.end;
        is_end = subst (λ (w : List ℕ). Requests read ended x.requests x.end
            ⊎ (result ≡ ends.NoMemory) ⊎ EndsInReply x.requests w written) same x.is_end;
        answered = IsAnswered-grown x.requests x.end written result x.answered;
        answers = λ requests end all. IsAnswered-grown requests end written result
            (x.answers requests end all);
        paced = x.paced;
        paced_reply = λ why. x.paced_reply (subst (λ (w : List ℕ).
            EndsInReply x.requests w written) (sym same) why);
      }
