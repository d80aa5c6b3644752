-- Each way in which a session ends.
use Rattle.std.proofs.Common.{◌⊎◌, ◌≡◌, ◌≢◌, ℕ, ◌+◌, ◌<◌, ◌≤◌, ◌↔◌, Bool, true, false, List, []}
use Rattle.std.proofs.Common.{◌∷◌, ◌++◌, length, take, Option, Some, None, Ok, Err, refl, sym, ◌∙◌}
use Rattle.std.proofs.Common.{subst, arith, append-nil, length-append, inl, ⊎_elim}
use Rattle.std.specs.Prelude.{IsSome, All, IfSome, IsTrue}
use Rattle.std.proofs.lemmas.Bool.{false≢true}
use Rattle.std.proofs.lemmas.List.Elements.{All-nil}
use Rattle.http_wire.specs.declared.request.Request.{Request}
use Rattle.http_wire.specs.declared.heads.Next.TheVariants as answers
use Rattle.http_wire.specs.Reading.{Reading}
use Rattle.http_wire.specs.Reply.{bad_reply_bytes}
use Rattle.http_wire.specs.Requests.{Requests, Clean, Bad, Unfinished}
use Rattle.http_wire.proofs.RequestLaws.{HasGiven-append, Requests_unique}
use Rattle.link_io.specs.Streams.{Takes, Adds}
use Rattle.link_io.proofs.Laws.{Takes-then, Takes-none, Adds-then, Adds-none}
use Rattle.publication.specs.View.{View, StartsWith}
use Rattle.session.specs.declared.session_end.SessionEnd.{SessionEnd}
use Rattle.session.specs.declared.session_end.SessionEnd.TheVariants as ends
use Rattle.session.specs.declared.session_end.Stop.{Stop}
use Rattle.session.specs.declared.session_end.Stop.TheVariants as stops
use Rattle.session.specs.Incoming.{Hears, KnowsEnd}
use Rattle.session.specs.Session.{Exchange, IsAnswered, LinkState, Session}
use Rattle.session.specs.Steps.{Writes, end_after}
use Rattle.session.specs.Text.{Replier, is_last, edition_at}
use Rattle.session.proofs.ExchangeLemmas.{exchange_between, exchange_no_memory, exchange_full}
use Rattle.session.proofs.ExchangeLemmas.{exchange_entered_no_memory, exchange_cut, exchange_closed}
use Rattle.session.proofs.ExchangeLemmas.{ends_there, cut_in_refusal, Exchange-unbegun}
use Rattle.session.proofs.Progress.{Progress, paced_after, gains_with, known_with, fresh_with}
use Rattle.session.proofs.ReplyLemmas.{Enters, newest_reply}
use Rattle.session.proofs.StreamLaws.{ended_where_clean, bad_at_end}

-- ---- a link by its bytes

-- a link's state with these bytes; a session's record doesn't depend on the counts
abbrev pub bytes_state : Option (List ℕ) → Option (List ℕ) → LinkState
bytes_state remaining held = record {
  remaining = remaining;
  held = held;
  read_faults = 0;
  write_faults = 0;
}

pub Session-at : {E : Type 0} (reply : Replier E) (before after : LinkState) (old new : View E)
    (result : SessionEnd)
    → Session reply (bytes_state before.remaining before.held)
    (bytes_state after.remaining after.held) old new result
    → Session reply before after old new result
Session-at reply before after old new result s = record {
  read = s.read;
  written = s.written;
  entries = s.entries;
  ended = s.ended;
  takes = s.takes;
  adds = s.adds;
  gains = s.gains;
  known = s.known;
  fresh = s.fresh;
  end_is = s.end_is;
  exchange = s.exchange;
}

-- ---- the end of the input

-- whether the input ended, by what the link exposes and by what the reader of heads knows
chosen_end : (left_after : Option (List ℕ)) (over : Bool) (result : SessionEnd)
    → (IsTrue over → IfSome left_after (λ rest. rest ≡ [])) → (result ≡ ends.ReadFault
    → over ≡ false)
    → (ended : Bool) × IfSome left_after (λ rest. IsTrue ended ↔ ((rest ≡ [])
    × (result ≢ ends.ReadFault)))
    × (over ≡ true → ended ≡ true) × (result ≡ ends.ReadFault → ended ≡ false)
chosen_end None over result at_end fault = (over, tt, λ e. e, fault)
chosen_end (Some rest) over ends.ReadFault at_end fault = (
  false,
  (λ e. absurd (false≢true e), λ both. absurd (both.1 refl)),
  λ e. absurd (false≢true
      (sym (fault refl) ∙ e)),
  λ _. refl,
)
chosen_end (Some []) over ends.Closed at_end fault =
    (true, (λ _. (refl, λ e. cc), λ _. refl), λ _. refl, λ e. cc)
chosen_end (Some []) over ends.Refused at_end fault =
    (true, (λ _. (refl, λ e. cc), λ _. refl), λ _. refl, λ e. cc)
chosen_end (Some []) over ends.Full at_end fault =
    (true, (λ _. (refl, λ e. cc), λ _. refl), λ _. refl, λ e. cc)
chosen_end (Some []) over ends.WriteFault at_end fault =
    (true, (λ _. (refl, λ e. cc), λ _. refl), λ _. refl, λ e. cc)
chosen_end (Some []) over ends.NoMemory at_end fault =
    (true, (λ _. (refl, λ e. cc), λ _. refl), λ _. refl, λ e. cc)
chosen_end (Some (b ∷ rest)) over result at_end fault =
    (false, (λ e. absurd (false≢true e), λ both. cc (both.0)), λ e. cc (at_end e), λ _. refl)

-- an exchange, whether the input ended or not, makes a session
pub Session-from : {E : Type 0} (reply : Replier E) (left left_after held held_after : Option
    (List ℕ)) (old new : View E) (result : SessionEnd) (read written entries : List ℕ) (over : Bool)
    → Takes left read left_after → Adds held written held_after → new.entries ≡ old.entries
    ++ entries
    → All (λ entry. IsSome (edition_at new.seen entry)) entries
    → All (λ entry. (length old.seen ≤ entry) × (length old.told ≤ entry)) entries
    → (IsTrue over → IfSome left_after (λ rest. rest ≡ [])) → (result ≡ ends.ReadFault
    → over ≡ false)
    → ((ended : Bool) → (over ≡ true → ended ≡ true) → (result ≡ ends.ReadFault → ended ≡ false)
    → Exchange reply new.seen read written ended entries result)
    → Session reply (bytes_state left held) (bytes_state left_after held_after) old new result
Session-from reply left left_after held held_after old new result read written entries over takes
    adds gains known fresh at_end fault exchange =
    let chosen = chosen_end left_after over result at_end fault in
    record {
      read = read;
      written = written;
      entries = entries;
      ended = chosen.0;
      takes = takes;
      adds = adds;
      gains = gains;
      known = known;
      fresh = fresh;
      end_is = chosen.1;
      exchange = exchange chosen.0 chosen.2 chosen.3;
    }

-- ---- each way in which a session ends

-- memory ran out before anything was read
pub Session-unbegun : {E : Type 0} (reply : Replier E) (link : LinkState) (view : View E)
    → Session reply link link view view ends.NoMemory
Session-unbegun reply link view = Session-at reply link link view view ends.NoMemory
    (Session-from reply link.remaining link.remaining link.held link.held view view ends.NoMemory
    [] [] [] false (Takes-none link.remaining) (Adds-none link.held)
    (sym (append-nil view.entries)) (All-nil _) (All-nil _) (λ e. absurd (false≢true e)) (λ e. cc)
    (λ ended later fault. Exchange-unbegun reply view.seen ended))

-- a read failed, or memory ran out for the next head
pub Session-unheard : {E : Type 0} (reply : Replier E) (left middle after held held_now : Option
    (List ℕ)) (old view : View E) (reading now : Reading) (count : ℕ)
    → Progress reply left middle held held_now old view reading.rest count → count < 1000
    → (stop : Stop) → Hears middle after reading now (Err stop) → KnowsEnd after now
    → Session reply (bytes_state left held) (bytes_state after held_now) old view (end_after stop)
Session-unheard reply left middle after held held_now old view reading now count so_far room
    stops.ReadFault hears at_end =
    let heard = hears.comes so_far.read so_far.given so_far.has_given in
    Session-from reply left after held held_now old view ends.ReadFault (so_far.read ++ hears.bytes)
    so_far.written so_far.entries now.ended
    (Takes-then left middle after so_far.read hears.bytes so_far.takes hears.takes) so_far.adds
    so_far.gains so_far.known so_far.fresh at_end (λ _. heard.0)
    (λ ended later fault.
    let fed : List ℕ = so_far.read ++ hears.bytes in
    let known : Requests fed ended so_far.given Unfinished =
    subst (λ w. Requests fed w so_far.given Unfinished) (sym (fault refl)) heard.1 in
    exchange_between so_far fed (reading.rest ++ hears.bytes) so_far.written ended Unfinished
    ends.ReadFault room
    (HasGiven-append so_far.read hears.bytes reading.rest so_far.given so_far.has_given)
    (paced_after so_far hears.bytes (hears.paced so_far.read so_far.given so_far.has_given))
    (omega arith) (inl known)
    (ends_there so_far room so_far.given Unfinished ends.ReadFault so_far.written refl refl
    (sym (append-nil so_far.written)) (λ e. cc) (λ e. cc))
    (λ requests end all.
    let same = Requests_unique fed ended requests so_far.given end Unfinished all known in
    subst (λ w. IsAnswered reply view.seen requests w so_far.entries so_far.written ends.ReadFault)
    (sym same.1)
    (ends_there so_far room requests Unfinished ends.ReadFault so_far.written same.0 refl
    (sym (append-nil so_far.written)) (λ e. cc) (λ e. cc))))
Session-unheard reply left middle after held held_now old view reading now count so_far room
    stops.NoMemory hears at_end =
    Session-from reply left after held held_now old view ends.NoMemory (so_far.read ++ hears.bytes)
    so_far.written so_far.entries now.ended
    (Takes-then left middle after so_far.read hears.bytes so_far.takes hears.takes) so_far.adds
    so_far.gains so_far.known so_far.fresh at_end (λ e. cc)
    (λ ended later fault. exchange_no_memory so_far room (so_far.read ++ hears.bytes) now.rest ended
    (hears.comes so_far.read so_far.given so_far.has_given)
    (paced_after so_far hears.bytes (hears.paced so_far.read so_far.given so_far.has_given)))
Session-unheard reply left middle after held held_now old view reading now count so_far room
    stops.WriteFault hears at_end = absurd (hears.comes so_far.read so_far.given so_far.has_given)

-- the input ended between two requests
pub Session-clean : {E : Type 0} (reply : Replier E) (left middle after held held_now : Option
    (List ℕ)) (old view : View E) (reading now : Reading) (count : ℕ)
    → Progress reply left middle held held_now old view reading.rest count → count < 1000
    → Hears middle after reading now (Ok answers.Clean) → KnowsEnd after now
    → Session reply (bytes_state left held) (bytes_state after held_now) old view ends.Closed
Session-clean reply left middle after held held_now old view reading now count so_far room hears
    at_end =
    let fed : List ℕ = so_far.read ++ hears.bytes in
    let heard = hears.comes so_far.read so_far.given so_far.has_given in
    let over : now.ended ≡ true = ended_where_clean fed now.ended so_far.given Clean heard.1 refl in
    Session-from reply left after held held_now old view ends.Closed fed so_far.written
    so_far.entries now.ended
    (Takes-then left middle after so_far.read hears.bytes so_far.takes hears.takes) so_far.adds
    so_far.gains so_far.known so_far.fresh at_end (λ e. cc)
    (λ ended later fault.
    let same_end : now.ended ≡ ended = over ∙ sym (later over) in
    let known : Requests fed ended so_far.given Clean =
    subst (λ w. Requests fed w so_far.given Clean) same_end heard.1 in
    exchange_between so_far fed now.rest so_far.written ended Clean ends.Closed room heard.0
    (paced_after so_far hears.bytes (hears.paced so_far.read so_far.given so_far.has_given))
    (omega arith) (inl known)
    (ends_there so_far room so_far.given Clean ends.Closed so_far.written refl refl
    (sym (append-nil so_far.written)) (λ e. cc) (λ e. cc))
    (λ requests end all.
    let same = Requests_unique fed ended requests so_far.given end Clean all known in
    subst (λ w. IsAnswered reply view.seen requests w so_far.entries so_far.written ends.Closed)
    (sym same.1)
    (ends_there so_far room requests Clean ends.Closed so_far.written same.0 refl
    (sym (append-nil so_far.written)) (λ e. cc) (λ e. cc))))

-- what came can't be a request
pub Session-refused : {E : Type 0} (reply : Replier E) (left middle after held held_now held_after :
    Option (List ℕ)) (old view : View E) (reading now : Reading) (count : ℕ)
    → Progress reply left middle held held_now old view reading.rest count → count < 1000
    → Hears middle after reading now (Ok answers.Bad) → KnowsEnd after now
    → Adds held_now bad_reply_bytes held_after
    → Session reply (bytes_state left held) (bytes_state after held_after) old view ends.Refused
Session-refused reply left middle after held held_now held_after old view reading now count so_far
    room hears at_end adds =
    let fed : List ℕ = so_far.read ++ hears.bytes in
    let heard = hears.comes so_far.read so_far.given so_far.has_given in
    Session-from reply left after held held_after old view ends.Refused fed
    (so_far.written ++ bad_reply_bytes) so_far.entries now.ended
    (Takes-then left middle after so_far.read hears.bytes so_far.takes hears.takes)
    (Adds-then held held_now held_after so_far.written bad_reply_bytes so_far.adds adds)
    so_far.gains so_far.known so_far.fresh at_end (λ e. cc)
    (λ ended later fault.
    let known : Requests fed ended so_far.given Bad =
    bad_at_end fed now.ended ended so_far.given later heard.1 in
    exchange_between so_far fed now.rest (so_far.written ++ bad_reply_bytes) ended Bad ends.Refused
    room heard.0
    (paced_after so_far hears.bytes (hears.paced so_far.read so_far.given so_far.has_given))
    (simp length-append (omega arith)) (inl known)
    (ends_there so_far room so_far.given Bad ends.Refused (so_far.written ++ bad_reply_bytes) refl
    refl refl (λ e. cc) (λ e. cc))
    (λ requests end all.
    let same = Requests_unique fed ended requests so_far.given end Bad all known in
    subst (λ w. IsAnswered reply view.seen requests w so_far.entries
    (so_far.written ++ bad_reply_bytes) ends.Refused) (sym same.1)
    (ends_there so_far room requests Bad ends.Refused (so_far.written ++ bad_reply_bytes) same.0
    refl refl (λ e. cc) (λ e. cc))))

-- the bad reply wasn't written whole, or wasn't made
pub Session-unrefused : {E : Type 0} (reply : Replier E)
    (left middle after held held_now held_after : Option (List ℕ)) (old view : View E)
    (reading now : Reading) (count : ℕ)
    → Progress reply left middle held held_now old view reading.rest count → count < 1000
    → Hears middle after reading now (Ok answers.Bad) → KnowsEnd after now
    → (stop : Stop) → Writes bad_reply_bytes held_now held_after (Err stop)
    → Session reply (bytes_state left held) (bytes_state after held_after) old view (end_after stop)
Session-unrefused reply left middle after held held_now held_after old view reading now count so_far
    room hears at_end stops.WriteFault part =
    let fed : List ℕ = so_far.read ++ hears.bytes in
    let heard = hears.comes so_far.read so_far.given so_far.has_given in
    let written : List ℕ = so_far.written ++ take part.0 bad_reply_bytes in
    Session-from reply left after held held_after old view ends.WriteFault fed written
    so_far.entries now.ended
    (Takes-then left middle after so_far.read hears.bytes so_far.takes hears.takes)
    (Adds-then held held_now held_after so_far.written (take part.0 bad_reply_bytes) so_far.adds
    part.2)
    so_far.gains so_far.known so_far.fresh at_end (λ e. cc)
    (λ ended later fault.
    let known : Requests fed ended so_far.given Bad =
    bad_at_end fed now.ended ended so_far.given later heard.1 in
    exchange_between so_far fed now.rest written ended Bad ends.WriteFault room heard.0
    (paced_after so_far hears.bytes (hears.paced so_far.read so_far.given so_far.has_given))
    (simp length-append (omega arith)) (inl known) (cut_in_refusal so_far room part.0 part.1)
    (λ requests end all.
    let same = Requests_unique fed ended requests so_far.given end Bad all known in
    subst (λ w. IsAnswered reply view.seen requests w so_far.entries written ends.WriteFault)
    (sym same.1)
    (subst (λ w. IsAnswered reply view.seen w Bad so_far.entries written ends.WriteFault)
    (sym same.0) (cut_in_refusal so_far room part.0 part.1))))
Session-unrefused reply left middle after held held_now held_after old view reading now count so_far
    room hears at_end stops.NoMemory same =
    let fed : List ℕ = so_far.read ++ hears.bytes in
    let heard = hears.comes so_far.read so_far.given so_far.has_given in
    Session-from reply left after held held_after old view ends.NoMemory fed so_far.written
    so_far.entries now.ended
    (Takes-then left middle after so_far.read hears.bytes so_far.takes hears.takes)
    (subst (Adds held so_far.written) (sym same) so_far.adds)
    so_far.gains so_far.known so_far.fresh at_end (λ e. cc)
    (λ ended later fault. exchange_no_memory so_far room fed now.rest ended heard.0
    (paced_after so_far hears.bytes (hears.paced so_far.read so_far.given so_far.has_given)))
Session-unrefused reply left middle after held held_now held_after old view reading now count so_far
    room hears at_end stops.ReadFault none = absurd none

-- memory ran out after an entry
no_memory_with_entry : {E : Type 0} (reply : Replier E) (left middle after held held_now : Option
    (List ℕ)) (old view new : View E) (reading now : Reading) (count : ℕ) (request : Request)
    → Progress reply left middle held held_now old view reading.rest count → count < 1000
    → Hears middle after reading now (Ok (answers.Head request)) → KnowsEnd after now
    → StartsWith new.seen view.seen → Enters view new
    → Session reply (bytes_state left held) (bytes_state after held_now) old new ends.NoMemory
no_memory_with_entry reply left middle after held held_now old view new reading now count request
    so_far room hears at_end later enters =
    let fed : List ℕ = so_far.read ++ hears.bytes in
    let heard = hears.comes so_far.read so_far.given so_far.has_given in
    let last : Bool = is_last (count + 1) request in
    Session-from reply left after held held_now old new ends.NoMemory fed so_far.written
    (so_far.entries ++ length new.seen ∷ []) now.ended
    (Takes-then left middle after so_far.read hears.bytes so_far.takes hears.takes) so_far.adds
    (gains_with so_far new request last enters later refl)
    (known_with so_far new request last enters later refl)
    (fresh_with so_far new request last enters later refl) at_end (λ e. cc)
    (λ ended after_end fault. exchange_entered_no_memory so_far new request last enters later refl
    room fed now.rest ended heard
    (paced_after so_far hears.bytes (hears.paced so_far.read so_far.given so_far.has_given)))

-- an entry was refused, and is there or not
pub Session-unentered : {E : Type 0} (reply : Replier E) (left middle after held held_now : Option
    (List ℕ)) (old view new : View E) (reading now : Reading) (count : ℕ) (request : Request)
    → Progress reply left middle held held_now old view reading.rest count → count < 1000
    → Hears middle after reading now (Ok (answers.Head request)) → KnowsEnd after now
    → StartsWith new.seen view.seen → (new ≡ view) ⊎ Enters view new
    → Session reply (bytes_state left held) (bytes_state after held_now) old new ends.NoMemory
Session-unentered {E = E} reply left middle after held held_now old view new reading now count
    request so_far room hears at_end later entry =
    let fed : List ℕ = so_far.read ++ hears.bytes in
    let takes : Takes left fed after = Takes-then left middle after so_far.read hears.bytes
    so_far.takes hears.takes in
    ⊎_elim
    (λ same. subst (λ (w : View E). Session reply (bytes_state left held)
    (bytes_state after held_now) old w ends.NoMemory)
    (sym same)
    (Session-from reply left after held held_now old view ends.NoMemory fed so_far.written
    so_far.entries now.ended takes so_far.adds so_far.gains so_far.known so_far.fresh at_end
    (λ e. cc)
    (λ ended after_end fault. exchange_no_memory so_far room fed (reading.rest ++ hears.bytes) ended
    (HasGiven-append so_far.read hears.bytes reading.rest so_far.given so_far.has_given)
    (paced_after so_far hears.bytes (hears.paced so_far.read so_far.given so_far.has_given)))))
    (λ enters. no_memory_with_entry reply left middle after held held_now old view new reading now
    count request so_far room hears at_end later enters)
    entry

-- a reply wasn't written whole, or wasn't made
pub Session-unanswered : {E : Type 0} (reply : Replier E)
    (left middle after held held_now held_after : Option (List ℕ)) (old view new : View E)
    (reading now : Reading) (count : ℕ) (request : Request) (last : Bool)
    → Progress reply left middle held held_now old view reading.rest count → count < 1000
    → Hears middle after reading now (Ok (answers.Head request)) → KnowsEnd after now
    → Enters view new → StartsWith new.seen view.seen → last ≡ is_last (count + 1) request
    → (stop : Stop) → Writes (newest_reply reply new request last) held_now held_after (Err stop)
    → Session reply (bytes_state left held) (bytes_state after held_after) old new (end_after stop)
Session-unanswered reply left middle after held held_now held_after old view new reading now count
    request last so_far room hears at_end enters later last_is stops.WriteFault part =
    let fed : List ℕ = so_far.read ++ hears.bytes in
    let heard = hears.comes so_far.read so_far.given so_far.has_given in
    let made : List ℕ = newest_reply reply new request last in
    Session-from reply left after held held_after old new ends.WriteFault fed
    (so_far.written ++ take part.0 made) (so_far.entries ++ length new.seen ∷ []) now.ended
    (Takes-then left middle after so_far.read hears.bytes so_far.takes hears.takes)
    (Adds-then held held_now held_after so_far.written (take part.0 made) so_far.adds part.2)
    (gains_with so_far new request last enters later last_is)
    (known_with so_far new request last enters later last_is)
    (fresh_with so_far new request last enters later last_is) at_end (λ e. cc)
    (λ ended after_end fault. exchange_cut so_far new request last enters later last_is room fed
    now.rest ended part.0 part.1 heard
    (paced_after so_far hears.bytes (hears.paced so_far.read so_far.given so_far.has_given)))
Session-unanswered reply left middle after held held_now held_after old view new reading now count
    request last so_far room hears at_end enters later last_is stops.NoMemory same =
    subst (λ w. Session reply (bytes_state left held) (bytes_state after w) old new ends.NoMemory)
    (sym same)
    (no_memory_with_entry reply left middle after held held_now old view new reading now count
    request
    so_far room hears at_end later enters)
Session-unanswered reply left middle after held held_now held_after old view new reading now count
    request last so_far room hears at_end enters later last_is stops.ReadFault none = absurd none

-- the last request asked for a close
pub Session-closed : {E : Type 0} (reply : Replier E) (left middle after held held_now held_after :
    Option (List ℕ)) (old view new : View E) (reading now : Reading) (count : ℕ) (request : Request)
    (last : Bool)
    → Progress reply left middle held held_now old view reading.rest count → count < 1000
    → Hears middle after reading now (Ok (answers.Head request)) → KnowsEnd after now
    → Enters view new → StartsWith new.seen view.seen → last ≡ is_last (count + 1) request
    → Adds held_now (newest_reply reply new request last) held_after
    → request.close ≡ true
    → Session reply (bytes_state left held) (bytes_state after held_after) old new ends.Closed
Session-closed reply left middle after held held_now held_after old view new reading now count
    request last so_far room hears at_end enters later last_is adds closes =
    let fed : List ℕ = so_far.read ++ hears.bytes in
    let heard = hears.comes so_far.read so_far.given so_far.has_given in
    Session-from reply left after held held_after old new ends.Closed fed
    (so_far.written ++ newest_reply reply new request last) (so_far.entries ++ length new.seen
    ∷ []) now.ended
    (Takes-then left middle after so_far.read hears.bytes so_far.takes hears.takes)
    (Adds-then held held_now held_after so_far.written (newest_reply reply new request last)
    so_far.adds adds)
    (gains_with so_far new request last enters later last_is)
    (known_with so_far new request last enters later last_is)
    (fresh_with so_far new request last enters later last_is) at_end (λ e. cc)
    (λ ended after_end fault. exchange_closed so_far new request last enters later last_is room fed
    now.rest ended closes heard
    (paced_after so_far hears.bytes (hears.paced so_far.read so_far.given so_far.has_given)))

-- as many requests were answered as one connection may have
pub Session-full : {E : Type 0} (reply : Replier E) (left after held held_after : Option (List ℕ))
    (old view : View E) (reading : Reading) (count : ℕ)
    → Progress reply left after held held_after old view reading.rest count → count ≡ 1000
    → KnowsEnd after reading
    → Session reply (bytes_state left held) (bytes_state after held_after) old view ends.Full
Session-full reply left after held held_after old view reading count so_far full at_end =
    Session-from reply left after held held_after old view ends.Full so_far.read so_far.written
    so_far.entries reading.ended
    so_far.takes so_far.adds so_far.gains so_far.known so_far.fresh at_end (λ e. cc)
    (λ ended after_end fault. exchange_full so_far full ended)
