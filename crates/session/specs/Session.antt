-- Cited by public clauses. What one session did, by the bytes that were read and written in it and
-- the entries that it gained. The project's own.
use Rattle.std.specs.Prelude.{◌≡◌, ◌≢◌, ℕ, ◌-◌, ◌<◌, ◌≤◌, ◌⊎◌, ◌↔◌, Bool, IsTrue, List, [], ◌++◌}
use Rattle.std.specs.Prelude.{length, All, Option, IfSome, IsSome}
use Rattle.http_wire.specs.declared.request.Request.{Request}
use Rattle.http_wire.specs.Requests.{HasGiven, Requests, StreamEnd}
use Rattle.link_io.specs.Streams.{Takes, Adds}
use Rattle.plain_data.specs.Causes.{IsCaused}
use Rattle.publication.specs.View.{View, OnlySees, StartsWith}
use Rattle.session.specs.declared.session_end.SessionEnd.{SessionEnd}
use Rattle.session.specs.declared.session_end.SessionEnd.TheVariants as ends
use Rattle.session.specs.Pace.{IsPaced, EndsInReply}
use Rattle.session.specs.Text.{Replier, answerable, edition_at, session_text, first_replies, end_of}

-- A link, by the bytes that remain and are held, where it exposes them, and its counts of faults.
pub record LinkState : Type 0 where
  pub remaining : Option (List ℕ)
  pub held : Option (List ℕ)
  pub read_faults : ℕ
  pub write_faults : ℕ

-- a link's state, by what its ghost members say
abbrev pub state_by : {Link : Type 0} → (Link → Option (List ℕ)) → (Link → Option (List ℕ))
    → (Link → ℕ) → (Link → ℕ) → Link → LinkState
state_by remaining held read_faults write_faults link = record {
  remaining = remaining link;
  held = held link;
  read_faults = read_faults link;
  write_faults = write_faults link;
}

-- the session was ended neither by a failed write nor by NoMemory
abbrev pub IsWhole : SessionEnd → Type 0
IsWhole end = (end ≢ ends.WriteFault) × (end ≢ ends.NoMemory)

-- What a session wrote, and how it ended, where its stream has these requests and ends so.
pub record IsAnswered {E : Type 0} (reply : Replier E) (history : List E)
    (requests : List Request) (end : StreamEnd) (entries written : List ℕ)
    (result : SessionEnd) : Type 0 where
  -- at most one entry for each request that is answered
  pub within : length entries ≤ length (answerable requests)
  -- a whole session has one entry for each, its whole text, and the end that the requests give
  pub each : IsWhole result → length entries ≡ length (answerable requests)
  pub text : IsWhole result → written ≡ session_text reply history requests end entries
  pub exact : IsWhole result → result ≡ end_of requests end
  -- a failed write leaves a prefix of the text, and never the whole of it, in which at most the
  -- last reply by an entry isn't whole
  pub begun : result ≡ ends.WriteFault
      → StartsWith (session_text reply history requests end entries) written
  pub shorter : result ≡ ends.WriteFault
      → length written < length (session_text reply history requests end entries)
  pub whole_replies : result ≡ ends.WriteFault
      → StartsWith written (first_replies (length entries - 1) reply history requests entries)
  -- NoMemory leaves whole replies, of which the last one by an entry may be missing
  pub no_memory : result ≡ ends.NoMemory
      → (written ≡ first_replies (length entries) reply history requests entries)
      ⊎ (written ≡ first_replies (length entries - 1) reply history requests entries)

-- What a session read and wrote, in which order, and how it ended.
pub record Exchange {E : Type 0} (reply : Replier E) (history : List E) (read written : List ℕ)
    (ended : Bool) (entries : List ℕ) (result : SessionEnd) : Type 0 where
  -- the first requests of the bytes read: those that have an entry
  pub requests : List Request
  pub rest : List ℕ
  pub given : HasGiven read requests rest
  pub one_each : length requests ≡ length entries
  -- They are all requests of the bytes read, and the stream ends so. Otherwise memory ran out, or
  -- the session ended in its last reply; what `answered` says doesn't depend on the end then.
  pub end : StreamEnd
  pub is_end : Requests read ended requests end
      ⊎ (result ≡ ends.NoMemory)
      ⊎ EndsInReply requests (first_replies (length entries) reply history requests entries) written
  pub answered : IsAnswered reply history requests end entries written result
  -- the same of all requests of the bytes read, where a list and an end are known to be theirs
  pub answers : (requests : List Request) (end : StreamEnd) → Requests read ended requests end
      → IsAnswered reply history requests end entries written result
  -- no read was made once a request without an entry had been given
  pub paced : IsPaced read (length entries)
  -- nor between the entry of a request and the last byte of its reply, nor after the last reply
  pub paced_reply :
      EndsInReply requests (first_replies (length entries) reply history requests entries) written
      → IsPaced read (length entries - 1)

-- What a session did: to a link, and to the reader's view, and how it ended.
pub record Session {E : Type 0} (reply : Replier E) (before after : LinkState) (old new : View E)
    (result : SessionEnd) : Type 0 where
  -- the bytes read and written, and the entries gained; whether the input ended
  pub read : List ℕ
  pub written : List ℕ
  pub entries : List ℕ
  pub ended : Bool
  pub takes : Takes before.remaining read after.remaining
  pub adds : Adds before.held written after.held
  pub gains : new.entries ≡ old.entries ++ entries
  -- each entry is the number of an edition of the history, as it was seen at the end
  pub known : All (λ entry. IsSome (edition_at new.seen entry)) entries
  -- and no older than what the reader had seen before, and than what it had received
  pub fresh : All (λ entry. (length old.seen ≤ entry) × (length old.told ≤ entry)) entries
  -- the input ended where nothing remains, unless a read failed
  pub end_is : IfSome after.remaining
      (λ rest. IsTrue ended ↔ ((rest ≡ []) × (result ≢ ends.ReadFault)))
  pub exchange : Exchange reply new.seen read written ended entries result

-- All that one session did to a link and to a reader: what was read and written and why it ended,
-- that it ended by a fault only where the count of these rose by one, or stands at its end, and
-- otherwise only where this count is unchanged, and what stays of the reader.
pub record ServesLink {E : Type 0} (reply : Replier E) (before after : LinkState)
    (old new : View E) (result : SessionEnd) : Type 0 where
  pub session : Session reply before after old new result
  pub read_faults : IsCaused before.read_faults after.read_faults (result ≡ ends.ReadFault)
  pub write_faults : IsCaused before.write_faults after.write_faults (result ≡ ends.WriteFault)
  -- the reader has seen no less, received nothing more, and has no further look
  pub only_sees : OnlySees old new
  pub looks : new.looks ≡ old.looks
