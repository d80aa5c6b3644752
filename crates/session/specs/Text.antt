-- Cited by public clauses. The text that answers a connection, which is a reply for each request
-- that is answered, in the order of the requests (RFC 9112, section 9.3.2), by whatever function
-- makes the replies. The limit of requests on a connection and the bad reply are the project's own.
use Rattle.std.specs.Prelude.{ℕ, zero, suc, ◌==◌, nat_lt, Bool, true, false, ◌||◌, ◌&&◌, not}
use Rattle.std.specs.Prelude.{if◌then◌else◌, List, [], ◌∷◌, ◌++◌, length, map, take, slice_get}
use Rattle.std.specs.Prelude.{Option, None}
use Rattle.std.specs.List.{concat, enumerate_from, list_any, zip}
use Rattle.std.specs.Option.{option_map_or}
use Rattle.http_wire.specs.declared.request.Request.{Request}
use Rattle.http_wire.specs.Reply.{bad_reply_bytes}
use Rattle.http_wire.specs.Requests.{StreamEnd, Clean, Bad, Unfinished}
use Rattle.session.specs.declared.session_end.SessionEnd.{SessionEnd}
use Rattle.session.specs.declared.session_end.SessionEnd.TheVariants as ends

-- what makes the bytes of a reply: of the number of an edition, the edition, the request, and
-- whether the connection closes after the reply
abbrev pub Replier : Type 0 → Type 0
Replier E = ℕ → E → Request → Bool → List ℕ

-- the most requests that are answered on one connection
abbrev pub request_limit : ℕ
request_limit = 1000

-- the requests up to and with the first that closes
abbrev pub up_to_close : List Request → List Request
up_to_close [] = []
up_to_close (request ∷ requests) =
    request ∷ (if request.close then [] else up_to_close requests)

-- of the requests of a stream, those that are answered
abbrev pub answerable : List Request → List Request
answerable requests = take request_limit (up_to_close requests)

-- whether the connection closes after the reply to the request with this number
abbrev pub is_last : ℕ → Request → Bool
is_last number request = request.close || number == request_limit

-- the edition with this number in a history; numbers count from 1
abbrev pub edition_at : {E : Type 0} → List E → ℕ → Option E
edition_at history zero = None
edition_at history (suc place) = slice_get history place

-- the reply by an entry, which is the number of an edition in the history
abbrev pub reply_by : {E : Type 0} → Replier E → List E → ℕ → Request → Bool → List ℕ
reply_by reply history entry request last =
    option_map_or (λ edition. reply entry edition request last) (edition_at history entry) []

-- the reply to the request with this number, by its entry
abbrev pub reply_to : {E : Type 0} → Replier E → List E → ℕ → Request → ℕ → List ℕ
reply_to reply history number request entry =
    reply_by reply history entry request (is_last number request)

-- the replies to the requests of a stream that have an entry; requests are numbered from 1
abbrev pub replies : {E : Type 0} → Replier E → List E → List Request → List ℕ → List (List ℕ)
replies reply history requests entries =
    map (λ one. reply_to reply history one.0.0 one.0.1 one.1)
    (zip (enumerate_from 1 requests) entries)

-- whether some request of these asks for a close
abbrev pub some_closes : List Request → Bool
some_closes requests = list_any (λ (request : Request). request.close) requests

-- whether the stream ends in what can't be a request
abbrev pub is_bad : StreamEnd → Bool
is_bad Bad = true
is_bad end = false

-- The bad reply follows `count` replies if and only if these answer all requests of the stream,
-- none of which closes, they are fewer than 1,000, and the stream ends in what can't be a request.
abbrev pub refusal : List Request → StreamEnd → ℕ → List ℕ
refusal requests end count =
    if count == length requests && not (some_closes requests) && nat_lt count request_limit
    && is_bad end
    then bad_reply_bytes else []

-- The text of a connection whose stream has these requests and ends so, by the entries that were
-- gained for its first requests. There are no more entries than requests that are answered.
abbrev pub session_text : {E : Type 0}
    → Replier E → List E → List Request → StreamEnd → List ℕ → List ℕ
session_text reply history requests end entries =
    concat (replies reply history (answerable requests) entries)
    ++ refusal requests end (length entries)

-- the first `count` replies of that text
abbrev pub first_replies : {E : Type 0}
    → ℕ → Replier E → List E → List Request → List ℕ → List ℕ
first_replies count reply history requests entries =
    concat (take count (replies reply history (answerable requests) entries))

-- how a session ends where the stream gives no more requests
abbrev pub end_at : StreamEnd → SessionEnd
end_at Clean = ends.Closed
end_at Bad = ends.Refused
end_at Unfinished = ends.ReadFault

-- How a session ends where no write fails and memory doesn't run out: closed where a request that
-- is answered asks for it, full where there are 1,000 requests and none of these does, and
-- otherwise as the stream ends.
abbrev pub end_of : List Request → StreamEnd → SessionEnd
end_of requests end =
    if some_closes (answerable requests) then ends.Closed
    else (if nat_lt (length requests) request_limit then end_at end else ends.Full)
