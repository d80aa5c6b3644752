-- Cited by public clauses. How the reads of a session stand to its replies. The project's own.
use Rattle.std.specs.Prelude.{◌≡◌, ℕ, ◌<◌, ◌≤◌, false, IsTrue, List, ◌++◌, length}
use Rattle.http_wire.specs.declared.request.Request.{Request}
use Rattle.http_wire.specs.Requests.{Requests, Unfinished}
use Rattle.session.specs.Text.{request_limit, some_closes}

-- the most bytes of one read
abbrev pub read_limit : ℕ
read_limit = 4096

-- The last read was made where the bytes before it hold at most `count` requests, and nothing is
-- decided of what follows these: it is no head, isn't refused, and the input hasn't ended. So less
-- than one read follows the next head, which is the law `less_than_one_read_follows_the_next_head`.
pub record IsPaced (read : List ℕ) (count : ℕ) : Type 0 where
  pub before : List ℕ
  pub last : List ℕ
  pub all : read ≡ before ++ last
  pub short : length last ≤ read_limit
  pub requests : List Request
  pub undecided : Requests before false requests Unfinished
  pub few : length requests ≤ count

-- The session ended with the reply to the last of these requests: one closes, they are 1,000, or
-- what was written ends before the last byte of their replies.
pub data EndsInReply (requests : List Request) (replies written : List ℕ) : Type 0 where
  closes : IsTrue (some_closes requests) → EndsInReply requests replies written
  full : length requests ≡ request_limit → EndsInReply requests replies written
  cut : length written < length replies → EndsInReply requests replies written
