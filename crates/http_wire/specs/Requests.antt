-- Cited by public clauses. The requests in a stream of bytes (RFC 9112, section 2.2), by cases on
-- what remains of it.
use Rattle.std.specs.Prelude.{◌≡◌, ℕ, ◌<◌, ◌≤◌, ◌⊎◌, Bool, true, false, ◌&&◌, not, ◌==◌, IsTrue}
use Rattle.std.specs.Prelude.{List, [], ◌∷◌, ◌++◌, length, if◌then◌else◌}
use Rattle.std.specs.List.{list_any}
use Rattle.httparse.specs.Ascii.{carriage_return, line_feed}
use Rattle.httparse.specs.Grammar.{RequestHead, ReadsRequest, NeverHasRequest}
use Rattle.http_wire.specs.declared.request.Request.{Request}
use Rattle.http_wire.specs.Head.{KeepsRules, head_limit, request_of}

-- a prefix of the rest is a head that keeps the rules, the request is its, and after follows it
pub record BeginsWith (rest : List ℕ) (request : Request) (after : List ℕ) : Type 0 where
  pub head : RequestHead
  pub reads : ReadsRequest rest head after
  pub rules : KeepsRules head
  pub is : request ≡ request_of head

-- the rest begins with a head that keeps the rules
abbrev pub StandsHead : List ℕ → Type 0
StandsHead rest = (request : Request) × (after : List ℕ) × BeginsWith rest request after

-- no prefix of the rest is a head that keeps the rules
abbrev pub HasNoHead : List ℕ → Type 0
HasNoHead rest =
    (head : RequestHead) (after : List ℕ) → ReadsRequest rest head after → ¬ (KeepsRules head)

-- a prefix of the rest is a head of the grammar, and it breaks a rule
abbrev pub BreaksRule : List ℕ → Type 0
BreaksRule rest =
    (head : RequestHead) × (after : List ℕ) × ReadsRequest rest head after × (¬ (KeepsRules head))

-- the byte is neither CR nor LF
abbrev pub is_other_byte : ℕ → Bool
is_other_byte b = not (b == carriage_return) && not (b == line_feed)

-- some byte of the rest is neither CR nor LF
abbrev pub has_other_byte : List ℕ → Bool
has_other_byte rest = list_any is_other_byte rest

-- the rest from its first byte that is neither CR nor LF
abbrev pub from_other_byte : List ℕ → List ℕ
from_other_byte [] = []
from_other_byte (b ∷ rest) = if is_other_byte b then b ∷ rest else from_other_byte rest

abbrev pub is_line_feed : ℕ → Bool
is_line_feed b = b == line_feed

-- a line ends in the rest after its leading bytes CR and LF
abbrev pub has_line : List ℕ → Bool
has_line rest = list_any is_line_feed (from_other_byte rest)

-- a line ends in the rest, and whatever bytes follow it, it begins with no head of the grammar
pub record IsHopeless (rest : List ℕ) : Type 0 where
  pub line : IsTrue (has_line rest)
  pub never : NeverHasRequest rest

-- why a rest that begins with no head is refused
pub data IsRefused (rest : List ℕ) (ended : Bool) : Type 0 where
  breaks_rule : BreaksRule rest → IsRefused rest ended
  hopeless : IsHopeless rest → IsRefused rest ended
  too_long : head_limit ≤ length rest → IsRefused rest ended
  cut_off : IsTrue ended → IsTrue (has_other_byte rest) → IsRefused rest ended

-- some bytes follow with which the rest is a head of the grammar
abbrev pub CanBecomeHead : List ℕ → Type 0
CanBecomeHead rest =
    (b : ℕ) × (more : List ℕ) × (head : RequestHead) × ReadsRequest (rest ++ b ∷ more) head []

-- no line ended in the rest, or it can become a head
abbrev pub IsUndecided : List ℕ → Type 0
IsUndecided rest = (has_line rest ≡ false) ⊎ CanBecomeHead rest

-- the rest is shorter than the longest head, and a head may still come
pub record AwaitsHead (rest : List ℕ) : Type 0 where
  pub short : length rest < head_limit
  pub undecided : IsUndecided rest

-- the rest is shorter than the longest head, and has no byte but CR and LF
pub record IsCleanEnd (rest : List ℕ) : Type 0 where
  pub short : length rest < head_limit
  pub blank : has_other_byte rest ≡ false

-- how the requests of a stream end: at a clean end of the input, at a rest that is refused, or at
-- one that isn't yet
pub data StreamEnd : Type 0 where
  Clean Bad Unfinished : StreamEnd

-- These are the requests in the stream, and how they end. The flag says whether the input ended.
pub data Requests : List ℕ → Bool → List Request → StreamEnd → Type 0 where
  next : (rest : List ℕ) (ended : Bool) (request : Request) (after : List ℕ)
      (requests : List Request) (end : StreamEnd)
      → BeginsWith rest request after → Requests after ended requests end
      → Requests rest ended (request ∷ requests) end
  refused : (rest : List ℕ) (ended : Bool) → HasNoHead rest → IsRefused rest ended
      → Requests rest ended [] Bad
  ends : (rest : List ℕ) → IsCleanEnd rest → Requests rest true [] Clean
  waits : (rest : List ℕ) → AwaitsHead rest → Requests rest false [] Unfinished

-- of what was fed, these requests were given, and the rest stands in no head given
pub data HasGiven (fed : List ℕ) : List Request → List ℕ → Type 0 where
  none_yet : HasGiven fed [] fed
  one_more : (requests : List Request) (rest : List ℕ) (request : Request) (after : List ℕ)
      → HasGiven fed requests rest → BeginsWith rest request after
      → HasGiven fed (requests ++ request ∷ []) after

-- the text is a head that keeps the rules, and nothing else
abbrev pub IsHead : List ℕ → Type 0
IsHead text = (head : RequestHead) × ReadsRequest text head [] × KeepsRules head
