-- Cited by private clauses and proofs. What is known of a stream after some of it was read. The
-- project's own.
use Rattle.std.specs.Prelude.{◌≡◌, ℕ, false, IsTrue, List, [], ◌++◌, length, Option, IfSome, Result}
use Rattle.std.specs.Prelude.{Ok, Err}
use Rattle.http_wire.specs.declared.request.Request.{Request}
use Rattle.http_wire.specs.declared.heads.Next.{Next}
use Rattle.http_wire.specs.Reading.{Reading, AnswersOfAll}
use Rattle.http_wire.specs.Requests.{Requests, HasGiven, Unfinished}
use Rattle.link_io.specs.Streams.{Takes}
use Rattle.session.specs.declared.session_end.Stop.{Stop}
use Rattle.session.specs.declared.session_end.Stop.TheVariants as stops
use Rattle.session.specs.Pace.{IsPaced}

-- the reader of heads knows the input as ended only where nothing remains
abbrev pub KnowsEnd : Option (List ℕ) → Reading → Type 0
KnowsEnd remaining reading = IsTrue reading.ended → IfSome remaining (λ rest. rest ≡ [])

-- Of all that was fed these requests were given, and then this came: what stands next, or the
-- session stopped. A failed read leaves the stream unfinished.
abbrev pub Comes : List ℕ → List Request → Reading → Result Next Stop → Type 0
Comes fed given reading (Ok next) = AnswersOfAll fed given reading.ended next reading.rest
Comes fed given reading (Err stops.ReadFault) =
    (reading.ended ≡ false) × Requests fed false given Unfinished
Comes fed given reading (Err stops.NoMemory) = HasGiven fed given reading.rest
Comes fed given reading (Err stops.WriteFault) = ⊥

-- some bytes were read, and fed to the reader of heads: each piece where nothing was decided
pub record Hears (remaining remaining_after : Option (List ℕ)) (old new : Reading)
    (result : Result Next Stop) : Type 0 where
  pub bytes : List ℕ
  pub takes : Takes remaining bytes remaining_after
  pub comes : (fed : List ℕ) (given : List Request) → HasGiven fed given old.rest
      → Comes (fed ++ bytes) given new result
  pub paced : (fed : List ℕ) (given : List Request) → HasGiven fed given old.rest
      → IsPaced fed (length given) → IsPaced (fed ++ bytes) (length given)
