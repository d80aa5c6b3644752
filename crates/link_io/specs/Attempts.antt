-- Cited by private clauses and proofs. What one call of a stream of the standard library came to.
use Rattle.std.specs.Prelude.{◌≡◌, ◌≢◌, ℕ, ◌<◌, List, length, Result, Ok, Err, IsErrAnd}
use Rattle.std.specs.Prelude.{Option, Some, None}
use Rattle.std.specs.IoError.{error_kind}
use Rattle.std.specs.declared.io.Error.{Error}
use Rattle.std.specs.declared.io.ErrorKind.TheVariants as kinds
use Rattle.plain_data.specs.declared.errors.Failed.{Failed as Failure}
use Rattle.link_io.specs.declared.standard.Attempt.{Attempt}
use Rattle.link_io.specs.declared.standard.Attempt.TheVariants.{Moved, Interrupted, Failed}

-- a call moved n bytes, or a signal interrupted it, or it failed
abbrev pub IsAttempt : Result ℕ Error → Attempt → Type 0
IsAttempt came (Moved n) = came ≡ Ok n
IsAttempt came Interrupted = IsErrAnd came (λ error. error_kind error ≡ kinds.Interrupted)
IsAttempt came Failed = IsErrAnd came (λ error. error_kind error ≢ kinds.Interrupted)

-- what an attempt settles: the count or the failure of a call; an interrupted call is made again
abbrev pub IsSettled : Attempt → Option (Result ℕ Failure) → Type 0
IsSettled (Moved n) settled = settled ≡ Some (Ok n)
IsSettled Interrupted settled = settled ≡ None
IsSettled Failed settled = settled ≡ Some (Err (record {}))

-- a write of a piece moved none of its bytes, though it has some
abbrev pub IsIdle : List ℕ → Attempt → Type 0
IsIdle piece attempt = (0 < length piece) × (attempt ≡ Moved 0)
