-- Cited by public clauses. What a count of faults says of how a call ended. A count stands still at
-- the end of its type, 2 ^ 64 - 1.
use Rattle.std.specs.Prelude.{◌≡◌, ◌↔◌, ℕ, ◌+◌, ◌-◌, ◌^◌, ◌≤◌, Result, OnErr, OnOk, IsErrOf, max, min}
use Rattle.std.specs.IoError.{error_kind}
use Rattle.std.specs.declared.io.Error.{Error}
use Rattle.std.specs.declared.io.ErrorKind.TheVariants.{OutOfMemory}
use Rattle.plain_data.specs.declared.errors.IoFail.{IoFail}
use Rattle.plain_data.specs.declared.errors.IoFail.TheVariants as causes

-- why a call of the system failed, by its error: for lack of memory exactly where the error says so
abbrev pub IsFailOf : Error → IoFail → Type 0
IsFailOf error fail = (fail ≡ causes.NoMemory) ↔ (error_kind error ≡ OutOfMemory)

-- the count rose by n, up to its end
abbrev pub RoseBy : ℕ → ℕ → ℕ → Type 0
RoseBy n before now = now ≡ max before (min (before + n) (2 ^ 64 - 1))

-- the count rose by one, or stands at its end
abbrev pub Rose : ℕ → ℕ → Type 0
Rose before now = RoseBy 1 before now

-- the count hasn't fallen; it rose by one where the call failed so, and else it is unchanged
pub record IsCaused (before now : ℕ) (failed : Type 0) : Type 0 where
  pub later : before ≤ now
  pub rose : failed → Rose before now
  pub kept : ¬ failed → now ≡ before

-- the same of a call whose every failure is counted
pub record HasCause {T E : Type 0} (before now : ℕ) (result : Result T E) : Type 0 where
  pub later : before ≤ now
  pub failed : OnErr result (Rose before now)
  pub kept : OnOk result (now ≡ before)

-- the same of a call that may also run out of memory, which is no fault
pub record HasIoCause {T : Type 0} (before now : ℕ) (result : Result T IoFail) : Type 0 where
  pub later : before ≤ now
  pub failed : IsErrOf result causes.Failed → Rose before now
  pub kept : OnOk result (now ≡ before)
  pub no_memory : IsErrOf result causes.NoMemory → now ≡ before
