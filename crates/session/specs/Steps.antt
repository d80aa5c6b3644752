-- Cited by private clauses and proofs. What one step of a session did. The project's own.
use Rattle.std.specs.Prelude.{◌≡◌, ℕ, List, Option, Result, Ok, Err}
use Rattle.link_io.specs.Streams.{Adds, AddsPart}
use Rattle.plain_data.specs.Causes.{IsCaused}
use Rattle.session.specs.declared.session_end.SessionEnd.{SessionEnd}
use Rattle.session.specs.declared.session_end.SessionEnd.TheVariants as ends
use Rattle.session.specs.declared.session_end.Stop.{Stop}
use Rattle.session.specs.declared.session_end.Stop.TheVariants as stops

-- how a session ends that stopped
abbrev pub end_after : Stop → SessionEnd
end_after stops.ReadFault = ends.ReadFault
end_after stops.WriteFault = ends.WriteFault
end_after stops.NoMemory = ends.NoMemory

-- how a session ends
abbrev pub end_by : Result SessionEnd Stop → SessionEnd
end_by (Ok end) = end
end_by (Err stop) = end_after stop

-- what was written of a reply: the whole where nothing failed, a proper prefix of it where a write
-- did, and nothing where memory ran out
abbrev pub Writes : List ℕ → Option (List ℕ) → Option (List ℕ) → Result Unit Stop → Type 0
Writes reply held held_after (Ok _) = Adds held reply held_after
Writes reply held held_after (Err stops.WriteFault) = AddsPart held reply held_after
Writes reply held held_after (Err stops.NoMemory) = held_after ≡ held
Writes reply held held_after (Err stops.ReadFault) = ⊥

-- What a call that only writes did to a link, but for the bytes that it wrote: where it failed so,
-- the count of failed writes rose by one, or stands at its end, and else this count is unchanged.
-- It left the bytes that remain, the count of failed reads and the references as they were.
pub record OnlyWrites {Link : Type 0} (bytes : Link → Option (List ℕ)) (reads writes : Link → ℕ)
    (references : Link → List ℕ) (old new : Link) (failed : Type 0) : Type 0 where
  pub write_faults : IsCaused (writes old) (writes new) failed
  pub remaining : bytes new ≡ bytes old
  pub read_faults : reads new ≡ reads old
  pub same_references : references new ≡ references old

-- What a call that only reads did to a link, but for the bytes that it read: where it failed so,
-- the count of failed reads rose by one, or stands at its end, and else this count is unchanged.
-- It left the bytes that are held, the count of failed writes and the references as they were.
pub record OnlyReads {Link : Type 0} (bytes : Link → Option (List ℕ)) (reads writes : Link → ℕ)
    (references : Link → List ℕ) (old new : Link) (failed : Type 0) : Type 0 where
  pub read_faults : IsCaused (reads old) (reads new) failed
  pub held : bytes new ≡ bytes old
  pub write_faults : writes new ≡ writes old
  pub same_references : references new ≡ references old
