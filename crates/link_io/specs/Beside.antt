-- Cited by public clauses. What the calls of a source or of a sink leave unchanged. The project's
-- own.
use Rattle.std.specs.Prelude.{◌≡◌, ℕ, List, None}
use Rattle.std.specs.declared.option.Option.{Option}

-- the other side of a link: its bytes, where it exposes them, and its count of faults
pub record Beside : Type 0 where
  pub bytes : Option (List ℕ)
  pub faults : ℕ

-- nothing: the source or the sink isn't a side of a link
abbrev pub nothing : Beside
nothing = record { bytes = None; faults = 0 }

-- a call left the other side of a link, and the references in the stream, unchanged
pub record Leaves {Stream : Type 0} (beside : Stream → Beside) (references : Stream → List ℕ)
    (old new : Stream) : Type 0 where
  pub alone : beside new ≡ beside old
  pub same_references : references new ≡ references old
