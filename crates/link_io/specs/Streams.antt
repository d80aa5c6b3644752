-- Cited by public clauses. What calls of a source and of a sink do to the bytes that remain and to
-- those that are held, where these are exposed. The project's own.
use Rattle.std.specs.Prelude.{◌≡◌, ℕ, ◌<◌, ◌≤◌, ◌↔◌, List, [], ◌++◌, length, take, option_map, Result, IfOk, IfSome, OnErr}
use Rattle.std.specs.declared.option.Option.{Option}

-- the bytes were the first of those that remained, and the rest remains
abbrev pub Takes : Option (List ℕ) → List ℕ → Option (List ℕ) → Type 0
Takes before bytes after = before ≡ option_map (λ rest. bytes ++ rest) after

-- the bytes were added after those that were held
abbrev pub Adds : Option (List ℕ) → List ℕ → Option (List ℕ) → Type 0
Adds before bytes after = after ≡ option_map (λ held. held ++ bytes) before

-- a prefix of the piece was added, and not the whole
abbrev pub AddsPart : Option (List ℕ) → List ℕ → Option (List ℕ) → Type 0
AddsPart before piece after = (n : ℕ) × (n < length piece) × Adds before (take n piece) after

-- what one read did to the bytes that remain: it moved the first n to the buffer, none only at
-- their end or if the buffer has no room; a failed read took none
pub record ReadsInto {E : Type 0} (before after : Option (List ℕ)) (buffer : List ℕ)
    (result : Result ℕ E) : Type 0 where
  pub count : IfOk result (λ n. n ≤ length buffer)
  pub taken : IfOk result (λ n. Takes before (take n buffer) after)
  pub end : IfOk result (λ n. 0 < length buffer → IfSome before (λ bytes. (n ≡ 0) ↔ (bytes ≡ [])))
  pub failed : OnErr result (after ≡ before)

-- what one write did to the bytes that are held: it added the first n of the piece, at least one
-- of a piece that has some; a failed write added none
pub record WritesFrom {E : Type 0} (before after : Option (List ℕ)) (piece : List ℕ)
    (result : Result ℕ E) : Type 0 where
  pub count : IfOk result (λ n. n ≤ length piece)
  pub progress : IfOk result (λ n. 0 < length piece → 0 < n)
  pub added : IfOk result (λ n. Adds before (take n piece) after)
  pub failed : OnErr result (after ≡ before)
