-- Cited by public clauses. Sources, sinks and links in memory: what they are, and what one call
-- does. The project's own.
use Rattle.std.specs.Prelude.{◌≡◌, ℕ, ◌-◌, ◌<◌, ◌≤◌, ◌⊎◌, ◌↔◌, List, ◌∷◌, ◌++◌, length, take}
use Rattle.std.specs.Prelude.{drop, map, min, filter, nat_lt, All, Contains, IsErr, IfOk, OnErr}
use Rattle.std.specs.Prelude.{Result, Option, Some}
use Rattle.plain_data.specs.Counts.{Numbered, NextFails, called, one_more}

-- a source in memory
pub record SourceState : Type 0 where
  -- the bytes that remain
  pub remaining : List ℕ
  -- the offsets in them that no read passes, each at least 1, in the order in which they were given
  pub cuts : List ℕ
  -- its reads, and the number of them that failed
  pub calls : Numbered
  pub faults : ℕ

-- a sink in memory
pub record SinkState : Type 0 where
  -- the bytes that it holds
  pub held : List ℕ
  -- the most bytes that one write takes
  pub most : ℕ
  -- its writes, and the number of them that failed
  pub calls : Numbered
  pub faults : ℕ

-- a link in memory
pub record LinkState : Type 0 where
  pub source : SourceState
  pub sink : SinkState

-- the bytes that remain in a source
abbrev pub remaining_of : SourceState → Option (List ℕ)
remaining_of source = Some source.remaining

-- the bytes that a sink holds
abbrev pub held_of : SinkState → Option (List ℕ)
held_of sink = Some sink.held

-- the cuts after the first n bytes, counted from there
abbrev pub cuts_after : ℕ → List ℕ → List ℕ
cuts_after n cuts = map (λ cut. cut - n) (filter (λ cut. nat_lt n cut) cuts)

-- n is the least of these numbers
pub record IsLeastOf (numbers : List ℕ) (n : ℕ) : Type 0 where
  pub among : Contains numbers n
  pub least : All (λ number. n ≤ number) numbers

-- where a read into a buffer of this length may end: at the end of the buffer, at that of the bytes
-- that remain, or at a cut
abbrev pub ends_of : SourceState → ℕ → List ℕ
ends_of source length_of_buffer = length_of_buffer ∷ length source.remaining ∷ source.cuts

-- what a read did: old and new are the source, before and after are the buffer. It moves the bytes
-- before the first of its ends.
pub record Reads {E : Type 0} (old new : SourceState) (before after : List ℕ)
    (result : Result ℕ E) : Type 0 where
  pub fails : IsErr result ↔ NextFails old.calls
  pub count : IfOk result (λ n. IsLeastOf (ends_of old (length before)) n)
  pub moved : IfOk result (λ n. after ≡ take n old.remaining ++ drop n before)
  pub ok : IfOk result (λ n. new ≡ record old {
    remaining = drop n old.remaining;
    cuts = cuts_after n old.cuts;
    calls = called old.calls;
  })
  pub err : OnErr result (new ≡ record old {
    calls = called old.calls;
    faults = one_more old.faults;
  })
  pub same_buffer : OnErr result (after ≡ before)

-- what a write of a piece did: it fails if its number says so, and otherwise only if the bytes that
-- it takes find no memory
pub record Writes {E : Type 0} (old new : SinkState) (piece : List ℕ)
    (result : Result ℕ E) : Type 0 where
  pub listed : NextFails old.calls → IsErr result
  pub fails : OnErr result (NextFails old.calls ⊎ (0 < length piece))
  pub count : IfOk result (λ n. n ≡ min (length piece) old.most)
  pub ok : IfOk result (λ n. new
      ≡ record old { held = old.held ++ take n piece; calls = called old.calls })
  pub err : OnErr result (new ≡ record old {
    calls = called old.calls;
    faults = one_more old.faults;
  })
