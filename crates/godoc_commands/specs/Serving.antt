-- Cited by public clauses. What `answer` did. The project's own.
use Rattle.std.specs.Prelude.{◌≡◌, ◌≢◌, ℕ, ◌⊎◌, ◌↔◌, Bool, IsTrue, List, [], ◌∷◌, replicate, Option}
use Rattle.std.specs.Prelude.{IfSome, ⊤}
use Rattle.corpus.specs.Corpora.{Edition, IsEdition}
use Rattle.go_ast.specs.declared.config.Config.{Config}
use Rattle.link_io.specs.Streams.{Takes, Adds}
use Rattle.plain_data.specs.Causes.{IsCaused}
use Rattle.session.specs.declared.session_end.SessionEnd.{SessionEnd}
use Rattle.session.specs.declared.session_end.SessionEnd.TheVariants as ends
use Rattle.session.specs.Session.{Exchange}
use Rattle.tree_io.specs.Entries.{IsScannedFrom}
use Rattle.tree_io.specs.Scans.{OpensScan}
use Rattle.godoc_commands.specs.declared.status.Status.{Status}
use Rattle.godoc_commands.specs.declared.status.Status.TheVariants as statuses
use Rattle.godoc_commands.specs.Changes.{Change, InputState, IsUnchanged, OutputState, TreeState}
use Rattle.godoc_commands.specs.Changes.{after, before}
use Rattle.godoc_commands.specs.Outcome.{IsOfTree, ScansOnce}
use Rattle.godoc_commands.specs.Replies.{reply_of}

-- the edition that sources of the scan under way define for a configuration; they are within the
-- limits
pub record IsEditionOf {T : Type 0} (config : Config) (tree : Change T TreeState)
    (edition : Edition) : Type 0 where
  pub scanned : IsScannedFrom (after tree).scans edition.sources.entries (before tree).read_faults
      (after tree).read_faults
  pub config_is : edition.sources.config ≡ config
  pub own : IsEdition edition

-- What a session over the history of this one edition did: the bytes that remain and are held,
-- where the two ends expose them, before it and after it, and how it ended.
pub record Serves (edition : Edition) (remaining remaining_after : Option (List ℕ))
    (held held_after : Option (List ℕ)) (result : SessionEnd) : Type 0 where
  -- the bytes read and written, how many requests have an entry, and whether the input ended
  pub read : List ℕ
  pub written : List ℕ
  pub count : ℕ
  pub ended : Bool
  pub takes : Takes remaining read remaining_after
  pub adds : Adds held written held_after
  -- the input ended where nothing remains, unless a read failed
  pub end_is : IfSome remaining_after
      (λ rest. IsTrue ended ↔ ((rest ≡ []) × (result ≢ ends.ReadFault)))
  -- what was read and written, in which order, by the edition with number 1
  pub exchange : Exchange reply_of (edition ∷ []) read written ended (replicate count 1) result

-- the status that a session's end gives
abbrev pub status_after : SessionEnd → Status
status_after ends.Closed = statuses.Done
status_after ends.Refused = statuses.Done
status_after ends.Full = statuses.Done
status_after ends.ReadFault = statuses.ReadFault
status_after ends.WriteFault = statuses.WriteFault
status_after ends.NoMemory = statuses.NoMemory

-- a status that `answer` has
abbrev pub IsOfAnswer : Status → Type 0
IsOfAnswer statuses.Done = ⊤
IsOfAnswer statuses.TreeFault = ⊤
IsOfAnswer (statuses.Limit files bytes) = ⊤
IsOfAnswer statuses.ReadFault = ⊤
IsOfAnswer statuses.WriteFault = ⊤
IsOfAnswer statuses.NoMemory = ⊤
IsOfAnswer status = ⊥

-- What `answer` did where it had an edition: it opened one scan, which defines the edition for this
-- configuration, and its session gives the status.
pub record Answers {T I O : Type 0} (config : Config) (tree : Change T TreeState)
    (input : Change I InputState) (out : Change O OutputState) (status : Status) : Type 0 where
  pub edition : Edition
  pub opened : OpensScan (before tree).scans (after tree).scans
  pub defined : IsEditionOf config tree edition
  pub end : SessionEnd
  pub session : Serves edition (before input).remaining (after input).remaining (before out).held
      (after out).held end
  pub status_is : status ≡ status_after end

-- neither the input nor the output is changed
abbrev pub AreUnchanged : {I O : Type 0} → Change I InputState → Change O OutputState → Type 0
AreUnchanged input out = IsUnchanged input × IsUnchanged out

-- what `answer` did, by this configuration
pub record AnswersPlan {T I O : Type 0} (config : Config) (tree : Change T TreeState)
    (input : Change I InputState) (out : Change O OutputState) (status : Status) : Type 0 where
  pub of_answer : IsOfAnswer status
  pub scan : ScansOnce tree status
  -- unless the tree gave no edition, the output gained the replies of an edition of this call's
  -- scan
  pub answered : (IsOfTree status → ⊥) → status ≢ statuses.NoMemory
      → Answers config tree input out status
  pub no_memory : status ≡ statuses.NoMemory
      → AreUnchanged input out ⊎ Answers config tree input out status
  -- a read or a write failed only where its count of faults rose by one, or stands at its end
  pub read_faults : IsCaused (before input).faults (after input).faults
      (status ≡ statuses.ReadFault)
  pub write_faults : IsCaused (before out).faults (after out).faults (status ≡ statuses.WriteFault)
