-- Cited by public clauses. A set of sources with what it is read for, and the limits of a scan. The
-- project's own.
use Rattle.std.specs.Prelude.{◌≡◌, ℕ, ◌<◌, ◌≤◌, length}
use Rattle.std.specs.List.{sum_by}
use Rattle.go_ast.specs.declared.config.Config.{Config}
use Rattle.tree_io.specs.declared.tree.Entry.{Entry}
use Rattle.tree_io.specs.declared.tree.Entry.TheVariants.{Bytes}
use Rattle.tree_io.specs.Sources.{Sources, IsSources}
use Rattle.corpus.specs.declared.snapshot.TooLarge.{TooLarge}
use Rattle.corpus.specs.declared.snapshot.TooLarge.TheVariants.{TooManyFiles, TooManyBytes}
use Rattle.corpus.specs.declared.snapshot.TooLarge.TheVariants.{NoMemory}

-- the most files of a scan, and the most bytes that it keeps of them together
abbrev pub files_limit : ℕ
files_limit = 20000

abbrev pub scan_bytes_limit : ℕ
scan_bytes_limit = 134217728

-- the paths of a scan with their entries, and the configuration that they are read for
pub record SourceSet : Type 0 where
  pub config : Config
  pub entries : Sources

abbrev pub source_set : Config → Sources → SourceSet
source_set config entries = record { config = config; entries = entries }

-- how many bytes a scan keeps of a file
abbrev pub size_of : Entry → ℕ
size_of (Bytes bytes) = length bytes
size_of _ = 0

-- how many bytes a scan keeps
abbrev pub bytes_of : Sources → ℕ
bytes_of sources = sum_by (λ source. size_of source.1) sources

-- a scan that is no larger than is allowed
pub record IsWithinLimits (sources : Sources) : Type 0 where
  pub files : length sources ≤ files_limit
  pub bytes : bytes_of sources ≤ scan_bytes_limit

-- sources that a scan may have: their paths belong and rise, and they are no larger than is allowed
pub record IsSnapshot (s : SourceSet) : Type 0 where
  pub valid : IsSources s.entries
  pub limits : IsWithinLimits s.entries

-- the count of files where it passes its limit, and else the sum of bytes where that does; no
-- memory is taken
abbrev pub IsPassed : Sources → TooLarge → Type 0
IsPassed sources (TooManyFiles count) = (count ≡ length sources) × (files_limit < count)
IsPassed sources (TooManyBytes sum) =
    (length sources ≤ files_limit) × (sum ≡ bytes_of sources) × (scan_bytes_limit < sum)
IsPassed sources NoMemory = ⊥
