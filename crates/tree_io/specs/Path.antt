-- Cited by public clauses. Which paths belong to a tree of Go sources, and in what order they
-- stand. The rule is the project's own.
use Rattle.std.specs.Prelude.{◌≢◌, ℕ, ◌-◌, ◌<◌, ◌≤◌, ◌==◌, List, length, take, map, All, IsTrue}
use Rattle.std.specs.Prelude.{codes, slice_index, nat_eq}
use Rattle.std.specs.List.{slice_split, ends_with}
use Rattle.std.specs.List.Sorted.{IsStrictlySortedBy}
use Rattle.std.specs.Cmp.Lexicographic.{slice_cmp}
use Rattle.std.specs.Ordering.{nat_cmp}

-- the most bytes of a path
abbrev pub path_limit : ℕ
path_limit = 4096

abbrev pub slash : ℕ
slash = 47

abbrev pub dot : ℕ
dot = 46

abbrev pub underscore : ℕ
underscore = 95

abbrev pub space : ℕ
space = 32

abbrev pub delete : ℕ
delete = 127

-- the segments of a path, between its slashes
abbrev pub segments_of : List ℕ → List (List ℕ)
segments_of path = slice_split (λ b. b == slash) path

-- the segments that name folders: all but the last
abbrev pub folders_of : List ℕ → List (List ℕ)
folders_of path = take (length (segments_of path) - 1) (segments_of path)

-- a byte that a path may have: no control character of ASCII
abbrev pub IsPathByte : ℕ → Type 0
IsPathByte b = (space ≤ b) × (b ≢ delete)

-- a segment that is not empty, and begins with neither `.` nor `_`
pub record IsPlainSegment (segment : List ℕ) : Type 0 where
  pub not_empty : 0 < length segment
  pub no_dot : slice_index segment 0 ≢ dot
  pub no_underscore : slice_index segment 0 ≢ underscore

-- a folder whose files belong
pub record IsSourceFolder (segment : List ℕ) : Type 0 where
  pub no_vendor : segment ≢ codes "vendor"
  pub no_testdata : segment ≢ codes "testdata"

-- a name of an entry under which paths that belong may stand
pub record MayLead (name : List ℕ) : Type 0 where
  pub plain : IsPlainSegment name
  pub source_folder : IsSourceFolder name
  pub printable : All IsPathByte name

-- a path of a Go file under the root
pub record Belongs (path : List ℕ) : Type 0 where
  pub go_file : IsTrue (ends_with nat_eq path (codes ".go"))
  pub short : length path ≤ path_limit
  pub printable : All IsPathByte path
  pub segments : All IsPlainSegment (segments_of path)
  pub folders : All IsSourceFolder (folders_of path)

-- each path is below those after it, by their bytes
abbrev pub IsRising : List (List ℕ) → Type 0
IsRising paths = IsStrictlySortedBy (slice_cmp nat_cmp) paths

-- the paths of pairs, alone
abbrev pub paths_of : {X : Type 0} → List (List ℕ × X) → List (List ℕ)
paths_of pairs = map (λ pair. pair.0) pairs

-- the paths of pairs belong, and rise strictly by bytes
pub record HasSourcePaths {X : Type 0} (pairs : List (List ℕ × X)) : Type 0 where
  pub belong : All Belongs (paths_of pairs)
  pub rising : IsRising (paths_of pairs)
