-- What reading the listed paths one after another gives: sources that are scanned from the
-- contents.
use Rattle.std.proofs.Common.{◌≡◌, ℕ, ◌+◌, ◌<◌, Bool, true, false, cond, Option, Some, None, IfSome}
use Rattle.std.proofs.Common.{IsSome, List, [], ◌∷◌, ◌++◌, length, get_or, All, inl, inr, refl, sym}
use Rattle.std.proofs.Common.{ap, ◌∙◌, subst, arith}
use Rattle.std.specs.Str.{bytes_eq}
use Rattle.std.proofs.lemmas.Bool.{false≢true}
use Rattle.std.proofs.lemmas.Option.{none-some}
use Rattle.std.proofs.lemmas.List.Elements.{All-nil, All-push}
use Rattle.std.proofs.lemmas.List.Sums.{fold_push}
use Rattle.std.proofs.lemmas.Slice.Eq.{bytes_eq-Decides}
use Prim.Native.Nat.{zero, suc}
use Rattle.plain_data.specs.Causes.{Rose}
use Rattle.tree_io.specs.Path.{paths_of}
use Rattle.tree_io.specs.Sources.{Contents, Sources, IsFrom, bytes_at, entry_of, is_unread}
use Rattle.tree_io.specs.Sources.{unread_count, IsReadable}
use Rattle.tree_io.specs.Scans.{under_way, IsKnown, IsListed, IsReadAs}
use Rattle.tree_io.specs.Entries.{IsReadSoFar}
use Rattle.tree_io.specs.declared.tree.Entry.{Entry}
use Rattle.tree_io.specs.declared.tree.Entry.TheVariants.{Bytes, Large, Unread}

-- before the first read
pub IsReadSoFar-none : (scans : Option (List Contents)) (count : ℕ)
    → IsReadSoFar scans [] [] count count
IsReadSoFar-none None count = record { same_paths = refl; entries = tt; failed_reads = omega arith }
IsReadSoFar-none (Some told) count = record {
  same_paths = refl;
  entries = All-nil
      (IsFrom (under_way told));
  failed_reads = omega arith;
}

paths_of-push : (sources : Sources) (path : List ℕ) (entry : Entry)
    → paths_of (sources ++ (path, entry) ∷ []) ≡ paths_of sources ++ path ∷ []
paths_of-push [] path entry = refl
paths_of-push (s ∷ sources) path entry = ap (λ rest. s.0 ∷ rest) (paths_of-push sources path entry)

unread_count-push : (sources : Sources) (path : List ℕ) (entry : Entry)
    → unread_count (sources ++ (path, entry) ∷ [])
    ≡ unread_count sources + cond (is_unread entry) 1 0
unread_count-push sources path entry = fold_push
    (λ (a : ℕ) (source : List ℕ × Entry). a + cond (is_unread source.1) 1 0) 0 sources (path, entry)

entries-push : (scans : Option (List Contents)) (sources : Sources) (path : List ℕ) (entry : Entry)
    → IfSome scans (λ told. All (IsFrom (under_way told)) sources)
    → IfSome scans (λ told. IsFrom (under_way told) (path, entry))
    → IfSome scans (λ told. All (IsFrom (under_way told)) (sources ++ (path, entry) ∷ []))
entries-push None sources path entry before next = tt
entries-push (Some told) sources path entry before next = All-push (IsFrom (under_way told)) sources
    (path, entry) before next

from_read : (contents : Contents) (path : List ℕ) (entry : Entry) (bytes : Option (List ℕ))
    → bytes_at contents path ≡ bytes → IsSome bytes → IfSome bytes (λ b. entry ≡ entry_of b)
    → IsFrom contents (path, entry)
from_read contents path entry None at known read = absurd (false≢true known)
from_read contents path entry (Some bytes) at known read = inr (rw at read)

next_read : (scans : Option (List Contents)) (path : List ℕ) (entry : Entry) → IsKnown scans path
    → IsReadAs scans path entry → IfSome scans (λ told. IsFrom (under_way told) (path, entry))
next_read None path entry known read = tt
next_read (Some told) path entry known read = from_read (under_way told) path entry
    (bytes_at (under_way told) path) refl (known told refl) read

next_unread : (scans : Option (List Contents)) (path : List ℕ)
    → IfSome scans (λ told. IsFrom (under_way told) (path, Unread))
next_unread None path = tt
next_unread (Some told) path = inl refl

read_is_not_unread : (entry : Entry) → IsReadable entry → is_unread entry ≡ false
read_is_not_unread (Bytes bytes) readable = refl
read_is_not_unread Large readable = refl
read_is_not_unread Unread readable = absurd readable

-- after a read that gave an entry
pub IsReadSoFar-read : (scans : Option (List Contents)) (paths : List (List ℕ)) (sources : Sources)
    (before middle now : ℕ) (path : List ℕ) (entry : Entry)
    → IsReadSoFar scans paths sources before middle → now ≡ middle → IsKnown scans path
    → IsReadable entry → IsReadAs scans path entry
    → IsReadSoFar scans (paths ++ path ∷ []) (sources ++ (path, entry) ∷ []) before now
IsReadSoFar-read scans paths sources before middle now path entry so_far kept known readable read =
    let count : unread_count (sources ++ (path, entry) ∷ [])
    ≡ unread_count sources = rw (
      unread_count-push sources path entry,
      read_is_not_unread entry
          readable,
    ) (omega arith) in
    record {
      same_paths = paths_of-push sources path entry
          ∙ ap (λ (ps : List (List ℕ)). ps ++ path ∷ []) so_far.same_paths;
      entries = entries-push scans sources path entry so_far.entries
          (next_read scans path entry known read);
      failed_reads = rw count (omega (arith, so_far.failed_reads));
    }

-- after a read that failed
pub IsReadSoFar-failed : (scans : Option (List Contents)) (paths : List (List ℕ))
    (sources : Sources) (before middle now : ℕ) (path : List ℕ)
    → IsReadSoFar scans paths sources before middle → Rose middle now
    → IsReadSoFar scans (paths ++ path ∷ []) (sources ++ (path, Unread) ∷ []) before now
IsReadSoFar-failed scans paths sources before middle now path so_far rose =
    let count : unread_count (sources ++ (path, Unread) ∷ [])
    ≡ unread_count sources + 1 = unread_count-push sources path Unread in
    record {
      same_paths = paths_of-push sources path Unread
          ∙ ap (λ (ps : List (List ℕ)). ps ++ path ∷ []) so_far.same_paths;
      entries = entries-push scans sources path Unread so_far.entries (next_unread scans path);
      failed_reads = rw count (omega (arith, so_far.failed_reads));
    }

some_either : (b : Bool) (bytes : List ℕ) (rest : Option (List ℕ)) → IsSome rest
    → IsSome (cond b (Some bytes) rest)
some_either true bytes rest some = refl
some_either false bytes rest some = some

found : (contents : Contents) (i : ℕ) (d : List ℕ) → i < length (paths_of contents)
    → IsSome (bytes_at contents (get_or (paths_of contents) i d))
found [] i d below = absurd (omega arith)
found (file ∷ contents) zero d below = rw ((bytes_eq-Decides file.0 file.0).1 refl)
found (file ∷ contents) (suc i) d below = some_either
    (bytes_eq (get_or (paths_of contents) i d) file.0) file.1 _ (found contents i d (omega arith))

known_at : (scans : Option (List Contents)) (paths : List (List ℕ)) (i : ℕ) (d : List ℕ)
    → IsListed scans paths → i < length paths → IsKnown scans (get_or paths i d)
known_at None paths i d listed below = λ told is. absurd (none-some told is)
known_at (Some told) paths i d listed below = λ scans is.
    let same : told ≡ scans = cc in
    let known : IsSome (bytes_at (under_way told) (get_or paths i d)) = rw listed
    (found (under_way told) i d (subst (λ (ps : List (List ℕ)). i < length ps) listed below)) in
    subst (λ (now : List Contents). IsSome (bytes_at (under_way now) (get_or paths i d))) same known

-- a listed path may be read: the scans are those of the list, and the path is the one at i
pub IsKnown-listed : (scans now : Option (List Contents)) (paths : List (List ℕ)) (i : ℕ)
    (path : List ℕ) → now ≡ scans → IsListed scans paths → i < length paths → path
    ≡ get_or paths i path → IsKnown now path
IsKnown-listed scans now paths i path same listed below is =
    subst (λ (s : Option (List Contents)). IsKnown s path) (sym same)
    (subst (IsKnown scans) (sym is) (known_at scans paths i path listed below))

-- what a read gave, where the scans are those of the list
pub IsReadAs-same : (scans now : Option (List Contents)) (path : List ℕ) (entry : Entry) → now
    ≡ scans → IsReadAs now path entry → IsReadAs scans path entry
IsReadAs-same scans now path entry same read = subst
    (λ (s : Option (List Contents)). IsReadAs s path entry) same read
