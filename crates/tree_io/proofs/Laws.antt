-- Laws of what is read of a scan, for the crates above.
use Rattle.std.proofs.Common.{◌≡◌, ℕ, ◌+◌, ◌<◌, cond, List, [], ◌∷◌, ◌++◌, length, get_or, Option}
use Rattle.std.proofs.Common.{Some, None, IfSome, IsSome, All, map, refl, ap, ◌∙◌, arith}
use Rattle.std.specs.Prelude.{unwrap_or}
use Rattle.std.specs.Option.{ForSome}
use Rattle.std.proofs.lemmas.List.{map-append}
use Rattle.std.proofs.lemmas.List.Elements.{All-append}
use Rattle.std.proofs.lemmas.List.Sums.{sum_by-append}
use Prim.Native.Nat.{zero, suc}
use Rattle.plain_data.specs.Causes.{RoseBy}
use Rattle.tree_io.specs.Path.{paths_of}
use Rattle.tree_io.specs.Sources.{Contents, Sources, IsFrom, bytes_at, entry_of, is_unread}
use Rattle.tree_io.specs.Sources.{unread_count}
use Rattle.tree_io.specs.Scans.{IsListed, under_way}
use Rattle.tree_io.specs.Entries.{IsReadSoFar}
use Rattle.tree_io.specs.declared.tree.Entry.{Entry}
use Rattle.tree_io.proofs.Reading.{IsKnown-listed}
pub use Rattle.tree_io.proofs.FileMaps.{IsRising-strings}

unread_count-append : (xs ys : Sources) → unread_count (xs ++ ys)
    ≡ unread_count xs + unread_count ys
unread_count-append xs ys = sum_by-append (λ s. cond (is_unread s.1) 1 0) xs ys

RoseBy-add : (m n a b c : ℕ) → RoseBy m a b → RoseBy n b c → RoseBy (m + n) a c
RoseBy-add m n a b c f g = omega (arith, f, g)

entries-append : (scans : Option (List Contents)) (xs ys : Sources)
    → IfSome scans (λ told. All (IsFrom (under_way told)) xs)
    → IfSome scans (λ told. All (IsFrom (under_way told)) ys)
    → IfSome scans (λ told. All (IsFrom (under_way told)) (xs ++ ys))
entries-append None xs ys f g = tt
entries-append (Some told) xs ys f g = All-append (IsFrom (under_way told)) xs ys f g

-- some paths, and then more
pub IsReadSoFar-append : (scans : Option (List Contents)) (ps qs : List (List ℕ)) (xs ys : Sources)
    (a b c : ℕ)
    → IsReadSoFar scans ps xs a b → IsReadSoFar scans qs ys b c
    → IsReadSoFar scans (ps ++ qs) (xs ++ ys) a c
IsReadSoFar-append scans ps qs xs ys a b c f g = record {
  same_paths = map-append (λ (s : List ℕ × Entry). s.0) xs ys
      ∙ ap (λ l. l ++ paths_of ys) f.same_paths ∙ ap (λ l. ps ++ l) g.same_paths;
  entries = entries-append scans xs ys f.entries g.entries;
  failed_reads = rw unread_count-append (RoseBy-add (unread_count xs) (unread_count ys) a b c
      f.failed_reads g.failed_reads);
}

same_default : (xs : List (List ℕ)) (k : ℕ) (d e : List ℕ) → k < length xs → get_or xs k d
    ≡ get_or xs k e
same_default [] k d e below = absurd (omega arith)
same_default (x ∷ xs) zero d e below = refl
same_default (x ∷ xs) (suc k) d e below = same_default xs k d e (omega arith)

-- the paths that a scan lists may be read
pub listed_are_known : (scans : Option (List Contents)) (paths : List (List ℕ))
    → IsListed scans paths
    → ForSome scans (λ told. All (λ path. IsSome (bytes_at (under_way told) path)) paths)
listed_are_known scans paths listed told is k d below =
    IsKnown-listed scans scans paths k (get_or paths k d) refl listed below
    (same_default paths k d (get_or paths k d) below) told is

-- ---- what would be read of paths

entry_at : Contents → List ℕ → Entry
entry_at contents path = entry_of (unwrap_or (bytes_at contents path) [])

all_at : Contents → List (List ℕ) → Sources
all_at contents paths = map (λ path. (path, entry_at contents path)) paths
