-- What is known of sources while they are read.
use Rattle.std.proofs.Common.{◌≡◌, ℕ, ◌+◌, ◌<◌, ◌≤◌, List, [], ◌∷◌, ◌++◌, Option, sym, ap, ◌∙◌}
use Rattle.std.proofs.Common.{subst, append_assoc, zero-add}
use Rattle.std.specs.Prelude.{All, IsSome}
use Rattle.std.specs.Option.{ForSome}
use Rattle.std.proofs.lemmas.List.Elements.{All-head, All-tail}
use Rattle.std.proofs.lemmas.List.Sums.{sum_by-append}
use Rattle.corpus.specs.Snapshots.{bytes_of, scan_bytes_limit, size_of}
use Rattle.tree_io.specs.declared.tree.Entry.{Entry}
use Rattle.tree_io.specs.Entries.{IsReadSoFar}
use Rattle.tree_io.specs.Scans.{IsKnown, under_way}
use Rattle.tree_io.specs.Sources.{Contents, Sources, bytes_at}
use Rattle.godoc_commands.specs.Limits.{PassBytes}

-- ---- bytes

-- one file more
pub bytes_of-push : (sources : Sources) (path : List ℕ) (entry : Entry)
    → bytes_of (sources ++ (path, entry) ∷ []) ≡ bytes_of sources + size_of entry
bytes_of-push sources path entry =
    sum_by-append (λ (s : List ℕ × Entry). size_of s.1) sources ((path, entry) ∷ [])
    ∙ ap (λ n. bytes_of sources + n) (zero-add (size_of entry))

-- what holds of all holds of those after
pub all_behind : {X : Type 0} (P : X → Type 0) (xs ys : List X) → All P (xs ++ ys) → All P ys
all_behind P [] ys h = h
all_behind P (x ∷ xs) ys h = all_behind P xs ys (All-tail P x (xs ++ ys) h)

-- a path of the scan under way
pub known_between : (scans : Option (List Contents)) (paths before : List (List ℕ)) (path : List ℕ)
    (rest : List (List ℕ)) → before ++ path ∷ rest ≡ paths
    → ForSome scans (λ told. All (λ p. IsSome (bytes_at (under_way told) p)) paths)
    → IsKnown scans path
known_between scans paths before path rest cut known told is =
    let P : List ℕ → Type 0 = λ p. IsSome (bytes_at (under_way told) p) in
    All-head P path rest (all_behind P before (path ∷ rest)
    (subst (All P) (sym cut) (known told is)))

-- with one more file there are too many bytes
pub pass_here : (scans : Option (List Contents)) (paths before : List (List ℕ)) (path : List ℕ)
    (rest : List (List ℕ)) (sources : Sources) (entry : Entry) (a c bytes : ℕ)
    → before ++ path ∷ rest ≡ paths → IsReadSoFar scans (before ++ path ∷ [])
    (sources ++ (path, entry) ∷ []) a c → bytes_of sources ≤ scan_bytes_limit
    → bytes ≡ bytes_of (sources ++ (path, entry) ∷ []) → scan_bytes_limit < bytes
    → PassBytes scans paths a c bytes
pass_here scans paths before path rest sources entry a c bytes cut read within is passed = record {
  first = sources;
  last = (path, entry);
  rest = rest;
  all = ap (λ ps. ps ++ rest) read.same_paths ∙ append_assoc before (path ∷ []) rest ∙ cut;
  read = subst (λ ps. IsReadSoFar scans ps (sources ++ (path, entry) ∷ []) a c)
      (sym read.same_paths) read;
  within = within;
  bytes_is = is;
  passed = passed;
}
