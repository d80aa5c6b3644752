-- A map of files, seen as contents.
use Rattle.std.proofs.Common.{◌≡◌, ℕ, ◌+◌, ◌-◌, ◌≤◌, cond, Option, Some, None, MatchOption, Bor}
use Rattle.std.proofs.Common.{inl, inr, List, [], ◌∷◌, ◌++◌, length, map, min, get_or, All, refl}
use Rattle.std.proofs.Common.{sym, ap, ◌∙◌, subst, string_bytes, arith}
use Prim.Native.Nat.{zero, suc}
use Rattle.std.specs.List.{AllByRecursion, AllZip}
use Rattle.std.specs.List.Sorted.{IsStrictlySortedBy}
use Rattle.std.specs.Slice.{IsItemAt}
use Rattle.std.specs.Cmp.Lexicographic.{slice_cmp}
use Rattle.std.specs.Ordering.{nat_cmp}
use Rattle.std.specs.declared.cmp.Ordering.TheVariants.{Less}
use Rattle.std.specs.Str.{bytes_eq}
use Rattle.std.specs.BTreeMap.{BTreeMap, keys, get_by_text, is_at, insert_entry, IsOrdered, Updates}
use Rattle.std.specs.Map.{lookup, keys_of}
use Rattle.std.specs.String.{string_cmp}
use Rattle.std.specs.declared.string.String.{String}
use Rattle.std.proofs.lemmas.List.{get_or-map, get_or_past, length-map, map-append}
use Rattle.std.proofs.lemmas.List.FromFn.{length-map-range_with_len, get_or-map-range_with_len}
use Rattle.std.proofs.lemmas.List.FromFn.{map-range_with_len_more}
use Rattle.std.proofs.lemmas.List.Elements.{All-cons, All-map, AllZip-push}
use Rattle.std.proofs.lemmas.Map.Text.{is_eq-slice_cmp, btree_map_updates_text}
use Rattle.std.proofs.lemmas.Map.Views.{All-keys-insert_entry}
use Rattle.std.proofs.lemmas.Bool.{cases_lt}
use Rattle.std.proofs.lemmas.Bool.Decides.{same_from_decides}
use Rattle.std.proofs.lemmas.Slice.Eq.{bytes_eq-Decides}
use Rattle.tree_io.specs.Path.{Belongs, HasSourcePaths, IsRising, paths_of}
use Rattle.tree_io.specs.Sources.{Contents, bytes_at}
use Rattle.tree_io.specs.Scans.{under_way}
use Rattle.tree_io.specs.MemTree.{IsTold, version_at}
use Rattle.tree_io.specs.Files.{files_of, scans_of}

bytes_eq-sym : (xs ys : List ℕ) → bytes_eq xs ys ≡ bytes_eq ys xs
bytes_eq-sym xs ys =
    let back = bytes_eq-Decides ys xs in
    same_from_decides _ _ (bytes_eq-Decides xs ys) (λ e. sym (back.0 e), λ e. back.1 (sym e))

module _ {A : Type 0} where
  paths_of-entries : (es : List (String A × List ℕ))
      → paths_of (map (λ e. (string_bytes e.0, e.1)) es) ≡ map string_bytes (keys_of es)
  paths_of-entries [] = refl
  paths_of-entries (e ∷ es) = ap (λ rest. string_bytes e.0 ∷ rest) (paths_of-entries es)

  -- the paths are the keys
  pub paths_of-files_of : (m : BTreeMap (String A) (List ℕ)) → paths_of (files_of m)
      ≡ map string_bytes (keys m)
  paths_of-files_of m = paths_of-entries m.entries

  lookup-entries : (path : List ℕ) (es : List (String A × List ℕ))
      → lookup (bytes_eq path) (map (λ e. (string_bytes e.0, e.1)) es)
      ≡ lookup (is_at (λ k. slice_cmp nat_cmp path (string_bytes k))) es
  lookup-entries path [] = refl
  lookup-entries path (e ∷ es) = rw (
    is_eq-slice_cmp path (string_bytes e.0),
    lookup-entries path
        es,
  )

  -- a look-up is one by text
  pub bytes_at-files_of : (m : BTreeMap (String A) (List ℕ)) (path : List ℕ)
      → bytes_at (files_of m) path ≡ get_by_text m path
  bytes_at-files_of m path = lookup-entries path m.entries

  all-keys : (x : String A) (ks : List (String A)) → AllByRecursion (λ y. string_cmp x y ≡ Less) ks
      → AllByRecursion (λ y. slice_cmp nat_cmp (string_bytes x) y ≡ Less) (map string_bytes ks)
  all-keys x [] below = tt
  all-keys x (k ∷ ks) below = (below.0, all-keys x ks below.1)

  -- strings in order have their bytes in order
  pub IsRising-strings : (ks : List (String A)) → IsStrictlySortedBy string_cmp ks
      → IsRising (map string_bytes ks)
  unfolding IsStrictlySortedBy
  IsRising-strings [] sorted = tt
  IsRising-strings (k ∷ ks) sorted = (all-keys k ks sorted.0, IsRising-strings ks sorted.1)

  all-keys_belong : (m : BTreeMap (String A) (List ℕ)) → HasSourcePaths (files_of m)
      → All (λ k. Belongs (string_bytes k)) (keys m)
  all-keys_belong m paths = λ k d below.
      let e = get_or-map string_bytes (keys m) k d (string_bytes d) below in
      subst Belongs e (subst (All Belongs) (paths_of-files_of m) paths.belong k (string_bytes d)
      (rw (length-map (keys m) string_bytes) below))

  -- a map of files after an insertion
  pub HasSourcePaths-insert : (m n : BTreeMap (String A) (List ℕ)) (key : String A) (bytes : List ℕ)
      → n.entries ≡ insert_entry string_cmp m.entries key bytes → IsOrdered string_cmp n
      → Belongs (string_bytes key) → HasSourcePaths (files_of m) → HasSourcePaths (files_of n)
  HasSourcePaths-insert m n key bytes entries ordered belongs paths =
      let all : All (λ k. Belongs (string_bytes k)) (keys n) = rw entries
      (All-keys-insert_entry string_cmp key bytes (λ k. Belongs (string_bytes k)) m.entries
      (all-keys_belong m paths) belongs) in
      record {
        belong = subst (All Belongs) (sym (paths_of-files_of n))
            (All-map Belongs string_bytes (keys n) all);
        rising = subst IsRising (sym (paths_of-files_of n)) (IsRising-strings (keys n) ordered);
      }

  -- what a path has after an insertion
  pub bytes_at-insert : (m n : BTreeMap (String A) (List ℕ)) (key : String A) (bytes : List ℕ)
      → Updates string_cmp m n key (Some bytes)
      → (path : List ℕ) → bytes_at (files_of n) path
      ≡ cond (bytes_eq path (string_bytes key)) (Some bytes) (bytes_at (files_of m) path)
  bytes_at-insert m n key bytes updates path =
      rw (bytes_at-files_of n path, bytes_at-files_of m path, bytes_eq-sym path (string_bytes key))
      (btree_map_updates_text (string_bytes key) m n (Some bytes) updates path)

  -- the version at a place, of the maps
  pub version_at-files_of : (ms : List (BTreeMap (String A) (List ℕ))) (n : ℕ)
      (d : BTreeMap (String A) (List ℕ)) → 1 ≤ length ms
      → version_at (map files_of ms) n ≡ files_of (get_or ms (min n (length ms - 1)) d)
  version_at-files_of ms n d some = rw (length-map ms files_of)
      (get_or-map files_of ms (min n (length ms - 1)) d [] (omega arith))

-- how many scans there are
pub length-scans_of : (versions : List Contents) (n : ℕ) → length (scans_of versions n) ≡ n
length-scans_of versions n = length-map-range_with_len (version_at versions) 0 n

-- the contents of the last scan
pub under_way-scans_of : (versions : List Contents) (n : ℕ) → 1 ≤ n
    → under_way (scans_of versions n) ≡ version_at versions (n - 1)
under_way-scans_of versions n some = rw (length-scans_of versions n)
    (get_or-map-range_with_len (version_at versions) 0 n (n - 1) (n - 1) [] (omega arith)
    (omega arith))

-- one scan more
pub scans_of-more : (versions : List Contents) (n : ℕ) → scans_of versions (n + 1)
    ≡ scans_of versions n ++ version_at versions n ∷ []
scans_of-more versions n = map-range_with_len_more (version_at versions) 0 n n (omega arith)

-- no scan of a tree without versions has a file
pub under_way-no_versions : (n : ℕ) → under_way (scans_of [] n) ≡ []
under_way-no_versions zero = refl
under_way-no_versions (suc n) = under_way-scans_of [] (suc n) (omega arith)

-- the files of the scan under way, where there is a scan and a version
pub under_way-get : {A : Type 0} (ms : List (BTreeMap (String A) (List ℕ))) (n i : ℕ)
    (r : Option (Bor (BTreeMap (String A) (List ℕ)))) → 1 ≤ n → 1 ≤ length ms → i
    ≡ min (n - 1) (length ms - 1)
    → IsItemAt ms i r → MatchOption r (under_way (scans_of (map files_of ms) n) ≡ [])
    (λ files. files_of files.now ≡ under_way (scans_of (map files_of ms) n))
under_way-get ms n i None scan version place item = absurd (omega (arith, item.3))
under_way-get ms n i (Some files) scan version place item =
    let same : files.now ≡ get_or ms (min (n - 1) (length ms - 1)) files.now = rw (← place)
    (item.3.1 files.now) in
    ap files_of same ∙ sym (version_at-files_of ms (n - 1) files.now version)
    ∙ sym (under_way-scans_of (map files_of ms) n scan)

empty_rises : IsRising []
unfolding IsStrictlySortedBy
empty_rises = tt

no_paths : HasSourcePaths {X = List ℕ} []
no_paths = record { belong = λ k d below. absurd (omega arith); rising = empty_rises }

-- an empty map of files
pub HasSourcePaths-empty : {A : Type 0} (m : BTreeMap (String A) (List ℕ)) → m.entries ≡ []
    → HasSourcePaths (files_of m)
HasSourcePaths-empty m none = rw none no_paths

pub bytes_at-empty : {A : Type 0} (m : BTreeMap (String A) (List ℕ)) (path : List ℕ) → m.entries
    ≡ [] → bytes_at (files_of m) path ≡ None
bytes_at-empty m path none = rw none

contents_at : (contents : List Contents) (i : ℕ) → All HasSourcePaths contents
    → HasSourcePaths (get_or contents i [])
contents_at contents i all = elim (cases_lt i (length contents)) [
  | inl below ↦ all i [] below
  | inr past ↦ rw (get_or_past contents i [] past) no_paths
]

-- each version of a tree has the paths of sources
pub HasSourcePaths-version_at : (versions : List Contents) (n : ℕ) → All HasSourcePaths versions
    → HasSourcePaths (version_at versions n)
HasSourcePaths-version_at versions n all = contents_at versions _ all

-- the contents of the scan under way are those of a version, or none
pub HasSourcePaths-under_way : (versions : List Contents) (n : ℕ) → All HasSourcePaths versions
    → HasSourcePaths (under_way (scans_of versions n))
HasSourcePaths-under_way versions zero all = no_paths
HasSourcePaths-under_way versions (suc n) all = subst HasSourcePaths
    (sym (under_way-scans_of versions (suc n) (omega arith))) (contents_at versions _ all)

-- the paths of the scan under way, as a list of them
pub Belongs-under_way : (versions : List Contents) (n : ℕ) (paths : List (List ℕ))
    → All HasSourcePaths versions → paths ≡ paths_of (under_way (scans_of versions n))
    → All Belongs paths
Belongs-under_way versions n paths all same = rw same
    (HasSourcePaths-under_way versions n all).belong

pub IsRising-under_way : (versions : List Contents) (n : ℕ) (paths : List (List ℕ))
    → All HasSourcePaths versions → paths ≡ paths_of (under_way (scans_of versions n))
    → IsRising paths
IsRising-under_way versions n paths all same = rw same
    (HasSourcePaths-under_way versions n all).rising

-- a version more is told
pub AllZip-told : {A : Type 0} (versions : List Contents) (ms : List (BTreeMap (String A) (List ℕ)))
    (version : Contents) (m : BTreeMap (String A) (List ℕ))
    → AllZip IsTold versions (map files_of ms) → IsTold version (files_of m)
    → AllZip IsTold (versions ++ version ∷ []) (map files_of (ms ++ m ∷ []))
AllZip-told versions ms version m told next = subst (AllZip IsTold (versions ++ version ∷ []))
    (sym (map-append files_of ms (m ∷ []))) (AllZip-push IsTold versions (map files_of ms) version
    (files_of m) told next)

-- what is told has the paths of sources
pub All-told : (versions told : List Contents) → AllZip IsTold versions told
    → All HasSourcePaths told
All-told [] [] all = λ k d below. absurd (omega arith)
All-told [] (t ∷ ts) all = absurd all
All-told (v ∷ vs) [] all = absurd all
All-told (v ∷ vs) (t ∷ ts) all = All-cons HasSourcePaths t ts all.0.paths (All-told vs ts all.1)
