-- What the maps of the code say, as packages of files.
use Rattle.std.proofs.Common.{Vec, ◌≡◌, ℕ, Bool, true, not, List, [], ◌∷◌, Option, Some, None, map}
use Rattle.std.proofs.Common.{get_or, All, refl, sym, ap, subst, ◌∙◌, string_bytes, true≢false}
use Rattle.std.specs.BTreeMap.{BTreeMap, keys, get_by_text, is_at, IsOrdered}
use Rattle.std.specs.Cmp.Lexicographic.{slice_cmp}
use Rattle.std.specs.List.{AllByRecursion, Contains, filter, list_any, enumerate_from}
use Rattle.std.specs.List.Sorted.{IsStrictlySortedBy}
use Rattle.std.specs.Option.{IfSome, is_some, option_map, option_map_or}
use Rattle.std.specs.Ordering.{nat_cmp}
use Rattle.std.specs.Str.{bytes_eq}
use Rattle.std.specs.String.{string_cmp, string_cmp_total}
use Rattle.std.specs.declared.cmp.Ordering.TheVariants.{Less}
use Rattle.std.specs.declared.string.String.{String}
use Rattle.std.proofs.lemmas.List.Elements.{All-contains, All-contains_itself, All-map, All-weaker}
use Rattle.std.proofs.lemmas.Map.Entries.{btree_map_get_place}
use Rattle.std.proofs.lemmas.Map.Text.{is_eq-slice_cmp}
use Rattle.std.proofs.lemmas.Option.{slice_get-get_or}
use Rattle.tree_io.specs.Path.{IsRising}
use Rattle.package_group.specs.declared.facts.FileFact.{FileFact}
use Rattle.package_group.specs.declared.facts.Package.{Package}
use Rattle.package_group.specs.Groups.{Member, files_of, name_of, places}
use Rattle.package_group.specs.Steps.{ArePlaced, IsByPath, Lent, Placed, is_beside, is_own_at}
use Rattle.package_group.specs.Steps.{members_at, package_of, path_of, placed_by, placed_of, seen}
use Rattle.package_group.proofs.Lists.{All-enumerate_from, bytes_eq-same, filter-map, filter_same}
use Rattle.package_group.proofs.Lists.{is_some-lookup, list_any-contains, list_any-map}
use Rattle.package_group.proofs.Lists.{map-enumerate_from, map-map, map-same}

-- a test of placed files, told by the files with their paths
module _ {A : Type 0} (prefix : List ℕ) (files : List FileFact) (placed : List (String A × Lent))
    (are : ArePlaced prefix files placed) where
  pub filter-placed : (p : Placed → Bool) → map (λ x. x.1) (filter p (map placed_of placed))
      ≡ filter (λ m. p (placed_by prefix m)) (enumerate_from 0 files)
  filter-placed p =
      ap (λ l. map (λ (x : Placed). x.1) (filter p l)) are
      ∙ ap (map (λ (x : Placed). x.1)) (filter-map (placed_by prefix) p (enumerate_from 0 files))
      ∙ map-map (placed_by prefix) (λ (x : Placed). x.1)
      (filter (λ m. p (placed_by prefix m)) (enumerate_from 0 files))
      ∙ map-same _

  -- the files at a path
  pub members-placed : (path : List ℕ) → map seen
      (map (λ p. p.1) (filter (λ p. bytes_eq path (string_bytes p.0)) placed))
      ≡ members_at prefix files path
  members-placed path =
      let p : Placed → Bool = λ x. bytes_eq path x.0 in
      let kept = filter (λ x. bytes_eq path (string_bytes x.0)) placed in
      map-map (λ (x : String A × Lent). x.1) seen kept
      ∙ sym (map-map placed_of (λ (x : Placed). x.1) kept)
      ∙ ap (map (λ (x : Placed). x.1)) (sym (filter-map placed_of p placed))
      ∙ filter-placed p

  -- which paths files have
  pub paths-placed : (path : List ℕ) → list_any (λ p. bytes_eq path (string_bytes p.0)) placed
      ≡ list_any (λ file. bytes_eq path (path_of prefix file)) files
  paths-placed path =
      let p : Placed → Bool = λ x. bytes_eq path x.0 in
      sym (list_any-map placed_of p placed)
      ∙ ap (list_any p) are
      ∙ list_any-map (placed_by prefix) p (enumerate_from 0 files)
      ∙ sym (list_any-map (λ (m : Member). m.1) (λ file. bytes_eq path (path_of prefix file))
      (enumerate_from 0 files))
      ∙ ap (list_any (λ file. bytes_eq path (path_of prefix file))) (map-enumerate_from 0 files)

  -- the places of the files that a test of the path and the file lets through
  pub places-placed : (b : List ℕ → FileFact → Bool)
      → map (λ p. p.1.0) (filter (λ p. b (string_bytes p.0) p.1.1.now) placed)
      ≡ places (filter (λ m. b (path_of prefix m.1) m.1) (enumerate_from 0 files))
  places-placed b =
      let p : Placed → Bool = λ x. b x.0 x.1.1 in
      let kept = filter (λ x. b (string_bytes x.0) x.1.1.now) placed in
      sym (map-map placed_of (λ (x : Placed). x.1.0) kept)
      ∙ ap (map (λ (x : Placed). x.1.0)) (sym (filter-map placed_of p placed))
      ∙ sym (map-map (λ (x : Placed). x.1) (λ (m : Member). m.0) (filter p (map placed_of placed)))
      ∙ ap places (filter-placed p)

all-keys : {A : Type 0} (x : String A) (ks : List (String A))
    → AllByRecursion (λ y. string_cmp x y ≡ Less) ks
    → AllByRecursion (λ y. slice_cmp nat_cmp (string_bytes x) y ≡ Less) (map string_bytes ks)
all-keys x [] below = tt
all-keys x (k ∷ ks) below = (below.0, all-keys x ks below.1)

-- strings in order have their bytes in order
IsRising-strings : {A : Type 0} (ks : List (String A)) → IsStrictlySortedBy string_cmp ks
    → IsRising (map string_bytes ks)
unfolding IsStrictlySortedBy
IsRising-strings [] sorted = tt
IsRising-strings (k ∷ ks) sorted = (all-keys k ks sorted.0, IsRising-strings ks sorted.1)

list_any-entries : {A X : Type 0} (path : List ℕ) (es : List (String A × X))
    → list_any (λ e. is_at (λ k. slice_cmp nat_cmp path (string_bytes k)) e.0) es
    ≡ list_any (λ e. bytes_eq path (string_bytes e.0)) es
list_any-entries path [] = refl
list_any-entries path (e ∷ es) = rw (
  is_eq-slice_cmp path (string_bytes e.0),
  list_any-entries path
      es,
)

-- the packages that the map of files by paths gives
module _ {A B : Type 0} (prefix : List ℕ) (files : List FileFact)
    (folders : BTreeMap (String A) (Vec Lent B)) (ordered : IsOrdered string_cmp folders)
    (members : (path : List ℕ) → map seen (option_map_or (λ (g : Vec Lent B). g.items)
    (get_by_text folders path) []) ≡ members_at prefix files path)
    (paths : (path : List ℕ) → is_some (get_by_text folders path)
    ≡ list_any (λ file. bytes_eq path (path_of prefix file)) files) where
  Entry : Type 0
  Entry = String A × Vec Lent B

  abbrev made : String A × Vec Lent B → Package
  made folder = package_of (string_bytes folder.0) (map seen folder.1.items)

  abbrev IsAtPath : Package → Type 0
  IsAtPath p = p ≡ package_of p.path (members_at prefix files p.path)

  made_at : (e : String A × Vec Lent B) → get_by_text folders (string_bytes e.0) ≡ Some e.1
      → IsAtPath (made e)
  made_at e found =
      ap (package_of (string_bytes e.0)) (ap (λ o. map seen (option_map_or
      (λ (g : Vec Lent B). g.items) o [])) (sym found) ∙ members (string_bytes e.0))

  pub packages-made : All IsAtPath (map made folders.entries)
  packages-made = All-map IsAtPath made folders.entries
      (λ k d below.
      let e = get_or folders.entries k d in
      made_at e (btree_map_get_place string_cmp_total folders k e.0 e.1 ordered
      (slice_get-get_or folders.entries k d below)))

  pub paths-made : (path : List ℕ) → list_any (λ p. bytes_eq path p.path) (map made folders.entries)
      ≡ list_any (λ file. bytes_eq path (path_of prefix file)) files
  paths-made path =
      list_any-map made (λ p. bytes_eq path p.path) folders.entries
      ∙ sym (list_any-entries path folders.entries)
      ∙ sym (is_some-lookup (is_at (λ k. slice_cmp nat_cmp path (string_bytes k))) folders.entries)
      ∙ paths path

  pub rising-made : IsRising (map (λ p. p.path) (map made folders.entries))
  rising-made = subst IsRising (sym (map-map made (λ p. p.path) folders.entries))
      (subst IsRising (map-map (λ (e : String A × Vec Lent B). e.0) string_bytes folders.entries)
      (IsRising-strings (keys folders) ordered))

-- the files next to the packages
module _ (prefix : List ℕ) (files : List FileFact) (packages : List Package)
    (at : All (λ p. p ≡ package_of p.path (members_at prefix files p.path)) packages)
    (paths : (path : List ℕ) → list_any (λ p. bytes_eq path p.path) packages
    ≡ list_any (λ file. bytes_eq path (path_of prefix file)) files) where
  -- the name at a path, by what a look-up found
  pub name_found : (names : Option (List ℕ)) (path : List ℕ) → is_some names
      ≡ list_any (λ p. bytes_eq path p.path) packages
      → IfSome names (λ name. Contains {X = List ℕ × List ℕ}
      (map (λ (p : Package). (p.path, p.name)) packages) (path, name))
      → list_any (λ file. bytes_eq path (path_of prefix file)) files ≡ true → names
      ≡ Some (name_of (files_of (members_at prefix files path)))
  name_found None path known has there = absurd
      (true≢false (sym there ∙ sym (paths path) ∙ sym known))
  name_found (Some name) path known has there =
      let P : List ℕ × List ℕ → Type 0 = λ e. e.1
      ≡ name_of (files_of (members_at prefix files e.0)) in
      let all : All P (map (λ (p : Package). (p.path, p.name)) packages) =
      All-map P (λ (p : Package). (p.path, p.name)) packages
      (All-weaker (λ p. p ≡ package_of p.path (members_at prefix files p.path))
      (λ p. P (p.path, p.name)) (λ p same. ap (λ (q : Package). q.name) same) packages at) in
      ap Some (All-contains P _ (path, name) all has)

  -- the others, where names are looked up
  pub others-found : (b : List ℕ → Option (List ℕ))
      → ((path : List ℕ) → is_some (b path) ≡ list_any (λ p. bytes_eq path p.path) packages)
      → ((path : List ℕ) → IfSome (b path) (λ name. Contains {X = List ℕ × List ℕ}
      (map (λ (p : Package). (p.path, p.name)) packages) (path, name)))
      → filter (λ (m : Member). is_beside (b (path_of prefix m.1)) m.1) (enumerate_from 0 files)
      ≡ filter (λ m. not (is_own_at prefix files m.1)) (enumerate_from 0 files)
  others-found b known has = filter_same (λ (m : Member). is_beside (b (path_of prefix m.1)) m.1)
      (λ m. not (is_own_at prefix files m.1)) (enumerate_from 0 files)
      (All-enumerate_from (λ file. is_beside (b (path_of prefix file)) file
      ≡ not (is_own_at prefix files file)) 0 files
      (All-weaker (Contains files) (λ file. is_beside (b (path_of prefix file)) file ≡ not
      (is_own_at prefix files file))
      (λ file inside. ap (λ name. is_beside name file)
      (name_found (b (path_of prefix file)) (path_of prefix file) (known _) (has _)
      (list_any-contains (λ f. bytes_eq (path_of prefix file) (path_of prefix f)) files file
      inside (bytes_eq-same (path_of prefix file)))))
      files (All-contains_itself files)))

is_some-map : {X Y : Type 0} (f : X → Y) (o : Option X) → is_some (option_map f o) ≡ is_some o
is_some-map f None = refl
is_some-map f (Some x) = refl

IfSome-map : {X Y : Type 0} (f : X → Y) (Q : Y → Type 0) (o : Option X) → IfSome o (λ x. Q (f x))
    → IfSome (option_map f o) Q
IfSome-map f Q None h = tt
IfSome-map f Q (Some x) h = h

-- what the maps say together
pub is_by_path : {A B C D E : Type 0} (prefix : List ℕ) (files : List FileFact)
    (placed : List (String A × Lent)) (folders : BTreeMap (String B) (Vec Lent C))
    (names : BTreeMap (String D) (String E)) (packages : List Package) (others : List ℕ)
    → ArePlaced prefix files placed
    → ((path : List ℕ) → option_map_or (λ (g : Vec Lent C). g.items) (get_by_text folders path) []
    ≡ map (λ p. p.1) (filter (λ p. bytes_eq path (string_bytes p.0)) placed))
    → ((path : List ℕ) → is_some (get_by_text folders path)
    ≡ list_any (λ p. bytes_eq path (string_bytes p.0)) placed)
    → IsOrdered string_cmp folders
    → packages ≡ map (λ folder. package_of (string_bytes folder.0) (map seen folder.1.items))
    folders.entries
    → ((path : List ℕ) → is_some (get_by_text names path)
    ≡ list_any (λ p. bytes_eq path p.path) packages)
    → ((path : List ℕ) → IfSome (get_by_text names path)
    (λ name. Contains {X = List ℕ × List ℕ} (map (λ (p : Package). (p.path, p.name)) packages)
    (path, string_bytes name)))
    → others ≡ map (λ p. p.1.0) (filter (λ p. is_beside (option_map string_bytes
    (get_by_text names (string_bytes p.0))) p.1.1.now) placed)
    → IsByPath prefix files (record { packages = packages; others = others })
is_by_path {A} {B} {C} {D} {E} prefix files placed folders names packages others are members paths
    ordered made_is known has others_is =
    let members' = λ (path : List ℕ). ap (map seen) (members path)
    ∙ members-placed prefix files placed are path in
    let paths' = λ (path : List ℕ). paths path ∙ paths-placed prefix files placed are path in
    let at = subst (All (λ (p : Package). p ≡ package_of p.path (members_at prefix files p.path)))
    (sym made_is) (packages-made prefix files folders ordered members' paths') in
    let all_paths = λ (path : List ℕ). ap (list_any (λ (p : Package). bytes_eq path p.path)) made_is
    ∙ paths-made prefix files folders ordered members' paths' path in
    let b : List ℕ → Option (List ℕ) = λ path. option_map string_bytes (get_by_text names path) in
    let rest = others-found prefix files packages at all_paths b
    (λ path. is_some-map string_bytes (get_by_text names path) ∙ known path)
    (λ path. IfSome-map string_bytes (λ name. Contains {X = List ℕ × List ℕ}
    (map (λ (p : Package). (p.path, p.name)) packages) (path, name)) (get_by_text names path)
    (has path)) in
    record {
      packages = at;
      paths = all_paths;
      rising = subst (λ (l : List Package). IsRising (map (λ p. p.path) l)) (sym made_is)
          (rising-made prefix files folders ordered members' paths');
      others = others_is ∙ places-placed prefix files placed are
          (λ path file. is_beside (b path) file) ∙ ap places rest;
    }
