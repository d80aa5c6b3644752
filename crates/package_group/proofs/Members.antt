-- The files of one package, as they are lent.
use Rattle.std.proofs.Common.{◌≡◌, ℕ, ◌+◌, ◌<◌, ◌≤◌, Bool, true, false, cond, not, Bor, List, []}
use Rattle.std.proofs.Common.{◌∷◌, Option, Some, None, map, get_or, drop, length, refl, sym, ap}
use Rattle.std.proofs.Common.{◌∙◌}
use Rattle.std.specs.Prelude.{◌&&◌, filter}
use Rattle.std.specs.List.{find, slice_get}
use Rattle.std.specs.Option.{option_copied, option_map, option_map_or}
use Rattle.std.proofs.lemmas.List.{drop_all}
use Rattle.package_group.specs.declared.facts.FileFact.{FileFact}
use Rattle.package_group.specs.Groups.{Member, files_of, folder_of, has_name, name_of, places}
use Rattle.package_group.specs.Groups.{without_test}
use Rattle.package_group.specs.Steps.{Lent, package_of, seen}
use Rattle.package_group.proofs.Lists.{filter-map, find-drop, map-map}

abbrev pub lent_files : List Lent → List FileFact
lent_files members = map (λ (member : Lent). member.1.now) members

abbrev pub is_plain : FileFact → Bool
is_plain file = not file.test

-- the name where a file that is no test file was found
pub name_of-found : (members : List Lent) (i : ℕ) (d : Lent) → i < length members
    → find is_plain (lent_files members) ≡ find is_plain (lent_files (drop i members))
    → d ≡ get_or members i d → d.1.now.test ≡ false → d.1.now.name ≡ name_of (lent_files members)
unfolding name_of
name_of-found members i d below so_far here plain =
    let named : Option FileFact → List ℕ = λ o. option_map_or (λ file. file.name) o
    (option_map_or (λ file. without_test file.name) (slice_get (lent_files members) 0) []) in
    let passes : is_plain (get_or members i d).1.now
    ≡ true = ap (λ (m : Lent). is_plain m.1.now) (sym here) ∙ ap not plain in
    let found = so_far ∙ find-drop (λ (m : Lent). m.1.now) is_plain members i d below
    ∙ ap (λ b. cond b (Some (get_or members i d).1.now)
    (find is_plain (lent_files (drop (i + 1) members)))) passes in
    sym (ap named found ∙ ap (λ (m : Lent). m.1.now.name) (sym here))

-- the name where there was none
pub name_of-first : (members : List Lent) (i : ℕ) → length members ≤ i
    → find is_plain (lent_files members) ≡ find is_plain (lent_files (drop i members))
    → option_map_or (λ file. without_test file.name) (slice_get (lent_files members) 0) []
    ≡ name_of (lent_files members)
unfolding name_of
name_of-first members i past so_far =
    let named : Option FileFact → List ℕ = λ o. option_map_or (λ file. file.name) o
    (option_map_or (λ file. without_test file.name) (slice_get (lent_files members) 0) []) in
    sym (ap named (so_far ∙ ap (λ l. find is_plain (lent_files l)) (drop_all i members past)))

first_of : (members : List Lent) → slice_get (lent_files members) 0
    ≡ option_map (λ (m : Lent). m.1.now) (slice_get members 0)
first_of [] = refl
first_of (m ∷ ms) = refl

-- the first file, where it is there and where it isn't
pub name_of-some : (members : List Lent) (i : ℕ) (r : Option (Bor Lent)) (m : Bor Lent)
    → length members ≤ i → find is_plain (lent_files members)
    ≡ find is_plain (lent_files (drop i members))
    → option_copied r ≡ slice_get members 0 → r ≡ Some m → without_test m.now.1.now.name
    ≡ name_of (lent_files members)
name_of-some members i r m past so_far first is =
    let got : slice_get members 0 ≡ Some m.now = sym first ∙ ap option_copied is in
    ap (λ o. option_map_or (λ file. without_test file.name) o [])
    (sym (first_of members ∙ ap (option_map (λ (x : Lent). x.1.now)) got))
    ∙ name_of-first members i past so_far

pub name_of-none : (members : List Lent) (i : ℕ) (r : Option (Bor Lent)) → length members ≤ i
    → find is_plain (lent_files members) ≡ find is_plain (lent_files (drop i members))
    → option_copied r ≡ slice_get members 0 → r ≡ None → [] ≡ name_of (lent_files members)
name_of-none members i r past so_far first is =
    let got : slice_get members 0 ≡ None = sym first ∙ ap option_copied is in
    ap (λ o. option_map_or (λ file. without_test file.name) o [])
    (sym (first_of members ∙ ap (option_map (λ (x : Lent). x.1.now)) got))
    ∙ name_of-first members i past so_far

dir_seen : (members : List Lent) → option_map_or (λ (m : Lent). folder_of m.1.now.path)
    (slice_get members 0) [] ≡ option_map_or (λ (m : Member). folder_of m.1.path)
    (slice_get (map seen members) 0) []
dir_seen [] = refl
dir_seen (m ∷ ms) = refl

places_seen : (p : FileFact → Bool) (members : List Lent)
    → map (λ (m : Lent). m.0) (filter (λ m. p m.1.now) members)
    ≡ places (filter (λ m. p m.1) (map seen members))
places_seen p members =
    sym (map-map seen (λ (m : Member). m.0) (filter (λ m. p m.1.now) members))
    ∙ ap places (sym (filter-map seen (λ m. p m.1) members))

-- the package that these files make up, part by part
pub package_seen : (path dir name : List ℕ) (files tests : List ℕ) (members : List Lent)
    → dir ≡ option_map_or (λ (m : Lent). folder_of m.1.now.path) (slice_get members 0) []
    → name ≡ name_of (lent_files members)
    → files ≡ map (λ (m : Lent). m.0) (filter (λ m. has_name name m.1.now && not m.1.now.test)
    members)
    → tests ≡ map (λ (m : Lent). m.0) (filter (λ m. has_name name m.1.now && m.1.now.test) members)
    → record { path = path; dir = dir; name = name; files = files; tests = tests }
    ≡ package_of path (map seen members)
package_seen path dir name files tests members is_dir is_name is_files is_tests =
    let same_name : name ≡ name_of (files_of (map seen members)) = is_name
    ∙ ap name_of (sym (map-map seen (λ (m : Member). m.1) members)) in
    let same_files = is_files ∙ places_seen (λ file. has_name name file && not file.test) members
    ∙ ap (λ n. places (filter (λ m. has_name n m.1 && not m.1.test) (map seen members)))
    same_name in
    let same_tests = is_tests ∙ places_seen (λ file. has_name name file && file.test) members
    ∙ ap (λ n. places (filter (λ m. has_name n m.1 && m.1.test) (map seen members))) same_name
    in
    let same_dir = is_dir ∙ dir_seen members in
    λ i. record {
      path = path;
      dir = same_dir i;
      name = same_name i;
      files = same_files i;
      tests =
          same_tests i;
    }
