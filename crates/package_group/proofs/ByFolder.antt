-- Packages by their paths are packages by their folders, where the paths of files belong.
use Rattle.std.proofs.Common.{◌≡◌, ℕ, Bool, true, false, cond, not, List, [], ◌∷◌, All, refl, sym}
use Rattle.std.proofs.Common.{ap, ◌∙◌, true≢false}
use Rattle.std.specs.Prelude.{◌||◌, filter, Contains}
use Rattle.std.specs.List.{enumerate_from, list_any, slice_get}
use Rattle.std.specs.Option.{option_map_or}
use Rattle.std.specs.Str.{bytes_eq}
use Rattle.std.proofs.lemmas.Bool.Decides.{same_from_decides}
use Rattle.std.proofs.lemmas.List.Elements.{All-contains, All-contains_itself, All-weaker}
use Rattle.std.proofs.lemmas.List.Folds.{Any-from_list_any}
use Rattle.std.proofs.lemmas.Slice.Eq.{bytes_eq-Decides}
use Rattle.tree_io.specs.Path.{Belongs}
use Rattle.package_group.specs.declared.facts.FileFact.{FileFact}
use Rattle.package_group.specs.declared.facts.Grouped.{Grouped}
use Rattle.package_group.specs.declared.facts.Package.{Package}
use Rattle.package_group.specs.Groups.{IsGrouping, Member, files_of, folder_of, has_name}
use Rattle.package_group.specs.Groups.{import_path, is_own, members_in, name_of, package_in, places}
use Rattle.package_group.specs.Steps.{IsByPath, is_own_at, members_at, package_of, path_of}
use Rattle.package_group.proofs.FolderPaths.{IsNamed, named, same_folder, same_test}
use Rattle.package_group.proofs.Lists.{All-enumerate_from, bytes_eq-same, filter_same}
use Rattle.package_group.proofs.Lists.{list_any-contains, list_any-map, map-enumerate_from}

abbrev dir_of : List Member → List ℕ
dir_of members = option_map_or (λ (m : Member). folder_of m.1.path) (slice_get members 0) []

abbrev is_in : List ℕ → Member → Bool
is_in folder member = bytes_eq folder (folder_of member.1.path)

-- the first file of a folder is of that folder
dir_of-filter : (folder : List ℕ) (members : List Member) → list_any (is_in folder) members ≡ true
    → dir_of (filter (is_in folder) members) ≡ folder
dir_of-filter folder [] some = absurd (true≢false (sym some))
dir_of-filter folder (m ∷ ms) some =
    elim (is_in folder m) as (λ b. is_in folder m ≡ b → (b || list_any (is_in folder) ms) ≡ true →
    dir_of (cond b (m ∷ filter (is_in folder) ms) (filter (is_in folder) ms)) ≡ folder) [
      | true ↦ λ here _. sym ((bytes_eq-Decides folder (folder_of m.1.path)).0 here)
      | false ↦ λ _ later. dir_of-filter folder ms later
    ] refl some

-- a package that is that of its folder, in which there is a file
record IsInFolder (prefix : List ℕ) (files : List FileFact) (p : Package) : Type 0 where
  file : FileFact
  inside : Contains files file
  dir : p.dir ≡ folder_of file.path
  is : p ≡ package_in prefix files p.dir

module _ (prefix : List ℕ) (files : List FileFact) (belong : All (λ file. Belongs file.path) files)
  where
    named_all : All (λ (file : FileFact). IsNamed (folder_of file.path)) files
    named_all = All-weaker (λ (file : FileFact). Belongs file.path)
        (λ (file : FileFact). IsNamed (folder_of file.path)) (λ file is. named file.path is) files
        belong

    named_one : (file : FileFact) → Contains files file → IsNamed (folder_of file.path)
    named_one file inside = All-contains (λ (f : FileFact). IsNamed (folder_of f.path)) files file
        named_all inside

    members_same : (folder : List ℕ) → IsNamed folder
        → members_at prefix files (import_path prefix folder) ≡ members_in files folder
    members_same folder is =
        let P : FileFact → Type 0 = λ file. bytes_eq (import_path prefix folder) (path_of prefix file)
        ≡ bytes_eq folder (folder_of file.path) in
        filter_same (λ (m : Member). bytes_eq (import_path prefix folder) (path_of prefix m.1))
        (is_in folder) (enumerate_from 0 files)
        (All-enumerate_from P 0 files (All-weaker (λ (file : FileFact). IsNamed (folder_of file.path))
        P (λ file n. same_test prefix folder (folder_of file.path) is n) files named_all))

    own_same : (file : FileFact) → IsNamed (folder_of file.path) → not (is_own_at prefix files file)
        ≡ not (is_own files file)
    own_same file is = ap (λ members. not (has_name (name_of (files_of members)) file))
        (members_same (folder_of file.path) is)

    others_same : filter (λ (m : Member). not (is_own_at prefix files m.1)) (enumerate_from 0 files)
        ≡ filter (λ (m : Member). not (is_own files m.1)) (enumerate_from 0 files)
    others_same =
        let P : FileFact → Type 0 = λ file. not (is_own_at prefix files file)
        ≡ not (is_own files file) in
        filter_same (λ (m : Member). not (is_own_at prefix files m.1))
        (λ (m : Member). not (is_own files m.1)) (enumerate_from 0 files)
        (All-enumerate_from P 0 files (All-weaker (λ (file : FileFact). IsNamed (folder_of file.path))
        P own_same files named_all))

    some_in : (file : FileFact) → Contains files file
        → list_any (is_in (folder_of file.path)) (enumerate_from 0 files) ≡ true
    some_in file inside =
        let test : FileFact → Bool = λ f. bytes_eq (folder_of file.path) (folder_of f.path) in
        sym (list_any-map (λ (m : Member). m.1) test (enumerate_from 0 files))
        ∙ ap (list_any test) (map-enumerate_from 0 files)
        ∙ list_any-contains test files file inside (bytes_eq-same (folder_of file.path))

    in_folder_of : (p : Package) (file : FileFact) → Contains files file → p
        ≡ package_of p.path (members_at prefix files p.path) → p.path ≡ path_of prefix file
        → IsInFolder prefix files p
    in_folder_of p file inside at path =
        let folder = folder_of file.path in
        let members : members_at prefix files p.path
        ≡ members_in files folder = ap (members_at prefix files) path
        ∙ members_same folder (named_one file inside) in
        let first : dir_of (members_in files folder)
        ≡ folder = dir_of-filter folder (enumerate_from 0 files) (some_in file inside) in
        let dir : p.dir ≡ folder = ap (λ (q : Package). q.dir) at ∙ ap dir_of members ∙ first in
        let with_dir : List ℕ → Package = λ d. record (package_in prefix files folder) { dir = d } in
        let whole : p ≡ package_in prefix files folder = at ∙ (λ i. package_of (path i) (members i))
        ∙ ap with_dir first in
        record {
          file = file;
          inside = inside;
          dir = dir;
          is = whole
              ∙ ap (package_in prefix files) (sym dir);
        }

    module _ (packages : List Package) (at : All (λ p. p ≡ package_of p.path
        (members_at prefix files p.path)) packages)
        (paths : (path : List ℕ) → list_any (λ p. bytes_eq path p.path) packages
        ≡ list_any (λ file. bytes_eq path (path_of prefix file)) files) where
      in_folder : (p : Package) → Contains packages p → IsInFolder prefix files p
      in_folder p inside =
          let here = list_any-contains (λ (q : Package). bytes_eq p.path q.path) packages p inside
          (bytes_eq-same p.path) in
          let some = Any-from_list_any (λ (file : FileFact). bytes_eq p.path (path_of prefix file))
          files (sym (paths p.path) ∙ here) in
          in_folder_of p some.1 (some.0, some.2, some.3)
          (All-contains (λ (q : Package). q ≡ package_of q.path (members_at prefix files q.path))
          packages p at inside)
          ((bytes_eq-Decides p.path (path_of prefix some.1)).0 some.4)

      all_in_folders : All (λ p. p ≡ package_in prefix files p.dir) packages
      all_in_folders = All-weaker (Contains packages) (λ p. p ≡ package_in prefix files p.dir)
          (λ p inside. (in_folder p inside).is) packages (All-contains_itself packages)

      abbrev has_package : List ℕ → Bool
      has_package folder = list_any (λ (p : Package). bytes_eq folder p.dir) packages

      abbrev has_file : List ℕ → Bool
      has_file folder = list_any (λ (file : FileFact). bytes_eq folder (folder_of file.path)) files

      file_from_package : (folder : List ℕ) → has_package folder ≡ true → has_file folder ≡ true
      file_from_package folder found =
          let some = Any-from_list_any (λ (p : Package). bytes_eq folder p.dir) packages found in
          let in' = in_folder some.1 (some.0, some.2, some.3) in
          let same = (bytes_eq-Decides folder some.1.dir).0 some.4 ∙ in'.dir in
          list_any-contains (λ (file : FileFact). bytes_eq folder (folder_of file.path)) files
          in'.file in'.inside ((bytes_eq-Decides folder (folder_of in'.file.path)).1 same)

      package_from_file : (folder : List ℕ) → has_file folder ≡ true → has_package folder ≡ true
      package_from_file folder found =
          let some = Any-from_list_any (λ (file : FileFact). bytes_eq folder (folder_of file.path))
          files found in
          let file = some.1 in
          let inside : Contains files file = (some.0, some.2, some.3) in
          let here = list_any-contains (λ (f : FileFact). bytes_eq (path_of prefix file)
          (path_of prefix f)) files file inside (bytes_eq-same (path_of prefix file)) in
          let made = Any-from_list_any (λ (p : Package). bytes_eq (path_of prefix file) p.path)
          packages (paths (path_of prefix file) ∙ here) in
          let p = made.1 in
          let in' = in_folder p (made.0, made.2, made.3) in
          let path : import_path prefix (folder_of file.path)
          ≡ import_path prefix (folder_of in'.file.path)
          = (bytes_eq-Decides (path_of prefix file) p.path).0 made.4
          ∙ ap (λ (q : Package). q.path) in'.is ∙ ap (import_path prefix) in'.dir in
          let same = (bytes_eq-Decides folder (folder_of file.path)).0 some.4
          ∙ same_folder prefix (folder_of file.path) (folder_of in'.file.path) (named_one file inside)
          (named_one in'.file in'.inside) path ∙ sym in'.dir in
          list_any-contains (λ (q : Package). bytes_eq folder q.dir) packages p
          (made.0, made.2, made.3) ((bytes_eq-Decides folder p.dir).1 same)

      folders_same : (folder : List ℕ) → has_package folder ≡ has_file folder
      folders_same folder = same_from_decides (has_package folder) (has_file folder) (λ e. e, λ e. e)
          (package_from_file folder, file_from_package folder)

    pub by_folder : (grouped : Grouped) → IsByPath prefix files grouped
        → IsGrouping prefix files grouped
    by_folder grouped is = record {
      packages = all_in_folders grouped.packages is.packages is.paths;
      folders = folders_same grouped.packages is.packages is.paths;
      rising = is.rising;
      others = is.others ∙ ap places others_same;
    }
