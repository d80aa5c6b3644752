-- Cited by public clauses. The packages that files make up. The project's own, after The Go
-- Programming Language Specification, "Packages", and the documentation of `go test` on test files
-- and on names that end in `_test`.
use Rattle.std.specs.Prelude.{◌≡◌, ℕ, ◌-◌, ◌==◌, Bool, ◌&&◌, ◌||◌, not, nat_lt, if◌then◌else◌, List}
use Rattle.std.specs.Prelude.{[], ◌∷◌, ◌++◌, length, take, map, filter, All, codes, nat_eq}
use Rattle.std.specs.List.{ends_with, enumerate_from, find, list_any, slice_get}
use Rattle.std.specs.Option.{option_map_or}
use Rattle.std.specs.Path.{slash, rsplit_once}
use Rattle.std.specs.Str.{bytes_eq}
use Rattle.tree_io.specs.Path.{IsRising}
use Rattle.package_group.specs.declared.facts.FileFact.{FileFact}
use Rattle.package_group.specs.declared.facts.Package.{Package}
use Rattle.package_group.specs.declared.facts.Grouped.{Grouped}

-- the folder of a file: what stands before the last `/` of its path; the root's is empty
abbrev pub folder_of : List ℕ → List ℕ
folder_of path = option_map_or (λ split. split.0) (rsplit_once slash path) []

-- the path of the package in the root: the prefix, and `_` where there is none
abbrev pub root_path : List ℕ → List ℕ
root_path prefix = if length prefix == 0 then codes "_" else prefix

-- the path of the package in a folder: the folder, with the prefix and `/` before it
abbrev pub folder_path : List ℕ → List ℕ → List ℕ
folder_path prefix folder = if length prefix == 0 then folder else prefix ++ slash ∷ folder

abbrev pub import_path : List ℕ → List ℕ → List ℕ
import_path prefix folder =
    if length folder == 0 then root_path prefix else folder_path prefix folder

-- a name without a final `_test`, where something stands before that
unfoldable pub without_test : List ℕ → List ℕ
without_test name =
    if nat_lt 5 (length name) && ends_with nat_eq name (codes "_test")
    then take (length name - 5) name else name

-- the name of the package that these files of one folder make up: that of the first file that is no
-- test file, else that of the first file without a final `_test`
unfoldable pub name_of : List FileFact → List ℕ
name_of files =
    option_map_or (λ file. file.name) (find (λ file. not file.test) files)
    (option_map_or (λ file. without_test file.name) (slice_get files 0) [])

-- a file belongs to the package with this name in its folder: it has the name, or is a test file
-- that has it with `_test` added
abbrev pub has_name : List ℕ → FileFact → Bool
has_name name file =
    bytes_eq file.name name || (file.test && bytes_eq file.name (name ++ codes "_test"))

-- a file with its place in the list of all
abbrev pub Member : Type 0
Member = ℕ × FileFact

-- the places of files
abbrev pub places : List Member → List ℕ
places members = map (λ member. member.0) members

-- the files alone
abbrev pub files_of : List Member → List FileFact
files_of members = map (λ member. member.1) members

-- the files of a folder, each with its place in the list of all
abbrev pub members_in : List FileFact → List ℕ → List Member
members_in files folder =
    filter (λ member. bytes_eq folder (folder_of member.1.path)) (enumerate_from 0 files)

-- the package in a folder: the files of the folder that have its name
abbrev pub package_in : List ℕ → List FileFact → List ℕ → Package
package_in prefix files folder =
    let members = members_in files folder in
    let name = name_of (files_of members) in
    record {
      path = import_path prefix folder;
      dir = folder;
      name = name;
      files = places (filter (λ member. has_name name member.1 && not member.1.test) members);
      tests = places (filter (λ member. has_name name member.1 && member.1.test) members);
    }

-- a file that has the name of the package in its folder
abbrev pub is_own : List FileFact → FileFact → Bool
is_own files file = has_name (name_of (files_of (members_in files (folder_of file.path)))) file

-- the files make up these packages: one in each folder of a file, rising by the bytes of their
-- paths; the others are the files next to a package of another name
pub record IsGrouping (prefix : List ℕ) (files : List FileFact) (grouped : Grouped) : Type 0 where
  pub packages : All (λ p. p ≡ package_in prefix files p.dir) grouped.packages
  pub folders : (folder : List ℕ) → list_any (λ p. bytes_eq folder p.dir) grouped.packages
      ≡ list_any (λ file. bytes_eq folder (folder_of file.path)) files
  pub rising : IsRising (map (λ p. p.path) grouped.packages)
  pub others : grouped.others
      ≡ places (filter (λ member. not (is_own files member.1)) (enumerate_from 0 files))
