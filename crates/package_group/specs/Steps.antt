-- Cited by private clauses and proofs. Files and packages as the maps of the code hold them, which
-- go by the paths of packages.
use Rattle.std.specs.Prelude.{◌≡◌, ℕ, Bool, false, not, ◌&&◌, Option, Some, None, List, [], filter}
use Rattle.std.specs.Prelude.{map, string_bytes, All}
use Rattle.std.specs.Borrow.{Bor}
use Rattle.std.specs.List.{enumerate_from, list_any, slice_get}
use Rattle.std.specs.Option.{option_map_or}
use Rattle.std.specs.Str.{bytes_eq}
use Rattle.std.specs.declared.string.String.{String}
use Rattle.tree_io.specs.Path.{IsRising}
use Rattle.package_group.specs.declared.facts.FileFact.{FileFact}
use Rattle.package_group.specs.declared.facts.Grouped.{Grouped}
use Rattle.package_group.specs.declared.facts.Package.{Package}
use Rattle.package_group.specs.Groups.{Member, files_of, folder_of, has_name, import_path, name_of}
use Rattle.package_group.specs.Groups.{places}

-- the path of the package in the folder of a file
abbrev pub path_of : List ℕ → FileFact → List ℕ
path_of prefix file = import_path prefix (folder_of file.path)

-- the package with this path that files of one folder make up: those that have its name
abbrev pub package_of : List ℕ → List Member → Package
package_of path members =
    let name = name_of (files_of members) in
    record {
      path = path;
      dir = option_map_or (λ member. folder_of member.1.path) (slice_get members 0) [];
      name = name;
      files = places (filter (λ member. has_name name member.1 && not member.1.test) members);
      tests = places (filter (λ member. has_name name member.1 && member.1.test) members);
    }

-- the files whose package has a path, each with its place
abbrev pub members_at : List ℕ → List FileFact → List ℕ → List Member
members_at prefix files path =
    filter (λ member. bytes_eq path (path_of prefix member.1)) (enumerate_from 0 files)

-- a file that has the name of the package with the path that its folder gives
abbrev pub is_own_at : List ℕ → List FileFact → FileFact → Bool
is_own_at prefix files file =
    has_name (name_of (files_of (members_at prefix files (path_of prefix file)))) file

-- the packages that files make up, one for each path that the folder of a file has
pub record IsByPath (prefix : List ℕ) (files : List FileFact) (grouped : Grouped) : Type 0 where
  pub packages : All (λ p. p
      ≡ package_of p.path (members_at prefix files p.path)) grouped.packages
  pub paths : (path : List ℕ) → list_any (λ p. bytes_eq path p.path) grouped.packages
      ≡ list_any (λ file. bytes_eq path (path_of prefix file)) files
  pub rising : IsRising (map (λ p. p.path) grouped.packages)
  pub others : grouped.others
      ≡ places (filter (λ member. not (is_own_at prefix files member.1)) (enumerate_from 0 files))

-- a file that is lent, with its place
abbrev pub Lent : Type 0
Lent = ℕ × Bor FileFact

abbrev pub seen : Lent → Member
seen member = (member.0, member.1.now)

-- a file with the path of its package
abbrev pub Placed : Type 0
Placed = List ℕ × Member

abbrev pub placed_of : {A : Type 0} → String A × Lent → Placed
placed_of p = (string_bytes p.0, seen p.1)

abbrev pub placed_by : List ℕ → Member → Placed
placed_by prefix member = (path_of prefix member.1, member)

-- the files, each with its place and the path of its package
abbrev pub ArePlaced : {A : Type 0} → List ℕ → List FileFact → List (String A × Lent) → Type 0
ArePlaced prefix files placed =
    map placed_of placed ≡ map (placed_by prefix) (enumerate_from 0 files)

-- a file that does not belong to the package with this name
abbrev pub is_beside : Option (List ℕ) → FileFact → Bool
is_beside None file = false
is_beside (Some name) file = not (has_name name file)
