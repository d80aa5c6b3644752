-- Cited by public clauses. What the name of a type leads to (The Go Programming Language
-- Specification, "Declarations and scope", "Predeclared identifiers", "Import declarations" and
-- "Qualified identifiers"). What is outside, and the local name of a plain import of a package that
-- is not at hand, are the project's own.
use Rattle.std.specs.Prelude.{ℕ, ◌==◌, Bool, ◌&&◌, nat_lt, drop, slice_index, if◌then◌else◌, List}
use Rattle.std.specs.Prelude.{[], ◌∷◌, ◌++◌, Option, length, map, codes}
use Rattle.std.specs.List.{find, list_all, position_from, slice_get}
use Rattle.std.specs.Option.{option_map_or}
use Rattle.std.specs.Path.{dot, slash, rsplit_once}
use Rattle.std.specs.Str.{bytes_eq}
use Rattle.name_scope.specs.declared.packages.Import.{Import}
use Rattle.name_scope.specs.declared.packages.Imports.{Imports}
use Rattle.name_scope.specs.declared.packages.NamedPackage.{NamedPackage}
use Rattle.name_scope.specs.declared.packages.Target.{Target}
use Rattle.name_scope.specs.declared.packages.Target.TheVariants.{Declared, Predeclared, Outside}

-- the first place of a name in a list
abbrev pub first_place : List ℕ → List (List ℕ) → Option ℕ
first_place name names = position_from (bytes_eq name) 0 names

-- the predeclared types, by their numbers
unfoldable pub predeclared : List (List ℕ)
predeclared =
    codes "any" ∷ codes "bool" ∷ codes "byte" ∷ codes "comparable" ∷ codes "complex64"
    ∷ codes "complex128" ∷ codes "error" ∷ codes "float32" ∷ codes "float64" ∷ codes "int"
    ∷ codes "int8" ∷ codes "int16" ∷ codes "int32" ∷ codes "int64" ∷ codes "rune"
    ∷ codes "string" ∷ codes "uint" ∷ codes "uint8" ∷ codes "uint16" ∷ codes "uint32"
    ∷ codes "uint64" ∷ codes "uintptr" ∷ []

-- a version: `v` and one or more digits of ASCII
abbrev pub is_digit : ℕ → Bool
is_digit b = nat_lt 47 b && nat_lt b 58

abbrev pub is_version : List ℕ → Bool
is_version text =
    nat_lt 1 (length text) && (slice_index text 0 == 118 && list_all is_digit (drop 1 text))

-- the last segment of a path
abbrev pub last_segment : List ℕ → List ℕ
last_segment path = option_map_or (λ split. split.1) (rsplit_once slash path) path

-- the segment that names a path: the last, and the one before it where the last is a version
abbrev pub name_segment : List ℕ → List ℕ
name_segment path = option_map_or
    (λ split. if is_version split.1 then last_segment split.0 else split.1)
    (rsplit_once slash path) path

-- a segment without a `.` and a version at its end
abbrev pub without_version : List ℕ → List ℕ
without_version segment = option_map_or
    (λ split. if is_version split.1 then split.0 else segment) (rsplit_once dot segment) segment

-- a package with a path
abbrev pub package_at : List NamedPackage → List ℕ → Option NamedPackage
package_at packages path = find (λ p. bytes_eq path p.path) packages

-- the local name of an import: the one that is written; none for a dot import; else the name of the
-- package, and where that is not at hand the name that its path gives
abbrev pub local_name : List NamedPackage → Import → List ℕ
local_name packages import =
    if bytes_eq import.local (codes ".") then []
    else (if length import.local == 0
    then option_map_or (λ p. p.name) (package_at packages import.path)
    (without_version (name_segment import.path))
    else import.local)

-- the parts of a package by its place, and the imports of a file of it; past the end there are none
abbrev pub path_of : List NamedPackage → ℕ → List ℕ
path_of packages home = option_map_or (λ p. p.path) (slice_get packages home) []

abbrev pub types_of : List NamedPackage → ℕ → List (List ℕ)
types_of packages home = option_map_or (λ p. p.types) (slice_get packages home) []

abbrev pub files_of : List NamedPackage → ℕ → List Imports
files_of packages home = option_map_or (λ p. p.files) (slice_get packages home) []

abbrev pub imports_of : List NamedPackage → ℕ → ℕ → List Import
imports_of packages home file =
    option_map_or (λ imports. imports.list) (slice_get (files_of packages home) file) []

-- the first type of a package with a name, or else another target
abbrev pub type_or : List NamedPackage → ℕ → List ℕ → Target → Target
type_or packages home name other =
    option_map_or (λ index. Declared home index) (first_place name (types_of packages home)) other

-- a name alone: a type of its package, a predeclared type, or one outside under that package's path
abbrev pub unqualified : List NamedPackage → ℕ → List ℕ → Target
unqualified packages home name =
    type_or packages home name
    (option_map_or Predeclared (first_place name predeclared)
    (Outside (path_of packages home) name))

-- a name in the package with a path
abbrev pub in_path : List NamedPackage → List ℕ → List ℕ → Target
in_path packages path name =
    option_map_or (λ home. type_or packages home name (Outside path name))
    (first_place path (map (λ p. p.path) packages)) (Outside path name)

-- a name after a qualifier: in the package of the first import with that local name
abbrev pub qualified : List NamedPackage → ℕ → ℕ → List ℕ → List ℕ → Target
qualified packages home file qualifier name =
    option_map_or (λ import. in_path packages import.path name)
    (find (λ import. bytes_eq qualifier (local_name packages import))
    (imports_of packages home file))
    (Outside (codes "?" ++ qualifier) name)

-- what a name of a file leads to; an empty qualifier is none
abbrev pub target_of : List NamedPackage → ℕ → ℕ → List ℕ → List ℕ → Target
target_of packages home file qualifier name =
    if length qualifier == 0 then unqualified packages home name
    else qualified packages home file qualifier name
