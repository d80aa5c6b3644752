-- Cited by private clauses and proofs. The maps in which names are looked up, which the invariant
-- of a `World` speaks of.
use Rattle.std.specs.Prelude.{◌≡◌, ℕ, ◌<◌, ◌^◌, List, All, length, map}
use Rattle.std.specs.BTreeMap.{BTreeMap, get_by_text}
use Rattle.std.specs.List.{AllZip}
use Rattle.std.specs.declared.string.String.{String}
use Rattle.name_scope.specs.declared.packages.Imports.{Imports}
use Rattle.name_scope.specs.declared.packages.NamedPackage.{NamedPackage}
use Rattle.name_scope.specs.declared.tables.PackageTables.{PackageTables}
use Rattle.name_scope.specs.Scopes.{first_place, local_name}

-- a map from names to their first places in a list
abbrev pub IsIndex : {A : Type 0} → BTreeMap (String A) ℕ → List (List ℕ) → Type 0
IsIndex places names = (name : List ℕ) → get_by_text places name ≡ first_place name names

-- the map of the imports of a file, by their local names
abbrev pub IndexesImports : {A : Type 0} → List NamedPackage → Imports → BTreeMap (String A) ℕ
    → Type 0
IndexesImports packages imports places = IsIndex places (map (local_name packages) imports.list)

-- the tables of a package: its types by their names, and the imports of each of its files
pub record AreTables (packages : List NamedPackage) (p : NamedPackage)
    (tables : PackageTables) : Type 0 where
  pub types : IsIndex tables.types p.types
  pub files : AllZip (IndexesImports packages) p.files tables.files.items

-- the tables of a world: its packages by their paths, and the tables of each; the places of
-- packages and of types are numbers of 32 bits
pub record IsWorld {A : Type 0} (packages : List NamedPackage) (paths : BTreeMap (String A) ℕ)
    (tables : List PackageTables) : Type 0 where
  pub by_path : IsIndex paths (map (λ p. p.path) packages)
  pub by_package : AllZip (AreTables packages) packages tables
  pub few : length packages < 2 ^ 32
  pub few_types : All (λ p. length p.types < 2 ^ 32) packages
