-- Look-ups in the tables of a world.
use Rattle.std.proofs.Common.{◌≡◌, ℕ, zero, suc, ◌<◌, ◌^◌, List, [], ◌∷◌, Option, Some, None, All}
use Rattle.std.proofs.Common.{map, length, sym, ap, ◌∙◌, lit<}
use Rattle.std.specs.Global.{Global}
use Rattle.std.specs.BTreeMap.{BTreeMap, get_by_text}
use Rattle.std.specs.List.{AllZip, slice_get}
use Rattle.std.specs.Option.{option_map_or}
use Rattle.std.specs.declared.string.String.{String}
use Rattle.std.proofs.lemmas.List.Elements.{All-head, All-tail}
use Rattle.name_scope.specs.declared.packages.Imports.{Imports}
use Rattle.name_scope.specs.declared.packages.NamedPackage.{NamedPackage}
use Rattle.name_scope.specs.declared.tables.PackageTables.{PackageTables}
use Rattle.name_scope.specs.Scopes.{first_place, imports_of, local_name, types_of}
use Rattle.name_scope.specs.Tables.{AreTables, IndexesImports}
use Rattle.name_scope.proofs.Lists.{AllZip-at, AllZip-past}

types_at : (packages : List NamedPackage) (k : ℕ) (o : Option NamedPackage)
    → slice_get packages k ≡ o → types_of packages k ≡ option_map_or (λ p. p.types) o []
types_at packages k o at = ap (λ o. option_map_or (λ (p : NamedPackage). p.types) o []) at

-- the imports of a file that is there
pub imports_at : (packages : List NamedPackage) (k j : ℕ) (p : NamedPackage) (f : Imports)
    → slice_get packages k ≡ Some p → slice_get p.files j ≡ Some f
    → imports_of packages k j ≡ f.list
imports_at packages k j p f at file =
    ap (λ o. option_map_or (λ (f : Imports). f.list)
    (slice_get (option_map_or (λ (p : NamedPackage). p.files) o []) j) []) at
    ∙ ap (λ o. option_map_or (λ (f : Imports). f.list) o []) file

pub imports_past : (packages : List NamedPackage) (k j : ℕ) (p : NamedPackage)
    → slice_get packages k ≡ Some p → slice_get p.files j ≡ None → imports_of packages k j ≡ []
imports_past packages k j p at file =
    ap (λ o. option_map_or (λ (f : Imports). f.list)
    (slice_get (option_map_or (λ (p : NamedPackage). p.files) o []) j) []) at
    ∙ ap (λ o. option_map_or (λ (f : Imports). f.list) o []) file

pub imports_none : (packages : List NamedPackage) (k j : ℕ) → slice_get packages k ≡ None
    → imports_of packages k j ≡ []
imports_none packages k j at =
    ap (λ o. option_map_or (λ (f : Imports). f.list)
    (slice_get (option_map_or (λ (p : NamedPackage). p.files) o []) j) []) at

-- no more types than a package has that is there
pub few_types_at : (packages : List NamedPackage) (k : ℕ)
    → All (λ p. length p.types < 2 ^ 32) packages → length (types_of packages k) < 2 ^ 32
few_types_at [] k few = lit< tt
few_types_at (p ∷ ps) zero few = All-head (λ (q : NamedPackage). length q.types < 2 ^ 32) p ps few
few_types_at (p ∷ ps) (suc k) few =
    few_types_at ps k (All-tail (λ (q : NamedPackage). length q.types < 2 ^ 32) p ps few)

module _ (packages : List NamedPackage) (tables : List PackageTables)
    (all : AllZip (AreTables packages) packages tables) (k : ℕ) (name : List ℕ) where
  -- a type by its name
  pub type_found : (t : PackageTables) → slice_get tables k ≡ Some t
      → get_by_text t.types name ≡ first_place name (types_of packages k)
  type_found t at =
      let beside = AllZip-at (AreTables packages) packages tables k t all at in
      beside.2.types name
      ∙ ap (first_place name) (sym (types_at packages k (Some beside.0) beside.1))

  pub type_missed : slice_get tables k ≡ None → None ≡ first_place name (types_of packages k)
  type_missed at =
      ap (first_place name)
      (sym (types_at packages k None (AllZip-past (AreTables packages) packages tables k all at)))

  -- an import by its local name
  pub import_found : (j : ℕ) (t : PackageTables) (m : BTreeMap (String Global) ℕ)
      → slice_get tables k ≡ Some t → slice_get t.files.items j ≡ Some m
      → get_by_text m name ≡ first_place name (map (local_name packages) (imports_of packages k j))
  import_found j t m at file =
      let beside = AllZip-at (AreTables packages) packages tables k t all at in
      let imports = AllZip-at (IndexesImports packages) beside.0.files t.files.items j m
      beside.2.files file in
      imports.2 name ∙ ap (λ l. first_place name (map (local_name packages) l))
      (sym (imports_at packages k j beside.0 imports.0 beside.1 imports.1))

  pub import_no_file : (j : ℕ) (t : PackageTables) → slice_get tables k ≡ Some t
      → slice_get t.files.items j ≡ None
      → None ≡ first_place name (map (local_name packages) (imports_of packages k j))
  import_no_file j t at file =
      let beside = AllZip-at (AreTables packages) packages tables k t all at in
      ap (λ l. first_place name (map (local_name packages) l))
      (sym (imports_past packages k j beside.0 beside.1
      (AllZip-past (IndexesImports packages) beside.0.files t.files.items j beside.2.files
      file)))

  pub import_no_package : (j : ℕ) → slice_get tables k ≡ None
      → None ≡ first_place name (map (local_name packages) (imports_of packages k j))
  import_no_package j at =
      ap (λ l. first_place name (map (local_name packages) l))
      (sym (imports_none packages k j (AllZip-past (AreTables packages) packages tables k all
      at)))
