-- Cited by public clauses. What the documentation of a package lists, where and in which order
-- (after Go's package go/doc).
use Rattle.std.specs.Prelude.{◌≡◌, ◌↔◌, ℕ, ◌*◌, ◌/◌, Bool, true, false, ◌&&◌, not, List, [], ◌∷◌}
use Rattle.std.specs.Prelude.{length, map, filter, filter_map, position, Option, Some, None}
use Rattle.std.specs.Prelude.{is_some, option_and_then, nat_le, nat_eq, slice_get, if◌then◌else◌}
use Rattle.std.specs.Prelude.{All, AllPairs, Contains, IsTrue}
use Rattle.std.specs.List.{list_all, list_any}
use Rattle.std.specs.Option.{option_eq, option_map_or}
use Rattle.std.specs.Ordering.{nat_cmp, ordering_then}
use Rattle.std.specs.Cmp.Lexicographic.{slice_cmp}
use Rattle.std.specs.declared.cmp.Ordering.TheVariants.{Less}
use Rattle.std.specs.Str.{bytes_eq, chars}
use Rattle.go_chars.specs.Identifiers.{is_exported}
use Rattle.doc_order.specs.declared.members.Member.{Member}
use Rattle.doc_order.specs.declared.members.Member.TheVariants.{Value, TypeDef, Func, Method}
use Rattle.doc_order.specs.declared.members.Kind.{Kind}
use Rattle.doc_order.specs.declared.members.Kind.TheVariants.{Constants, Variables, Functions}
use Rattle.doc_order.specs.declared.members.Kind.TheVariants.{Types, Methods}
use Rattle.doc_order.specs.declared.members.SpecFact.{SpecFact}
use Rattle.doc_order.specs.declared.members.DocPackage.{DocPackage}
use Rattle.doc_order.specs.declared.members.DocType.{DocType}

-- a name, as its UTF-8 bytes
abbrev pub Name : Type 0
Name = List ℕ

abbrev pub is_exported_name : Name → Bool
is_exported_name name = is_exported (chars name)

-- the member is an exported type of this name
abbrev pub is_type_named : Name → Member → Bool
is_type_named name (TypeDef own) = is_exported_name own && bytes_eq own name
is_type_named name _ = false

-- the number of the first exported type of this name, where the package has one
abbrev pub type_of : List Member → Name → Option ℕ
type_of members name = position (is_type_named name) members

-- the one element of a list, where it has just one
abbrev pub only : {X : Type 0} → List X → Option X
only (x ∷ []) = Some x
only _ = None

-- Values

-- an empty specification of constants has the base name of the one before it
abbrev pub with_bases : Bool → Name → List SpecFact → List SpecFact
with_bases constant before [] = []
with_bases constant before (spec ∷ specs) =
    let base = if constant && spec.empty then before else spec.base
    in record spec { base = base } ∷ with_bases constant base specs

-- the specifications that declare an exported name: only these count
abbrev pub exported_specs : List SpecFact → List SpecFact
exported_specs specs = filter (λ spec. list_any is_exported_name spec.names) specs

-- the base names of these, empty for one that has none
abbrev pub bases_of : Bool → List SpecFact → List Name
bases_of constant specs = map (λ spec. spec.base) (exported_specs (with_bases constant [] specs))

abbrev pub is_empty : Name → Bool
is_empty [] = true
is_empty _ = false

-- the name that all of these are, where there is one
abbrev pub common_name : List Name → Option Name
common_name [] = None
common_name (name ∷ names) = if list_all (bytes_eq name) names then Some name else None

-- the only base name, where three quarters, rounded down, have it
abbrev pub main_base : List Name → Option Name
main_base bases =
    let named = filter (λ base. not (is_empty base)) bases
    in if nat_le (3 * length bases / 4) (length named) then common_name named else None

-- the first of the names, empty where there is none
abbrev pub first_name : List Name → Name
first_name [] = []
first_name (name ∷ names) = name

-- the first name of the one specification with an exported name, else the empty name
abbrev pub name_of_specs : List SpecFact → Name
name_of_specs specs = option_map_or (λ spec. first_name spec.names) (only (exported_specs specs)) []

-- Members, in a package whose exported types have these numbers

abbrev pub kind_of : Member → Kind
kind_of (Value constant specs) = if constant then Constants else Variables
kind_of (TypeDef name) = Types
kind_of (Func name results) = Functions
kind_of (Method name base) = Methods

abbrev pub same_kind : Kind → Kind → Bool
same_kind Constants Constants = true
same_kind Variables Variables = true
same_kind Functions Functions = true
same_kind Types Types = true
same_kind Methods Methods = true
same_kind _ _ = false

module _ (types : Name → Option ℕ) where
  -- what is shown: values with an exported name, exported types and functions, and exported methods
  -- of an exported type of the package
  abbrev pub is_shown : Member → Bool
  is_shown (Value constant specs) = list_any (λ spec. list_any is_exported_name spec.names) specs
  is_shown (TypeDef name) = is_exported_name name
  is_shown (Func name results) = is_exported_name name
  is_shown (Method name base) = is_exported_name name && is_some (types base)

  -- the number of the type under which a member stands, if it stands under one: values under their
  -- main base, functions under the type of the one result that has such a type, methods under that
  -- of their receiver
  abbrev pub place_of : Member → Option ℕ
  place_of (Value constant specs) = option_and_then types (main_base (bases_of constant specs))
  place_of (TypeDef name) = None
  place_of (Func name results) = only (filter_map types results)
  place_of (Method name base) = types base

  -- the member is shown in the list of its kind of this place: of a type, or of the package itself
  abbrev pub stands_in : Kind → Option ℕ → Member → Bool
  stands_in kind place member =
      is_shown member && same_kind (kind_of member) kind && option_eq nat_eq (place_of member) place

-- Order

-- the name by which a member is sorted
abbrev pub key_of : Member → Name
key_of (Value constant specs) = name_of_specs specs
key_of (TypeDef name) = name
key_of (Func name results) = name
key_of (Method name base) = name

-- what a function gives of the member with a number
abbrev pub at_number : {X : Type 0} → (Member → X) → X → List Member → ℕ → X
at_number f default members number = option_map_or f (slice_get members number) default

-- the member with the one number comes before that with the other: by name, then in the source
abbrev pub IsBefore : List Member → ℕ → ℕ → Type 0
IsBefore members a b =
    let key = at_number key_of [] members
    in ordering_then (slice_cmp nat_cmp (key a) (key b)) (nat_cmp a b) ≡ Less

-- the numbers of all members that pass a test, sorted by name, ties in source order
pub record IsSortedFilter (wanted : Member → Bool) (members : List Member)
    (numbers : List ℕ) : Type 0 where
  pub exactly : (n : ℕ) → Contains numbers n ↔ IsTrue (at_number wanted false members n)
  pub rising : AllPairs (IsBefore members) numbers

-- the members of a kind that stand in this place
abbrev pub IsListOf : Kind → Option ℕ → List Member → List ℕ → Type 0
IsListOf kind place members numbers =
    IsSortedFilter (stands_in (type_of members) kind place) members numbers

-- what stands under a type; where several have one name, all of it stands under the first of them
pub record IsDocType (members : List Member) (doc : DocType) : Type 0 where
  pub consts : IsListOf Constants (Some doc.member) members doc.consts
  pub vars : IsListOf Variables (Some doc.member) members doc.vars
  pub factories : IsListOf Functions (Some doc.member) members doc.factories
  pub methods : IsListOf Methods (Some doc.member) members doc.methods

-- the documentation of a package with these members, in source order
pub record IsDocOf (members : List Member) (doc : DocPackage) : Type 0 where
  pub consts : IsListOf Constants None members doc.consts
  pub vars : IsListOf Variables None members doc.vars
  pub funcs : IsListOf Functions None members doc.funcs
  pub types : IsListOf Types None members (map (λ it. it.member) doc.types)
  pub each : All (IsDocType members) doc.types
