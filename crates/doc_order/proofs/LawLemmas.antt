-- A shown member stands in the list of its kind in its place, and in no other.
use Rattle.std.proofs.Common.{◌≡◌, ℕ, Bool, true, false, ◌&&◌, List, [], ◌∷◌, Option, Some, None}
use Rattle.std.proofs.Common.{get_or, refl, sym, ap, ◌∙◌, eqb, eqb-true, nat_eq, slice_get, subst}
use Rattle.std.specs.List.{cons_option, filter_map}
use Rattle.std.specs.Option.{option_eq, option_and_then, is_some}
use Rattle.std.proofs.lemmas.Cmp.{nat_eq_equiv}
use Rattle.std.proofs.lemmas.List.Quantifiers.{position-Some}
use Rattle.doc_order.specs.declared.members.Member.{Member}
use Rattle.doc_order.specs.declared.members.Member.TheVariants.{Value, TypeDef, Func, Method}
use Rattle.doc_order.specs.declared.members.Kind.{Kind}
use Rattle.doc_order.specs.declared.members.Kind.TheVariants.{Constants, Variables, Functions}
use Rattle.doc_order.specs.declared.members.Kind.TheVariants.{Types, Methods}
use Rattle.doc_order.specs.Documentation.{Name, at_number, bases_of, is_exported_name, is_shown}
use Rattle.doc_order.specs.Documentation.{is_type_named, key_of, kind_of, main_base, only, place_of}
use Rattle.doc_order.specs.Documentation.{same_kind, stands_in, type_of}
use Rattle.doc_order.specs.Slots.{is_exported_type}
use Rattle.doc_order.proofs.OrderLemmas.{at_number-within}
use Rattle.doc_order.proofs.TypeLemmas.{ands, both, named_parts}
use Rattle.doc_order.proofs.PlaceLemmas.{agree_at, types_listed}
use Rattle.std.specs.Str.{bytes_eq}

kind_itself : (kind : Kind) → same_kind kind kind ≡ true
kind_itself Constants = refl
kind_itself Variables = refl
kind_itself Functions = refl
kind_itself Types = refl
kind_itself Methods = refl

kind_is : (a b : Kind) → same_kind a b ≡ true → a ≡ b
kind_is Constants Constants e = refl
kind_is Constants Variables e = cc
kind_is Constants Functions e = cc
kind_is Constants Types e = cc
kind_is Constants Methods e = cc
kind_is Variables Constants e = cc
kind_is Variables Variables e = refl
kind_is Variables Functions e = cc
kind_is Variables Types e = cc
kind_is Variables Methods e = cc
kind_is Functions Constants e = cc
kind_is Functions Variables e = cc
kind_is Functions Functions e = refl
kind_is Functions Types e = cc
kind_is Functions Methods e = cc
kind_is Types Constants e = cc
kind_is Types Variables e = cc
kind_is Types Functions e = cc
kind_is Types Types e = refl
kind_is Types Methods e = cc
kind_is Methods Constants e = cc
kind_is Methods Variables e = cc
kind_is Methods Functions e = cc
kind_is Methods Types e = cc
kind_is Methods Methods e = refl

place_itself : (place : Option ℕ) → option_eq nat_eq place place ≡ true
place_itself None = refl
place_itself (Some n) = nat_eq_equiv.refl n

place_is : (p q : Option ℕ) → option_eq nat_eq p q ≡ true → p ≡ q
place_is None None e = refl
place_is None (Some n) e = cc
place_is (Some m) None e = cc
place_is (Some m) (Some n) e = ap Some (eqb-true m n e)

module _ (types : Name → Option ℕ) (member : Member) where
  pub stands_somewhere : is_shown types member ≡ true
      → stands_in types (kind_of member) (place_of types member) member ≡ true
  stands_somewhere e =
      ands (is_shown types member && same_kind (kind_of member) (kind_of member))
      (option_eq nat_eq (place_of types member) (place_of types member))
      (ands (is_shown types member) (same_kind (kind_of member) (kind_of member)) e
      (kind_itself (kind_of member)))
      (place_itself (place_of types member))

  pub stands_once : (kind : Kind) (place : Option ℕ) → stands_in types kind place member ≡ true
      → (is_shown types member ≡ true) × (kind ≡ kind_of member) × (place ≡ place_of types member)
  stands_once kind place e =
      let outer = both (is_shown types member && same_kind (kind_of member) kind)
      (option_eq nat_eq (place_of types member) place) e in
      let inner = both (is_shown types member) (same_kind (kind_of member) kind) outer.0 in (
        inner.0,
        sym (kind_is (kind_of member) kind inner.1),
        sym (place_is (place_of types member) place outer.1),
      )

no_place : (o : Option ℕ) → is_some o ≡ true → option_eq nat_eq o None ≡ true → ⊥
no_place None h e = cc
no_place (Some n) h e = cc

wrong_kind : (a b : Bool) → ((a && false) && b) ≡ true → ⊥
wrong_kind true b e = cc
wrong_kind false b e = cc

-- a method stands under a type
pub methods_under_types : (types : Name → Option ℕ) (member : Member)
    → stands_in types Methods None member ≡ true → ⊥
methods_under_types types (Value true specs) e = wrong_kind (is_shown types (Value true specs))
    (option_eq nat_eq (place_of types (Value true specs)) None) e
methods_under_types types (Value false specs) e = wrong_kind (is_shown types (Value false specs))
    (option_eq nat_eq (place_of types (Value false specs)) None) e
methods_under_types types (TypeDef name) e = wrong_kind (is_exported_name name) true e
methods_under_types types (Func name results) e = wrong_kind (is_exported_name name)
    (option_eq nat_eq (only (filter_map types results)) None) e
methods_under_types types (Method name base) e =
    let outer = both ((is_exported_name name && is_some (types base)) && true)
    (option_eq nat_eq (types base) None) e in
    let inner = both (is_exported_name name && is_some (types base)) true outer.0 in
    no_place (types base) (both (is_exported_name name) (is_some (types base)) inner.0).1 outer.1

-- a type under which a member stands is listed

first_is_type : (members : List Member) (name : Name) (number : ℕ) (d : Member)
    → type_of members name ≡ Some number
    → at_number is_exported_type false members number ≡ true
first_is_type members name number d e =
    let first = position-Some (is_type_named name) members number d e in
    let own : Member = get_or members number d in
    at_number-within is_exported_type false members number d first.0
    ∙ (both (is_exported_type own) (bytes_eq (key_of own) name) (sym (named_parts name own)
    ∙ first.1)).0

AllHold : (ℕ → Type 0) → List ℕ → Type 0
AllHold P [] = Unit {0}
AllHold P (x ∷ xs) = P x × AllHold P xs

only_holds : (P : ℕ → Type 0) (xs : List ℕ) (n : ℕ) → AllHold P xs → only xs ≡ Some n → P n
unfolding AllHold
only_holds P [] n h e = cc
only_holds P (x ∷ []) n h e = let same : x ≡ n = cc in subst P same h.0
only_holds P (x ∷ y ∷ xs) n h e = cc

module _ (types : Name → Option ℕ) (P : ℕ → Type 0) (holds : (name : Name) (n : ℕ)
    → types name ≡ Some n → P n) where
  one_holds : (name : Name) (xs : List ℕ) (o : Option ℕ) → types name ≡ o → AllHold P xs
      → AllHold P (cons_option o xs)
  unfolding AllHold
  one_holds name xs None e h = h
  one_holds name xs (Some n) e h = (holds name n e, h)

  results_hold : (names : List Name) → AllHold P (filter_map types names)
  unfolding AllHold
  results_hold [] = tt
  results_hold (name ∷ names) = one_holds name (filter_map types names) (types name) refl
      (results_hold names)

  base_holds : (o : Option Name) (n : ℕ) → option_and_then types o ≡ Some n → P n
  base_holds None n e = cc
  base_holds (Some name) n e = holds name n e

  place_holds : (m : Member) (n : ℕ) → place_of types m ≡ Some n → P n
  place_holds (Value constant specs) n e = base_holds (main_base (bases_of constant specs)) n e
  place_holds (TypeDef name) n e = cc
  place_holds (Func name results) n e = only_holds P (filter_map types results) n
      (results_hold results) e
  place_holds (Method name base) n e = holds base n e

pub type_is_listed : (members : List Member) (member : Member) (number : ℕ)
    → place_of (type_of members) member ≡ Some number
    → at_number (stands_in (type_of members) Types None) false members number ≡ true
type_is_listed members member number e =
    sym (agree_at is_exported_type (stands_in (type_of members) Types None)
    (types_listed (type_of members)) (slice_get members number))
    ∙ place_holds (type_of members) (λ n. at_number is_exported_type false members n ≡ true)
    (λ name n f. first_is_type members name n member f) member number e
