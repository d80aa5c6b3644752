-- What stands under the types of the slots stands under the types with their numbers, and the lists
-- that
-- were filled are the documentation.
use Rattle.std.proofs.Common.{◌≡◌, ◌<◌, ◌+◌, ℕ, zero, suc, Bool, true, false, cond, ◌&&◌, List, []}
use Rattle.std.proofs.Common.{◌∷◌, ◌++◌, Option, Some, None, length, map, filter, fold, get_or}
use Rattle.std.proofs.Common.{refl, sym, ap, ◌∙◌, subst, arith, All, eqb, eq-eqb, eqb-true, nat_eq}
use Rattle.std.proofs.Common.{slice_get}
use Rattle.std.specs.List.{cons_option, filter_map, list_any}
use Rattle.std.specs.Option.{option_eq, option_map, option_map_or, option_and_then, is_some}
use Rattle.std.proofs.lemmas.Bool.{eqb-false, ne_eqb}
use Rattle.std.proofs.lemmas.List.Elements.{filter_agree}
use Rattle.doc_order.specs.declared.members.Member.{Member}
use Rattle.doc_order.specs.declared.members.Member.TheVariants.{Value, TypeDef, Func, Method}
use Rattle.doc_order.specs.declared.members.Kind.{Kind}
use Rattle.doc_order.specs.declared.members.Kind.TheVariants.{Constants, Variables, Functions}
use Rattle.doc_order.specs.declared.members.Kind.TheVariants.{Types, Methods}
use Rattle.doc_order.specs.declared.members.DocType.{DocType}
use Rattle.doc_order.specs.declared.members.DocPackage.{DocPackage}
use Rattle.doc_order.specs.Documentation.{Name, at_number, bases_of, is_exported_name, is_shown}
use Rattle.doc_order.specs.Documentation.{key_of, kind_of, main_base, only, place_of, same_kind}
use Rattle.doc_order.specs.Documentation.{stands_in, type_of, IsDocOf, IsDocType, IsListOf}
use Rattle.doc_order.specs.Documentation.{IsSortedFilter}
use Rattle.doc_order.specs.Slots.{Lists, bare_type, is_exported_type, slot_of, with_member_at}
use Rattle.doc_order.proofs.FillLemmas.{filled_consts, filled_count, filled_funcs, filled_type}
use Rattle.doc_order.proofs.FillLemmas.{filled_vars, grown}
use Rattle.doc_order.proofs.OrderLemmas.{element_at, mapped_at, mapped_length}
use Rattle.doc_order.proofs.TypeLemmas.{same_slot, slot_within, slots_apart, sorted_filter}

some_mapped : (g : ℕ → ℕ) (o : Option ℕ) → is_some (option_map g o) ≡ is_some o
some_mapped g None = refl
some_mapped g (Some n) = refl

only_map : (g : ℕ → ℕ) (xs : List ℕ) → only (map g xs) ≡ option_map g (only xs)
only_map g [] = refl
only_map g (x ∷ []) = refl
only_map g (x ∷ y ∷ xs) = refl

cons_mapped : (g : ℕ → ℕ) (o : Option ℕ) (xs : List ℕ) → cons_option (option_map g o) (map g xs) ≡
    map g (cons_option o xs)
cons_mapped g None xs = refl
cons_mapped g (Some x) xs = refl

AllBelow : ℕ → List ℕ → Type 0
AllBelow n [] = Unit {0}
AllBelow n (x ∷ xs) = (x < n) × AllBelow n xs

only_below : (n : ℕ) (xs : List ℕ) (s : ℕ) → AllBelow n xs → only xs ≡ Some s → s < n
unfolding AllBelow
only_below n [] s h e = cc
only_below n (x ∷ []) s h e = let same : x ≡ s = cc in subst (λ y. y < n) same h.0
only_below n (x ∷ y ∷ xs) s h e = cc

module _ (first slots : Name → Option ℕ) (g : ℕ → ℕ) (n : ℕ)
    (same : (name : Name) → first name ≡ option_map g (slots name))
    (within : (name : Name) (s : ℕ) → slots name ≡ Some s → s < n)
    (apart : (s t : ℕ) → s < n → t < n → g s ≡ g t → s ≡ t) where
  same_shown : (m : Member) → is_shown first m ≡ is_shown slots m
  same_shown (Value constant specs) = refl
  same_shown (TypeDef name) = refl
  same_shown (Func name results) = refl
  same_shown (Method name base) =
      ap (λ o. is_exported_name name && is_some o) (same base)
      ∙ ap (λ b. is_exported_name name && b) (some_mapped g (slots base))

  same_results : (names : List Name) → filter_map first names ≡ map g (filter_map slots names)
  same_results [] = refl
  same_results (name ∷ names) =
      ap (λ o. cons_option o (filter_map first names)) (same name)
      ∙ ap (λ xs. cons_option (option_map g (slots name)) xs) (same_results names)
      ∙ cons_mapped g (slots name) (filter_map slots names)

  same_base : (o : Option Name) → option_and_then first o ≡ option_map g (option_and_then slots o)
  same_base None = refl
  same_base (Some name) = same name

  same_place : (m : Member) → place_of first m ≡ option_map g (place_of slots m)
  same_place (Value constant specs) = same_base (main_base (bases_of constant specs))
  same_place (TypeDef name) = refl
  same_place (Func name results) = ap only (same_results results)
      ∙ only_map g (filter_map slots results)
  same_place (Method name base) = same base

  one_below : (name : Name) (xs : List ℕ) (o : Option ℕ) → slots name ≡ o → AllBelow n xs
      → AllBelow n (cons_option o xs)
  unfolding AllBelow
  one_below name xs None e h = h
  one_below name xs (Some s) e h = (within name s e, h)

  results_below : (names : List Name) → AllBelow n (filter_map slots names)
  unfolding AllBelow
  results_below [] = tt
  results_below (name ∷ names) = one_below name (filter_map slots names) (slots name) refl
      (results_below names)

  base_within : (o : Option Name) (s : ℕ) → option_and_then slots o ≡ Some s → s < n
  base_within None s e = cc
  base_within (Some name) s e = within name s e

  place_within : (m : Member) (s : ℕ) → place_of slots m ≡ Some s → s < n
  place_within (Value constant specs) s e = base_within (main_base (bases_of constant specs)) s e
  place_within (TypeDef name) s e = cc
  place_within (Func name results) s e = only_below n (filter_map slots results) s
      (results_below results) e
  place_within (Method name base) s e = within base s e

  same_number : (t s : ℕ) → t < n → s < n → (b : Bool) → eqb t s ≡ b → eqb (g t) (g s) ≡ b
  same_number t s h l true e = eq-eqb (g t) (g s) (ap g (eqb-true t s e))
  same_number t s h l false e = ne_eqb (g t) (g s) (λ f. eqb-false t s e (apart t s h l f))

  same_test : (s : ℕ) → s < n → (m : Member) (o : Option ℕ) → place_of slots m ≡ o
      → option_eq nat_eq (option_map g o) (Some (g s)) ≡ option_eq nat_eq o (Some s)
  same_test s h m None e = refl
  same_test s h m (Some t) e = same_number t s (place_within m t e) h (eqb t s) refl

  pub same_type : (kind : Kind) (s : ℕ) → s < n → (m : Member)
      → stands_in slots kind (Some s) m ≡ stands_in first kind (Some (g s)) m
  same_type kind s h m =
      let test : option_eq nat_eq (place_of first m) (Some (g s)) ≡ option_eq nat_eq
      (place_of slots m) (Some s) =
      ap (λ o. option_eq nat_eq o (Some (g s))) (same_place m)
      ∙ same_test s h m (place_of slots m) refl in
      λ i. sym (same_shown m) i && same_kind (kind_of m) kind && sym test i

  none_test : (o : Option ℕ) → option_eq nat_eq (option_map g o) None ≡ option_eq nat_eq o None
  none_test None = refl
  none_test (Some t) = refl

  pub same_package : (kind : Kind) (m : Member) → stands_in slots kind None m ≡ stands_in first kind
      None m
  same_package kind m =
      let test : option_eq nat_eq (place_of first m) None ≡ option_eq nat_eq (place_of slots m)
      None =
      ap (λ o. option_eq nat_eq o None) (same_place m) ∙ none_test (place_of slots m) in
      λ i. sym (same_shown m) i && same_kind (kind_of m) kind && sym test i

never : (a b : Bool) → ((a && false) && b) ≡ false
never true b = refl
never false b = refl

always : (a : Bool) → ((a && true) && true) ≡ a
always true = refl
always false = refl

pub types_listed : (first : Name → Option ℕ) (m : Member)
    → is_exported_type m ≡ stands_in first Types None m
types_listed first (Value true specs) =
    sym (never (list_any (λ spec. list_any is_exported_name spec.names) specs)
    (option_eq nat_eq (place_of first (Value true specs)) None))
types_listed first (Value false specs) =
    sym (never (list_any (λ spec. list_any is_exported_name spec.names) specs)
    (option_eq nat_eq (place_of first (Value false specs)) None))
types_listed first (TypeDef name) = sym (always (is_exported_name name))
types_listed first (Func name results) =
    sym (never (is_exported_name name) (option_eq nat_eq (only (filter_map first results)) None))
types_listed first (Method name base) =
    sym (never (is_exported_name name && is_some (first base)) (option_eq nat_eq (first base) None))

pub agree_at : (p q : Member → Bool) → ((m : Member) → p m ≡ q m) → (o : Option Member)
    → option_map_or p o false ≡ option_map_or q o false
agree_at p q same None = refl
agree_at p q same (Some m) = same m

-- a filter of all numbers by a test that means the same
pub agreed_filter : (p q : Member → Bool) (members : List Member) (numbers : List ℕ)
    → ((m : Member) → p m ≡ q m)
    → IsSortedFilter (λ _. true) members numbers
    → IsSortedFilter q members (filter (at_number p false members) numbers)
agreed_filter p q members numbers same all =
    subst (IsSortedFilter q members)
    (sym (filter_agree (at_number p false members) (at_number q false members)
    (λ n. agree_at p q same (slice_get members n)) numbers))
    (sorted_filter q members numbers all)

same_list : (xs ys : List ℕ) → length xs ≡ length ys
    → ((k : ℕ) → k < length xs → get_or xs k 0 ≡ get_or ys k 0) → xs ≡ ys
same_list [] [] e h = refl
same_list [] (y ∷ ys) e h = absurd (omega arith)
same_list (x ∷ xs) [] e h = absurd (omega arith)
same_list (x ∷ xs) (y ∷ ys) e h =
    let rest : xs ≡ ys = same_list xs ys (omega arith) (λ k l. h (suc k) (omega arith)) in
    ap (λ z. z ∷ xs) (h 0 (omega arith)) ∙ ap (λ zs. y ∷ zs) rest

abbrev pub start : List ℕ → Lists
start types = record { consts = []; vars = []; funcs = []; types = map bare_type types }

abbrev pub filled_doc : Lists → DocPackage
filled_doc lists = record {
  consts = lists.consts;
  vars = lists.vars;
  funcs = lists.funcs;
  types =
      lists.types;
}

module _ (members : List Member) (numbers types : List ℕ) (names : List Name)
    (all : IsSortedFilter (λ _. true) members numbers)
    (typed : types ≡ filter (at_number is_exported_type false members) numbers)
    (named : names ≡ map (at_number key_of [] members) types) where
  grown_is : (s : ℕ) → s < length types
      → IsDocType members (grown members (slot_of names) s (bare_type (get_or types s 0)) numbers)
  unfolding grown
  grown_is s h =
      let means = λ (kind : Kind).
      agreed_filter (stands_in (slot_of names) kind (Some s))
      (stands_in (type_of members) kind (Some (get_or types s 0))) members numbers
      (same_type (type_of members) (slot_of names) (λ t. get_or types t 0) (length types)
      (same_slot members numbers types names all typed named)
      (slot_within members numbers types names all typed named)
      (slots_apart members numbers types names all typed named) kind s h) all in
      record {
        consts = means Constants;
        vars = means Variables;
        factories =
            means Functions;
        methods = means Methods;
      }

  in_package : (kind : Kind)
      → IsListOf kind None members
      (filter (at_number (stands_in (slot_of names) kind None) false members) numbers)
  in_package kind =
      agreed_filter (stands_in (slot_of names) kind None) (stands_in (type_of members) kind None)
      members numbers
      (same_package (type_of members) (slot_of names) (λ t. get_or types t 0) (length types)
      (same_slot members numbers types names all typed named)
      (slot_within members numbers types names all typed named)
      (slots_apart members numbers types names all typed named) kind) all

  grown_member : (s : ℕ) (doc : DocType) (ns : List ℕ)
      → (grown members (slot_of names) s doc ns).member ≡ doc.member
  unfolding grown
  grown_member s doc ns = refl

  type_at : (s : ℕ) (d : DocType) → s < length types
      → get_or (fold (with_member_at members (slot_of names)) (start types) numbers).types s d
      ≡ grown members (slot_of names) s (bare_type (get_or types s 0)) numbers
  type_at s d h =
      let x = element_at types s h in
      let bare : get_or (map bare_type types) s d ≡ bare_type (get_or types s 0) =
      mapped_at bare_type types s d x.0 h (x.1 x.0) ∙ ap bare_type (sym (x.1 0)) in
      filled_type members (slot_of names) numbers (start types) s d
      (rw (mapped_length bare_type types) h)
      ∙ ap (λ doc. grown members (slot_of names) s doc numbers) bare

  slot_count : length (fold (with_member_at members (slot_of names)) (start types) numbers).types ≡
      length types
  slot_count = filled_count members (slot_of names) numbers (start types)
      ∙ mapped_length bare_type types

  slot_members : map (λ it. it.member) (fold (with_member_at members (slot_of names)) (start types)
      numbers).types ≡ types
  slot_members =
      let docs : List DocType =
      (fold (with_member_at members (slot_of names)) (start types) numbers).types in
      let member : DocType → ℕ = λ it. it.member in
      same_list (map member docs) types (mapped_length member docs ∙ slot_count) (λ k l.
      let at : k < length docs = rw (← (mapped_length member docs)) l in
      let inside : k < length types = rw (← slot_count) at in
      let x = element_at docs k at in
      mapped_at member docs k 0 x.0 at (x.1 x.0) ∙ ap member (sym (x.1 x.0) ∙ type_at k x.0 inside)
      ∙ grown_member k (bare_type (get_or types k 0)) numbers)

  pub documented :
      IsDocOf members
      (filled_doc (fold (with_member_at members (slot_of names)) (start types) numbers))
  documented = record {
    consts = subst (IsListOf Constants None members)
        (sym (filled_consts members (slot_of names) numbers (start types))) (in_package Constants);
    vars = subst (IsListOf Variables None members)
        (sym (filled_vars members (slot_of names) numbers (start types))) (in_package Variables);
    funcs = subst (IsListOf Functions None members)
        (sym (filled_funcs members (slot_of names) numbers (start types))) (in_package Functions);
    types = subst (IsListOf Types None members) (sym (slot_members ∙ typed))
        (agreed_filter is_exported_type (stands_in (type_of members) Types None) members numbers
        (types_listed (type_of members)) all);
    each = λ s d h.
        let inside : s < length types = rw (← slot_count) h in
        subst (IsDocType members) (sym (type_at s d inside)) (grown_is s inside);
  }
