-- What is found under a name.
use Rattle.std.proofs.Common.{◌≡◌, ◌<◌, ◌≤◌, ◌+◌, ℕ, zero, suc, Bool, true, false, cond, List, []}
use Rattle.std.proofs.Common.{◌∷◌, Some, None, length, map, filter, get_or, All, AllPairs, inl, inr}
use Rattle.std.proofs.Common.{Contains, refl, sym, ap, ◌∙◌, subst, arith}
use Rattle.std.specs.List.{find}
use Rattle.std.specs.Option.{option_map_or}
use Rattle.std.specs.Str.{bytes_eq}
use Rattle.std.specs.Ordering.{nat_cmp, is_eq, ordering_reverse}
use Rattle.std.specs.Cmp.Lexicographic.{slice_cmp}
use Rattle.std.specs.declared.cmp.Ordering.{Ordering}
use Rattle.std.specs.declared.cmp.Ordering.TheVariants.{Less, Equal, Greater}
use Rattle.std.proofs.lemmas.Bool.{cases_Bool, cases_lt}
use Rattle.std.proofs.lemmas.Bool.Decides.{same_from_decides}
use Rattle.std.proofs.lemmas.Cmp.{nat_list_cmp_total}
use Rattle.std.proofs.lemmas.List.{get_or_default}
use Rattle.std.proofs.lemmas.Map.Text.{is_eq-slice_cmp}
use Rattle.std.proofs.lemmas.List.Elements.{All-contains, All-map}
use Rattle.std.proofs.lemmas.Slice.Eq.{bytes_eq-Decides}
use Rattle.ident_index.proofs.Lists.{find-at, find-nowhere}
use Rattle.ident_index.specs.Postings.{IsNameBelow, IsTableOf, NamedHit, Posting, hits_at}
use Rattle.ident_index.specs.Postings.{hits_named}
use Rattle.ident_index.specs.Tables.{IsNamedAt}

find-some : {X : Type 0} (p : X → Bool) (xs : List X) (x : X) → find p xs ≡ Some x → Contains xs x
    × (p x ≡ true)
find-some p [] x e = cc
find-some {X} p (y ∷ ys) x e =
    elim (p y) as (λ b. p y ≡ b → cond b (Some y) (find p ys) ≡ Some x → Contains (y ∷ ys) x
    × (p x ≡ true)) [
      | true ↦ λ passes is. let same : y ≡ x = cc in
          ((0, omega arith, same), subst (λ z. p z ≡ true) same passes)
      | false ↦ λ fails is. let rest = find-some p ys x is in
          ((suc rest.0.0, omega (arith, rest.0.1), rest.0.2), rest.1)
    ] refl e

find-none : {X : Type 0} (p : X → Bool) (xs : List X) → find p xs ≡ None → All (λ x. p x ≡ false) xs
find-none p [] e = λ k d h. absurd (omega arith)
find-none {X} p (y ∷ ys) e =
    elim (p y) as (λ b. p y ≡ b → cond b (Some y) (find p ys) ≡ None
    → All (λ x. p x ≡ false) (y ∷ ys)) [
      | true ↦ λ passes is. cc
      | false ↦ λ fails is. none-cons p y ys fails (find-none p ys is)
    ] refl e
  where
    none-cons : {X : Type 0} (p : X → Bool) (y : X) (ys : List X) → p y ≡ false
        → All (λ x. p x ≡ false) ys → All (λ x. p x ≡ false) (y ∷ ys)
    none-cons p y ys fails rest zero d h = fails
    none-cons p y ys fails rest (suc k) d h = rest k d (omega arith)

filter-none : {X : Type 0} (p : X → Bool) (xs : List X) → All (λ x. p x ≡ false) xs → filter p xs
    ≡ []
filter-none p [] h = refl
filter-none p (x ∷ xs) h =
    ap (λ b. cond b (x ∷ filter p xs) (filter p xs)) (h 0 x (omega arith))
    ∙ filter-none p xs (λ k d l. h (suc k) d (omega arith))

pub contains-mapped : {X Y : Type 0} (f : X → Y) (xs : List X) (i : ℕ) (d : X) → i < length xs
    → Contains (map f xs) (f (get_or xs i d))
contains-mapped f [] i d h = absurd (omega arith)
contains-mapped f (x ∷ xs) zero d h = (0, omega arith, refl)
contains-mapped f (x ∷ xs) (suc i) d h =
    let rest = contains-mapped f xs i d (omega arith) in (suc rest.0, omega (arith, rest.1), rest.2)

pub bytes_eq-sym : (xs ys : List ℕ) → bytes_eq xs ys ≡ bytes_eq ys xs
bytes_eq-sym xs ys =
    let back = bytes_eq-Decides ys xs in
    same_from_decides _ _ (bytes_eq-Decides xs ys) (λ e. sym (back.0 e), λ e. back.1 (sym e))

-- names in order
abbrev pub Name : Type 0
Name = List ℕ

same_name : (a b : Name) → slice_cmp nat_cmp a b ≡ Equal → a ≡ b
same_name a b e = (bytes_eq-Decides a b).0 (sym (is_eq-slice_cmp a b) ∙ ap is_eq e)

pub unlike_name : (a b : Name) (o : Ordering) → slice_cmp nat_cmp a b ≡ o → is_eq o ≡ false
    → bytes_eq b a ≡ false
unlike_name a b o e other = bytes_eq-sym b a ∙ sym (is_eq-slice_cmp a b) ∙ ap is_eq e ∙ other

pub greater : (a b : Name) → slice_cmp nat_cmp a b ≡ Less → slice_cmp nat_cmp b a ≡ Greater
greater a b e = nat_list_cmp_total.antisymm b a ∙ ap ordering_reverse e

less : (a b : Name) → slice_cmp nat_cmp a b ≡ Greater → slice_cmp nat_cmp b a ≡ Less
less a b e = nat_list_cmp_total.antisymm b a ∙ ap ordering_reverse e

module _ (entries : List Posting) (name : Name) (rising : AllPairs IsNameBelow entries) (middle : ℕ)
    (within : middle < length entries) (x : Posting)
    (here : get_or entries middle x ≡ x) where
  middle_is : (d : Posting) → get_or entries middle d ≡ x
  middle_is d = get_or_default entries middle d x within ∙ here

  pub below_more : slice_cmp nat_cmp x.name name ≡ Less → (i : ℕ) (d : Posting) → i < middle + 1
      → slice_cmp nat_cmp (get_or entries i d).name name ≡ Less
  below_more is i d h =
      elim (cases_lt i middle) [
        | inl before ↦ nat_list_cmp_total.trans _ x.name name
            (subst (λ (y : Posting). slice_cmp nat_cmp (get_or entries i d).name y.name ≡ Less)
            (middle_is d) (rising i middle d before within)) is
        | inr after ↦
            let same : middle ≡ i = omega arith in
            subst (λ j. slice_cmp nat_cmp (get_or entries j d).name name ≡ Less) same
            (subst (λ (y : Posting). slice_cmp nat_cmp y.name name ≡ Less) (sym (middle_is d)) is)
      ]

  pub above_more : slice_cmp nat_cmp x.name name ≡ Greater → (i : ℕ) (d : Posting) → middle ≤ i
      → i < length entries
      → slice_cmp nat_cmp (get_or entries i d).name name ≡ Greater
  above_more is i d h l =
      elim (cases_lt middle i) [
        | inl later ↦ greater name (get_or entries i d).name
            (nat_list_cmp_total.trans name x.name _ (less x.name name is)
            (subst (λ (y : Posting). slice_cmp nat_cmp y.name (get_or entries i d).name ≡ Less)
            (middle_is d) (rising middle i d later l)))
        | inr before ↦
            let same : middle ≡ i = omega arith in
            subst (λ j. slice_cmp nat_cmp (get_or entries j d).name name ≡ Greater) same
            (subst (λ (y : Posting). slice_cmp nat_cmp y.name name ≡ Greater) (sym (middle_is d))
            is)
      ]

  pub named_here : slice_cmp nat_cmp x.name name ≡ Equal → IsNamedAt name entries middle
  named_here is = (
    within,
    λ d. subst (λ (y : Posting). y.name ≡ name) (sym (middle_is d))
        (same_name x.name name is),
  )

-- where each name is below or above, none is the name
pub none_here : (entries : List Posting) (name : Name) (low : ℕ)
    → ((i : ℕ) (d : Posting) → i < low → slice_cmp nat_cmp (get_or entries i d).name name ≡ Less)
    → ((i : ℕ) (d : Posting) → low ≤ i → i < length entries
    → slice_cmp nat_cmp (get_or entries i d).name name ≡ Greater)
    → All (λ e. bytes_eq name e.name ≡ false) entries
none_here entries name low below above k d h =
    elim (cases_lt k low) [
      | inl before ↦ unlike_name (get_or entries k d).name name Less (below k d before) refl
      | inr after ↦ unlike_name (get_or entries k d).name name Greater (above k d after h) refl
    ]

module _ (postings : List Posting) (name : Name) where
  -- the hits of the posting that has the name
  pub hits_at_place : AllPairs IsNameBelow postings → (place : ℕ) (x : Posting)
      → IsNamedAt name postings place → get_or postings place x ≡ x
      → hits_at postings name ≡ x.hits
  hits_at_place rising place x named here =
      let passes : bytes_eq name (get_or postings place x).name
      ≡ true = (bytes_eq-Decides name (get_or postings place x).name).1 (sym (named.1 x)) in
      let fails : (k : ℕ) → k < place → bytes_eq name (get_or postings k x).name ≡ false =
      λ k l. unlike_name (get_or postings k x).name name Less
      (subst (λ m. slice_cmp nat_cmp (get_or postings k x).name m ≡ Less) (named.1 x)
      (rising k place x l named.0)) refl in
      ap (λ o. option_map_or (λ p. p.hits) o [])
      (find-at (λ p. bytes_eq name p.name) postings place x named.0 passes fails
      ∙ ap (λ (y : Posting). Some y) here)

  pub hits_at_none : All (λ p. bytes_eq name p.name ≡ false) postings → hits_at postings name ≡ []
  hits_at_none none = ap (λ o. option_map_or (λ p. p.hits) o [])
      (find-nowhere (λ p. bytes_eq name p.name) postings none)

module _ (named : List NamedHit) (postings : List Posting) (table : IsTableOf named postings)
    (name : List ℕ) where
  none_named : find (λ p. bytes_eq name p.name) postings ≡ None
      → All (λ n. bytes_eq name n.name ≡ false) named
  none_named none k d h =
      elim (cases_Bool (bytes_eq name (get_or named k d).name)) [
        | inl found ↦
            let same : name ≡ (get_or named k d).name =
            (bytes_eq-Decides name (get_or named k d).name).0 found in
            let there : Contains (map (λ (p : Posting). p.name) postings) name =
            (table.names name).1 (subst (Contains (map (λ (n : NamedHit). n.name) named)) (sym same)
            (contains-mapped (λ (n : NamedHit). n.name) named k d h)) in
            let unlike : bytes_eq name name ≡ false =
            All-contains (λ m. bytes_eq name m ≡ false) (map (λ (p : Posting). p.name) postings)
            name
            (All-map (λ m. bytes_eq name m ≡ false) (λ (p : Posting). p.name) postings
            (find-none (λ p. bytes_eq name p.name) postings none)) there in
            let like : bytes_eq name name ≡ true = (bytes_eq-Decides name name).1 refl in cc
        | inr other ↦ other
      ]

  -- what a table has under a name is what a filter of the whole list gives
  pub hits_of_table : hits_at postings name ≡ hits_named name named
  hits_of_table =
      elim (find (λ (p : Posting). bytes_eq name p.name) postings) as
      (λ o. find (λ (p : Posting). bytes_eq name p.name) postings ≡ o
      → option_map_or (λ p. p.hits) o [] ≡ hits_named name named) [
        | Some p ↦ λ e.
            let found = find-some (λ (p : Posting). bytes_eq name p.name) postings p e in
            let same : name ≡ p.name = (bytes_eq-Decides name p.name).0 found.1 in
            All-contains (λ p. p.hits ≡ hits_named p.name named) postings p table.hits found.0
            ∙ ap (λ n. hits_named n named) (sym same)
        | None ↦ λ e. sym (ap (map (λ (n : NamedHit). n.hit))
            (filter-none (λ (n : NamedHit). bytes_eq name n.name) named (none_named e)))
      ] refl
