-- Members have at most one documentation.
use Rattle.std.proofs.Common.{◌≡◌, ℕ, zero, suc, ◌<◌, ◌⊎◌, inl, inr, List, [], ◌∷◌, Option, Some}
use Rattle.std.proofs.Common.{map, get_or, length, All, AllPairs, Contains, Bool, refl, sym, ap}
use Rattle.std.proofs.Common.{subst, ◌∙◌, arith}
use Rattle.std.specs.Ordering.{nat_cmp, ordering_then, ordering_reverse}
use Rattle.std.specs.Cmp.Lexicographic.{slice_cmp}
use Rattle.std.specs.declared.cmp.Ordering.{Ordering}
use Rattle.std.specs.declared.cmp.Ordering.TheVariants.{Less, Equal, Greater}
use Rattle.std.proofs.lemmas.Cmp.{nat_cmp_total, nat_list_cmp_total}
use Rattle.std.proofs.lemmas.List.Elements.{All-head, All-tail}
use Rattle.doc_order.specs.declared.members.DocPackage.{DocPackage}
use Rattle.doc_order.specs.declared.members.DocType.{DocType}
use Rattle.doc_order.specs.declared.members.Kind.{Kind}
use Rattle.doc_order.specs.declared.members.Kind.TheVariants.{Constants, Variables, Functions}
use Rattle.doc_order.specs.declared.members.Kind.TheVariants.{Methods}
use Rattle.doc_order.specs.declared.members.Member.{Member}
use Rattle.doc_order.specs.Documentation.{IsBefore, IsDocOf, IsDocType, IsListOf, IsSortedFilter}
use Rattle.doc_order.specs.Documentation.{Name, at_number, key_of}

-- ---- lists that an order sorts are equal where each has what the other has

contains_below : {X : Type 0} (y x : X) (ys : List X) → Contains (y ∷ ys) x
    → (x ≡ y) ⊎ Contains ys x
contains_below y x ys (zero, within, is) = inl (sym is)
contains_below y x ys (suc i, within, is) = inr (i, omega (arith, within), is)

module _ {X : Type 0} (R : X → X → Type 0) (not_both : (x y : X) → R x y → R y x → ⊥) where
  tail_rises : (x : X) (xs : List X) → AllPairs R (x ∷ xs) → AllPairs R xs
  tail_rises x xs rising = λ i j d l m. rising (suc i) (suc j) d (omega arith) (omega arith)

  first_below : (x y : X) (ys : List X) → AllPairs R (y ∷ ys) → Contains ys x → R y x
  first_below x y ys rising there =
      subst (R y) there.2 (rising 0 (suc there.0) x (omega arith) (omega (arith, there.1)))

  same_first : (x y : X) (xs ys : List X) → AllPairs R (x ∷ xs) → AllPairs R (y ∷ ys)
      → Contains (y ∷ ys) x → Contains (x ∷ xs) y → x ≡ y
  same_first x y xs ys a b there back =
      elim (contains_below y x ys there) [
        | inl is ↦ is
        | inr later ↦ elim (contains_below x y xs back) [
          | inl is ↦ sym is
          | inr after ↦ absurd (not_both x y (first_below y x xs a after)
              (first_below x y ys b later))
        ]
      ]

  rest_in : (x y : X) (xs ys : List X) → x ≡ y → AllPairs R (x ∷ xs)
      → ((z : X) → Contains (x ∷ xs) z → Contains (y ∷ ys) z)
      → (z : X) → Contains xs z → Contains ys z
  rest_in x y xs ys same rising inside z there =
      let below : R x z = first_below z x xs rising there in
      elim (contains_below y z ys (inside z (suc there.0, omega (arith, there.1), there.2))) [
        | inl is ↦ absurd (not_both x z below (subst (λ u. R u x) (same ∙ sym is)
            (subst (R x) (is ∙ sym same) below)))
        | inr later ↦ later
      ]

  pub same_elements : (xs ys : List X) → AllPairs R xs → AllPairs R ys
      → ((z : X) → Contains xs z → Contains ys z) → ((z : X) → Contains ys z → Contains xs z)
      → xs ≡ ys
  same_elements [] [] a b one other = refl
  same_elements [] (y ∷ ys) a b one other =
      absurd (omega (arith, (other y (0, omega arith, refl)).1))
  same_elements (x ∷ xs) [] a b one other =
      absurd (omega (arith, (one x (0, omega arith, refl)).1))
  same_elements (x ∷ xs) (y ∷ ys) a b one other =
      let first : x ≡ y = same_first x y xs ys a b (one x (0, omega arith, refl))
      (other y (0, omega arith, refl)) in
      let rest = same_elements xs ys (tail_rises x xs a) (tail_rises y ys b)
      (rest_in x y xs ys first a one) (rest_in y x ys xs (sym first) b other) in
      λ i. first i ∷ rest i

-- ---- numbers of members

both_less : (o p : Ordering) → ordering_then o p ≡ Less
    → ordering_then (ordering_reverse o) (ordering_reverse p) ≡ Less → ⊥
both_less Less p a b = let clash : Greater ≡ Less = b in cc
both_less Greater p a b = let clash : Greater ≡ Less = a in cc
both_less Equal Less a b = let clash : Greater ≡ Less = b in cc
both_less Equal Equal a b = let clash : Equal ≡ Less = a in cc
both_less Equal Greater a b = let clash : Greater ≡ Less = a in cc

module _ (members : List Member) where
  not_before : (a b : ℕ) → IsBefore members a b → IsBefore members b a → ⊥
  not_before a b before after =
      let key = at_number key_of [] members in
      both_less (slice_cmp nat_cmp (key a) (key b)) (nat_cmp a b) before
      (sym (λ i. ordering_then (nat_list_cmp_total.antisymm (key b) (key a) i)
      (nat_cmp_total.antisymm b a i)) ∙ after)

  same_list : (wanted : Member → Bool) (numbers other : List ℕ)
      → IsSortedFilter wanted members numbers → IsSortedFilter wanted members other
      → numbers ≡ other
  same_list wanted numbers other a b =
      same_elements (IsBefore members) not_before numbers other a.rising b.rising
      (λ n there. (b.exactly n).1 ((a.exactly n).0 there))
      (λ n there. (a.exactly n).1 ((b.exactly n).0 there))

  abbrev Stands : Kind → ℕ → List ℕ → Type 0
  Stands kind member numbers = IsListOf kind (Some member) members numbers

  -- what stands under a type is one value
  same_type : (x y : DocType) → x.member ≡ y.member → IsDocType members x
      → IsDocType members y → x ≡ y
  same_type x y same a b =
      let moved : (kind : Kind) (one other : List ℕ) → Stands kind x.member one
      → Stands kind y.member other → one ≡ other =
      λ kind one other p q. same_list _ one other p
      (subst (λ n. Stands kind n other) (sym same) q) in
      let consts = moved Constants x.consts y.consts a.consts b.consts in
      let vars = moved Variables x.vars y.vars a.vars b.vars in
      let factories = moved Functions x.factories y.factories a.factories b.factories in
      let methods = moved Methods x.methods y.methods a.methods b.methods in
      λ i. record {
        member = same i;
        consts = consts i;
        vars = vars i;
        factories = factories i;
        methods = methods i;
      }

  same_types : (xs ys : List DocType)
      → map (λ (it : DocType). it.member) xs ≡ map (λ (it : DocType). it.member) ys
      → All (IsDocType members) xs → All (IsDocType members) ys → xs ≡ ys
  same_types [] [] same a b = refl
  same_types [] (y ∷ ys) same a b = cc
  same_types (x ∷ xs) [] same a b = cc
  same_types (x ∷ xs) (y ∷ ys) same a b =
      let head : x.member ≡ y.member = cc same in
      let tail : map (λ (it : DocType). it.member) xs ≡ map (λ (it : DocType). it.member) ys =
      cc same in
      let first = same_type x y head (All-head (IsDocType members) x xs a)
      (All-head (IsDocType members) y ys b) in
      let rest = same_types xs ys tail (All-tail (IsDocType members) x xs a)
      (All-tail (IsDocType members) y ys b) in
      λ i. first i ∷ rest i

  pub same_doc : (doc other : DocPackage) → IsDocOf members doc → IsDocOf members other
      → doc ≡ other
  same_doc doc other a b =
      let consts = same_list _ doc.consts other.consts a.consts b.consts in
      let vars = same_list _ doc.vars other.vars a.vars b.vars in
      let funcs = same_list _ doc.funcs other.funcs a.funcs b.funcs in
      let types = same_types doc.types other.types
      (same_list _ (map (λ (it : DocType). it.member) doc.types)
      (map (λ (it : DocType). it.member) other.types) a.types b.types) a.each b.each in
      λ i. record { consts = consts i; vars = vars i; funcs = funcs i; types = types i }
