-- Names that rise and their hits are told apart by which there are.
use Rattle.std.proofs.Common.{◌≡◌, zero, suc, ◌<◌, ◌⊎◌, inl, inr, List, [], ◌∷◌, map, get_or}
use Rattle.std.proofs.Common.{length, All, AllPairs, Contains, refl, sym, ap, subst, ◌∙◌, arith}
use Rattle.std.proofs.lemmas.List.{get_or-map, length-map}
use Rattle.ident_index.specs.Postings.{IsNameBelow, IsTableOf, NamedHit, Posting, hits_named}
use Rattle.ident_index.proofs.Finding.{contains-mapped, greater}

pub contains_below : {X : Type 0} (y x : X) (ys : List X) → Contains (y ∷ ys) x → (x ≡ y)
    ⊎ Contains ys x
contains_below y x ys (zero, within, is) = inl (sym is)
contains_below y x ys (suc i, within, is) = inr (i, omega (arith, within), is)

not_both : (p q : Posting) → IsNameBelow p q → IsNameBelow q p → ⊥
not_both p q below above = let other = greater p.name q.name below in cc

first_below : (p q : Posting) (qs : List Posting) → AllPairs IsNameBelow (q ∷ qs) → Contains qs p
    → IsNameBelow q p
first_below p q qs rising there =
    subst (IsNameBelow q) there.2 (rising 0 (suc there.0) p (omega arith) (omega (arith, there.1)))

pub rising_tail : (p : Posting) (ps : List Posting) → AllPairs IsNameBelow (p ∷ ps)
    → AllPairs IsNameBelow ps
rising_tail p ps rising = λ i j d l m. rising (suc i) (suc j) d (omega arith) (omega arith)

same_first : (p q : Posting) (ps qs : List Posting) → AllPairs IsNameBelow (p ∷ ps)
    → AllPairs IsNameBelow (q ∷ qs)
    → Contains (q ∷ qs) p → Contains (p ∷ ps) q → p ≡ q
same_first p q ps qs a b there back =
    elim (contains_below q p qs there) [
      | inl is ↦ is
      | inr later ↦ elim (contains_below p q ps back) [
        | inl is ↦ sym is
        | inr behind ↦ absurd (not_both p q (first_below q p ps a behind)
            (first_below p q qs b later))
      ]
    ]

rest_in : (p q : Posting) (ps qs : List Posting) → p ≡ q → AllPairs IsNameBelow (p ∷ ps)
    → All (Contains (q ∷ qs)) ps → All (Contains qs) ps
rest_in p q ps qs same rising inside = λ k d h.
    let x = get_or ps k d in
    let below : IsNameBelow p x = rising 0 (suc k) d (omega arith) (omega arith) in
    elim (contains_below q x qs (inside k d h)) [
      | inl is ↦ absurd (not_both p x below (subst (λ (y : Posting). IsNameBelow y p)
          (same ∙ sym is) (subst (IsNameBelow p) (is ∙ sym same) below)))
      | inr later ↦ later
    ]

rising_same : (ps qs : List Posting) → AllPairs IsNameBelow ps → AllPairs IsNameBelow qs
    → All (Contains qs) ps → All (Contains ps) qs → ps ≡ qs
rising_same [] [] a b one other = refl
rising_same [] (q ∷ qs) a b one other = absurd (omega (arith, (other 0 q (omega arith)).1))
rising_same (p ∷ ps) [] a b one other = absurd (omega (arith, (one 0 p (omega arith)).1))
rising_same (p ∷ ps) (q ∷ qs) a b one other =
    let first : p ≡ q = same_first p q ps qs a b (one 0 p (omega arith)) (other 0 q (omega arith))
    in
    let rest = rising_same ps qs (rising_tail p ps a) (rising_tail q qs b)
    (rest_in p q ps qs first a (λ k d h. one (suc k) d (omega arith)))
    (rest_in q p qs ps (sym first) b (λ k d h. other (suc k) d (omega arith))) in
    λ i. first i ∷ rest i

-- what one table has, another has
all_in : (named : List NamedHit) (one other : List Posting) → IsTableOf named one
    → IsTableOf named other → All (Contains other) one
all_in named one other a b = λ k d h.
    let p = get_or one k d in
    let there : Contains (map (λ (p : Posting). p.name) other) p.name =
    (b.names p.name).1 ((a.names p.name).0 (contains-mapped (λ (p : Posting). p.name) one k d h)) in
    let within : there.0 < length other = omega
    (arith, there.1, length-map other (λ (p : Posting). p.name)) in
    let q = get_or other there.0 p in
    let name : q.name ≡ p.name = sym (get_or-map (λ (p : Posting). p.name) other there.0 p p.name
    within) ∙ there.2 in
    let hits : q.hits ≡ p.hits = b.hits there.0 p within ∙ ap (λ n. hits_named n named) name
    ∙ sym (a.hits k d h) in
    (there.0, within, λ i. record { name = name i; hits = hits i })

pub same_table : (named : List NamedHit) (one other : List Posting) → IsTableOf named one
    → IsTableOf named other → one ≡ other
same_table named one other a b =
    rising_same one other a.rising b.rising (all_in named one other a b)
    (all_in named other one b a)
