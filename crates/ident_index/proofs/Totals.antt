-- A table has as many hits as the list that it is the table of.
use Rattle.std.proofs.Common.{◌≡◌, ◌+◌, ◌<◌, ℕ, suc, Bool, true, false, cond, List, [], ◌∷◌, length}
use Rattle.std.proofs.Common.{map, filter, get_or, All, AllPairs, Contains, inl, inr, refl, sym, ap}
use Rattle.std.proofs.Common.{subst, ◌∙◌, arith}
use Rattle.std.specs.List.{sum_by}
use Rattle.std.specs.Str.{bytes_eq}
use Rattle.std.specs.Ordering.{nat_cmp}
use Rattle.std.specs.Cmp.Lexicographic.{slice_cmp}
use Rattle.std.specs.declared.cmp.Ordering.TheVariants.{Less}
use Rattle.std.proofs.lemmas.List.{get_or-map, length-map}
use Rattle.std.proofs.lemmas.List.Elements.{All-head, All-tail}
use Rattle.std.proofs.lemmas.List.Sums.{sum_by-cons}
use Rattle.std.proofs.lemmas.Slice.Eq.{bytes_eq-Decides}
use Rattle.ident_index.specs.Postings.{IsNameBelow, IsTableOf, NamedHit, Posting, hits_named}
use Rattle.ident_index.proofs.Finding.{bytes_eq-sym, contains-mapped, unlike_name}
use Rattle.ident_index.proofs.OneTable.{contains_below, rising_tail}

abbrev one_if : Bool → ℕ
one_if b = cond b 1 0

-- one for each posting of the name
abbrev has : List ℕ → Posting → ℕ
has name p = one_if (bytes_eq p.name name)

abbrev count : List NamedHit → Posting → ℕ
count named p = length (hits_named p.name named)

one_counted : (b : Bool) (n : NamedHit) (rest : List NamedHit)
    → length (map (λ (m : NamedHit). m.hit) (cond b (n ∷ rest) rest))
    ≡ one_if b + length (map (λ (m : NamedHit). m.hit) rest)
one_counted true n rest = omega arith
one_counted false n rest = omega arith

counted_more : (n : NamedHit) (ns : List NamedHit) (p : Posting) → count (n ∷ ns) p
    ≡ has n.name p + count ns p
counted_more n ns p = one_counted (bytes_eq p.name n.name) n
    (filter (λ (m : NamedHit). bytes_eq p.name m.name) ns)

sum_more : (n : NamedHit) (ns : List NamedHit) (ps : List Posting) → sum_by (count (n ∷ ns)) ps
    ≡ sum_by (has n.name) ps + sum_by (count ns) ps
sum_more n ns [] = refl
sum_more n ns (p ∷ ps) =
    omega (
      arith,
      sum_by-cons (count (n ∷ ns)) p ps,
      sum_by-cons (has n.name) p ps,
      sum_by-cons (count ns) p ps,
      counted_more n ns p,
      sum_more n ns ps,
    )

sum_none : (f : Posting → ℕ) (ps : List Posting) → All (λ p. f p ≡ 0) ps → sum_by f ps ≡ 0
sum_none f [] none = refl
sum_none f (p ∷ ps) none =
    omega (
      arith,
      sum_by-cons f p ps,
      All-head (λ p. f p ≡ 0) p ps none,
      sum_none f ps
          (All-tail (λ p. f p ≡ 0) p ps none),
    )

-- a name that stands later isn't the first
not_first : (p : Posting) (ps : List Posting) (name : List ℕ) → AllPairs IsNameBelow (p ∷ ps)
    → Contains (map (λ (p : Posting). p.name) ps) name
    → has name p ≡ 0
not_first p ps name rising there =
    let i = there.0 in
    let within : i < length ps = omega (arith, there.1, length-map ps (λ (p : Posting). p.name)) in
    let is : (get_or ps i p).name ≡ name = sym
    (get_or-map (λ (p : Posting). p.name) ps i p name within) ∙ there.2 in
    let below : slice_cmp nat_cmp p.name name ≡ Less =
    subst (λ n. slice_cmp nat_cmp p.name n ≡ Less) is
    (rising 0 (suc i) p (omega arith) (omega (arith, within))) in
    ap one_if (bytes_eq-sym p.name name ∙ unlike_name p.name name Less below refl)

-- a name that stands there stands there once
has_once : (ps : List Posting) (name : List ℕ) → AllPairs IsNameBelow ps
    → Contains (map (λ (p : Posting). p.name) ps) name → sum_by (has name) ps ≡ 1
has_once [] name rising there = absurd (omega (arith, there.1))
has_once (p ∷ ps) name rising there =
    elim (contains_below p.name name (map (λ (p : Posting). p.name) ps) there) [
      | inl is ↦
          let here : has name p ≡ 1 = ap one_if ((bytes_eq-Decides p.name name).1 (sym is)) in
          let none : All (λ q. has name q ≡ 0) ps = λ k d h.
          let below : slice_cmp nat_cmp p.name (get_or ps k d).name
          ≡ Less = rising 0 (suc k) d (omega arith) (omega (arith, h)) in
          ap one_if (ap (bytes_eq (get_or ps k d).name) is
          ∙ unlike_name p.name (get_or ps k d).name Less below refl) in
          omega (arith, sum_by-cons (has name) p ps, here, sum_none (has name) ps none)
      | inr later ↦
          omega (
            arith,
            sum_by-cons (has name) p ps,
            not_first p ps name rising later,
            has_once ps
                name (rising_tail p ps rising) later,
          )
    ]

all_counted : (named : List NamedHit) (ps : List Posting) → AllPairs IsNameBelow ps
    → All (λ n. Contains (map (λ (p : Posting). p.name) ps) n.name) named
    → sum_by (count named) ps ≡ length named
all_counted [] ps rising there = sum_none (count []) ps (λ k d h. refl)
all_counted (n ∷ ns) ps rising there =
    omega (
      arith,
      sum_more n ns ps,
      has_once ps n.name rising (All-head (λ (n : NamedHit). Contains
          (map (λ (p : Posting). p.name) ps) n.name) n ns there),
      all_counted ns ps rising (All-tail (λ (n : NamedHit). Contains
          (map (λ (p : Posting). p.name) ps) n.name) n ns there),
    )

sum_same : (f g : Posting → ℕ) (ps : List Posting) → All (λ p. f p ≡ g p) ps → sum_by f ps
    ≡ sum_by g ps
sum_same f g [] same = refl
sum_same f g (p ∷ ps) same =
    omega (
      arith,
      sum_by-cons f p ps,
      sum_by-cons g p ps,
      All-head (λ p. f p ≡ g p) p ps same,
      sum_same f g ps (All-tail (λ p. f p ≡ g p) p ps same),
    )

pub total_of_table : (named : List NamedHit) (postings : List Posting) → IsTableOf named postings
    → sum_by (λ p. length p.hits) postings ≡ length named
total_of_table named postings table =
    sum_same (λ p. length p.hits) (count named) postings (λ k d h. ap length (table.hits k d h))
    ∙ all_counted named postings table.rising
    (λ k d h. (table.names (get_or named k d).name).1
    (contains-mapped (λ (n : NamedHit). n.name) named k d h))
