-- Packages whose paths rise are told apart by which there are.
use Rattle.std.proofs.Common.{◌≡◌, ℕ, zero, suc, ◌<◌, ◌⊎◌, inl, inr, ⊎_elim, List, [], ◌∷◌, map}
use Rattle.std.proofs.Common.{get_or, length, refl, sym, ap, subst, ◌∙◌, true≢false, arith}
use Rattle.std.specs.Prelude.{⊤}
use Rattle.std.specs.Cmp.Lexicographic.{nat_list_cmp_total, slice_cmp}
use Rattle.std.specs.List.{AllByRecursion}
use Rattle.std.specs.List.Sorted.{IsStrictlySortedBy}
use Rattle.std.specs.Ordering.{is_eq, nat_cmp}
use Rattle.std.specs.Str.{bytes_eq}
use Rattle.std.specs.declared.cmp.Ordering.TheVariants.{Less}
use Rattle.std.proofs.lemmas.List.Folds.{Any-from_list_any, list_any_at}
use Rattle.std.proofs.lemmas.Map.Text.{is_eq-slice_cmp}
use Rattle.std.proofs.lemmas.Slice.Eq.{bytes_eq-Decides}
use Rattle.tree_io.specs.Path.{IsRising}
use Rattle.package_group.specs.declared.facts.FileFact.{FileFact}
use Rattle.package_group.specs.declared.facts.Grouped.{Grouped}
use Rattle.package_group.specs.declared.facts.Package.{Package}
use Rattle.package_group.specs.Groups.{IsGrouping, package_in}
use Rattle.package_group.proofs.Lists.{bytes_eq-same}

abbrev paths_of : List Package → List (List ℕ)
paths_of packages = map (λ (p : Package). p.path) packages

abbrev IsIn : Package → List Package → Type 0
IsIn p [] = ⊥
IsIn p (q ∷ qs) = (p ≡ q) ⊎ IsIn p qs

abbrev AreIn : List Package → List Package → Type 0
AreIn [] qs = ⊤
AreIn (p ∷ ps) qs = IsIn p qs × AreIn ps qs

is_in_at : (packages : List Package) (k : ℕ) (d : Package) → k < length packages
    → IsIn (get_or packages k d) packages
is_in_at [] k d below = absurd (omega arith)
is_in_at (p ∷ ps) zero d below = inl refl
is_in_at (p ∷ ps) (suc k) d below = inr (is_in_at ps k d (omega arith))

are_in_from : (ps qs : List Package) → ((k : ℕ) (d : Package) → k < length ps → IsIn (get_or ps k d)
    qs) → AreIn ps qs
are_in_from [] qs all = tt
are_in_from (p ∷ ps) qs all = (
  all 0 p (omega arith),
  are_in_from ps qs
      (λ k d below. all (suc k) d (omega arith)),
)

never_less : (path : List ℕ) → slice_cmp nat_cmp path path ≡ Less → ⊥
never_less path less = true≢false (sym (is_eq-slice_cmp path path ∙ bytes_eq-same path) ∙ ap is_eq
    less)

not_both : (a b : List ℕ) → slice_cmp nat_cmp a b ≡ Less → slice_cmp nat_cmp b a ≡ Less → ⊥
not_both a b less back = never_less a (nat_list_cmp_total.trans a b a less back)

above : (path : List ℕ) (p : Package) (ps : List Package)
    → AllByRecursion (λ q. slice_cmp nat_cmp path q ≡ Less) (paths_of ps) → IsIn p ps
    → slice_cmp nat_cmp path p.path ≡ Less
above path p [] all inside = absurd inside
above path p (q ∷ qs) all inside = ⊎_elim
    (λ (here : p ≡ q). subst (λ (r : Package). slice_cmp nat_cmp path r.path ≡ Less) (sym here)
    all.0)
    (λ (later : IsIn p qs). above path p qs all.1 later)
    inside

-- the first of one list is the first of the other
same_first : (p q : Package) (ps qs : List Package)
    → AllByRecursion (λ r. slice_cmp nat_cmp p.path r ≡ Less) (paths_of ps)
    → AllByRecursion (λ r. slice_cmp nat_cmp q.path r ≡ Less) (paths_of qs)
    → IsIn p (q ∷ qs) → IsIn q (p ∷ ps) → p ≡ q
same_first p q ps qs one other inside back = ⊎_elim
    (λ (here : p ≡ q). here)
    (λ (later : IsIn p qs). ⊎_elim
    (λ (here : q ≡ p). sym here)
    (λ (behind : IsIn q ps). absurd (not_both q.path p.path (above q.path p qs other later)
    (above p.path q ps one behind)))
    back)
    inside

-- what is in a list, and isn't its first
behind_first : (first p : Package) (qs : List Package) → slice_cmp nat_cmp first.path p.path ≡ Less
    → IsIn p (first ∷ qs) → IsIn p qs
behind_first first p qs less inside = ⊎_elim
    (λ (here : p ≡ first). absurd (never_less first.path (subst
    (λ (r : Package). slice_cmp nat_cmp first.path r.path ≡ Less) here less)))
    (λ (later : IsIn p qs). later)
    inside

rest_in : (first : Package) (ps qs : List Package)
    → AllByRecursion (λ r. slice_cmp nat_cmp first.path r ≡ Less) (paths_of ps)
    → AreIn ps (first ∷ qs) → AreIn ps qs
rest_in first [] qs all inside = tt
rest_in first (p ∷ ps) qs all inside = (
  behind_first first p qs all.0 inside.0,
  rest_in first ps qs
      all.1 inside.1,
)

rising_same : (ps qs : List Package) → IsRising (paths_of ps) → IsRising (paths_of qs) → AreIn ps qs
    → AreIn qs ps → ps ≡ qs
unfolding IsStrictlySortedBy
rising_same [] [] a b one other = refl
rising_same [] (q ∷ qs) a b one other = absurd other.0
rising_same (p ∷ ps) [] a b one other = absurd one.0
rising_same (p ∷ ps) (q ∷ qs) a b one other =
    let first : p ≡ q = same_first p q ps qs a.0 b.0 one.0 other.0 in
    let front = subst (λ (r : Package). AreIn ps (r ∷ qs)) (sym first) one.1 in
    let back = subst (λ (r : Package). AreIn qs (r ∷ ps)) first other.1 in
    let rest = rising_same ps qs a.1 b.1 (rest_in p ps qs a.0 front) (rest_in q qs ps b.0 back) in
    λ i. first i ∷ rest i

-- the packages of one grouping are those of another
all_in : (prefix : List ℕ) (files : List FileFact) (one other : Grouped)
    → IsGrouping prefix files one → IsGrouping prefix files other
    → AreIn one.packages other.packages
all_in prefix files one other a b = are_in_from one.packages other.packages (λ k d below.
    let p = get_or one.packages k d in
    let here = list_any_at (λ (q : Package). bytes_eq p.dir q.dir) one.packages k d below
    (bytes_eq-same p.dir) in
    let some = Any-from_list_any (λ (q : Package). bytes_eq p.dir q.dir) other.packages
    (b.folders p.dir ∙ sym (a.folders p.dir) ∙ here) in
    let q = some.1 in
    let is : q ≡ package_in prefix files q.dir = subst
    (λ (r : Package). r ≡ package_in prefix files r.dir) some.3 (b.packages some.0 q some.2) in
    let dir : p.dir ≡ q.dir = (bytes_eq-Decides p.dir q.dir).0 some.4 in
    let same : p ≡ q = a.packages k d below ∙ ap (package_in prefix files) dir ∙ sym is in
    subst (λ (r : Package). IsIn r other.packages) (some.3 ∙ sym same)
    (is_in_at other.packages some.0 q some.2))

-- two groupings of the same files are equal
pub same_grouping : (prefix : List ℕ) (files : List FileFact) (one other : Grouped)
    → IsGrouping prefix files one → IsGrouping prefix files other → one ≡ other
same_grouping prefix files one other a b =
    let packages = rising_same one.packages other.packages a.rising b.rising
    (all_in prefix files one other a b) (all_in prefix files other one b a) in
    let others = a.others ∙ sym b.others in
    λ i. record { packages = packages i; others = others i }
