-- What the first of some names at an offset is.
use Rattle.std.proofs.Common.{◌≡◌, ◌<◌, ℕ, Bool, true, false, List, All, filter, length, get_or}
use Rattle.std.proofs.Common.{sym, ap, ◌∙◌, arith, inl, inr}
use Rattle.std.specs.Prelude.{◌==◌}
use Rattle.std.specs.List.{find}
use Rattle.std.specs.List.Sorted.{IsNonDecreasingBy, IsStableByKey, ties}
use Rattle.std.specs.Option.{option_map_or}
use Rattle.std.specs.Ordering.{is_lt, nat_cmp}
use Rattle.std.proofs.lemmas.Bool.{cases_lt}
use Rattle.std.proofs.lemmas.Bool.Decides.{nat_tests}
use Rattle.std.proofs.lemmas.List.Elements.{filter_agree}
use Rattle.ident_index.specs.declared.hit.HitKind.TheVariants.{Usage}
use Rattle.ident_index.specs.Hits.{kind_at}
use Rattle.ident_index.specs.Naming.{Name}
use Rattle.ident_index.specs.Places.{AreNamesBefore}
use Rattle.ident_index.proofs.Lists.{find-at, find-filter, find-nowhere}

abbrev stands_at : ℕ → Name → Bool
stands_at offset name = name.0 == offset

module _ (names : List Name) (offset before : ℕ) (so_many : AreNamesBefore names offset before)
  where
    earlier : (k : ℕ) (d : Name) → k < before → stands_at offset (get_or names k d) ≡ false
    earlier k d h = let less = so_many.before k d h in grind (arith, nat_tests, less)

    -- the first name that isn't before the offset stands there
    pub first_there : (d : Name) → before < length names → (get_or names before d).0 ≡ offset
        → (get_or names before d).1 ≡ kind_at names offset
    first_there d within there =
        let passes : stands_at offset (get_or names before d)
        ≡ true = grind (arith, nat_tests, there) in
        sym (ap (λ o. option_map_or (λ (n : Name). n.1) o Usage)
        (find-at (stands_at offset) names before d within passes (λ k h. earlier k d h)))

    -- the first name that isn't before the offset, if any, stands beyond it
    pub none_there : IsNonDecreasingBy (λ (n : Name). n.0) names
        → ((d : Name) → before < length names → offset < (get_or names before d).0)
        → Usage ≡ kind_at names offset
    none_there rising beyond =
        let nowhere : All (λ n. stands_at offset n ≡ false) names = λ k d h. elim (cases_lt k before) [
          | inl less ↦ earlier k d less
          | inr more ↦
              let far = beyond d (omega (arith, more, h)) in
              let up = rising before k d more h in
              grind (arith, nat_tests, far, up)
        ] in
        sym (ap (λ o. option_map_or (λ (n : Name). n.1) o Usage)
        (find-nowhere (stands_at offset) names nowhere))

ties_there : (offset : ℕ) (n : Name) → ties (λ (x y : Name). is_lt (nat_cmp x.0 y.0))
    (offset, Usage) n ≡ stands_at offset n
ties_there offset n = grind (arith, nat_tests)

-- a stable sort by the offsets keeps which is the first at an offset
pub kind_sorted : (names sorted : List Name) (offset : ℕ)
    → IsStableByKey (λ (n : Name). n.0) nat_cmp names sorted → kind_at sorted offset
    ≡ kind_at names offset
kind_sorted names sorted offset stable =
    let agree = filter_agree (ties (λ (x y : Name). is_lt (nat_cmp x.0 y.0)) (offset, Usage))
    (stands_at offset) (ties_there offset) in
    let same : filter (stands_at offset) sorted
    ≡ filter (stands_at offset) names = sym (agree sorted) ∙ stable (offset, Usage)
    ∙ agree names in
    ap (λ o. option_map_or (λ (n : Name). n.1) o Usage)
    (find-filter (stands_at offset) sorted ∙ ap (find (stands_at offset)) same
    ∙ sym (find-filter (stands_at offset) names))
