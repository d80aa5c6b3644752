-- The hits that are gathered under names.
use Rattle.std.proofs.Common.{◌≡◌, ℕ, Bool, true, false, ◌||◌, List, ◌++◌, map, filter, refl, ap}
use Rattle.std.proofs.Common.{◌∙◌}
use Rattle.std.specs.Str.{bytes_eq}
use Rattle.std.proofs.lemmas.List.{map-append}
use Rattle.std.proofs.lemmas.List.Elements.{filter-append}
use Rattle.ident_index.specs.Postings.{NamedHit, hits_named}

pub hits_named-append : (q : List ℕ) (xs ys : List NamedHit) → hits_named q (xs ++ ys)
    ≡ hits_named q xs ++ hits_named q ys
hits_named-append q xs ys =
    ap (map (λ (n : NamedHit). n.hit)) (filter-append (λ (n : NamedHit). bytes_eq q n.name) xs ys)
    ∙ map-append (λ (n : NamedHit). n.hit) (filter (λ (n : NamedHit). bytes_eq q n.name) xs)
    (filter (λ (n : NamedHit). bytes_eq q n.name) ys)

or-false : (b : Bool) → (b || false) ≡ b
or-false true = refl
or-false false = refl
