-- Texts that grow line by line, and runs that shrink.
use Rattle.std.proofs.Common.{◌≡◌, ◌==◌, ℕ, true, false, List, [], ◌∷◌, length, take, refl}
use Rattle.std.proofs.Common.{sym, ap, subst, ⊎_elim}
use Rattle.std.proofs.lemmas.Bool.{cases_Bool, cond-false, cond-true}
use Rattle.comment_blocks.specs.Lists.{common_front}

-- the common beginning is one of the first
pub common_front_take : (xs ys : List ℕ) → take (length (common_front xs ys)) xs
    ≡ common_front xs ys
common_front_take [] ys = refl
common_front_take (x ∷ xs) [] = refl
common_front_take (x ∷ xs) (y ∷ ys) = ⊎_elim
    (λ (same : (x == y) ≡ true).
    let is : common_front (x ∷ xs) (y ∷ ys)
    ≡ x ∷ common_front xs ys = cond-true (x == y) (x ∷ common_front xs ys) [] same in
    subst (λ l. take (length l) (x ∷ xs) ≡ l) (sym is) (ap (λ l. x ∷ l) (common_front_take xs ys)))
    (λ (other : (x == y) ≡ false).
    let is : common_front (x ∷ xs) (y ∷ ys)
    ≡ [] = cond-false (x == y) (x ∷ common_front xs ys) [] other in
    subst (λ l. take (length l) (x ∷ xs) ≡ l) (sym is) refl)
    (cases_Bool (x == y))
