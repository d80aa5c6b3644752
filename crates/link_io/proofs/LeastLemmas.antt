-- Lemmas on the least of some numbers.
use Rattle.std.proofs.Common.{◌≡◌, ℕ, zero, suc, ◌<◌, ◌≤◌, List, [], ◌∷◌, length, min, fold, refl, sym, subst, arith, get_or, ⊎_elim}
use Rattle.std.proofs.lemmas.Bool.{cases_lt}
use Rattle.std.proofs.lemmas.List.Elements.{All-nil, All-cons, All-head, All-tail}
use Rattle.std.specs.Prelude.{Contains}
use Rattle.link_io.specs.Memory.{IsLeastOf}

-- two numbers in place of the lesser of them
least_of_two : (a b : ℕ) (rest : List ℕ) (n : ℕ) → IsLeastOf (min a b ∷ rest) n
    → IsLeastOf (a ∷ b ∷ rest) n
least_of_two a b rest n x =
    let first : n ≤ min a b = All-head (λ k. n ≤ k) (min a b) rest x.least in
    let others = All-tail (λ k. n ≤ k) (min a b) rest x.least in
    record {
      among = at x.among.0 x.among.1 x.among.2;
      least = All-cons (λ k. n ≤ k) a (b ∷ rest) (omega arith)
          (All-cons (λ k. n ≤ k) b rest (omega arith) others);
    }
  where
    at : (k : ℕ) → k < length (min a b ∷ rest) → get_or (min a b ∷ rest) k n ≡ n
        → Contains (a ∷ b ∷ rest) n
    at zero inside is =
        ⊎_elim (λ less. let same : a ≡ n = omega arith in (0, omega arith, same))
        (λ more. let same : b ≡ n = omega arith in (1, omega arith, same)) (cases_lt a b)
    at (suc k) inside is = (suc (suc k), omega arith, is)

pub fold_least : (numbers : List ℕ) (end : ℕ) → IsLeastOf (end ∷ numbers) (fold min end numbers)
fold_least [] end = record {
  among = (0, omega arith, refl);
  least = All-cons (λ k. end ≤ k) end [] (omega arith) (All-nil (λ k. end ≤ k));
}
fold_least (number ∷ numbers) end =
    least_of_two end number numbers (fold min (min end number) numbers)
    (fold_least numbers (min end number))

pub least_with : (number : ℕ) (numbers : List ℕ) (n : ℕ) → IsLeastOf numbers n
    → IsLeastOf (number ∷ numbers) (min number n)
least_with number numbers n x =
    ⊎_elim
    (λ less.
    let is : min number n ≡ number = omega arith in
    subst (IsLeastOf (number ∷ numbers)) (sym is) (record {
      among = (0, omega arith, refl);
      least = All-cons (λ k. number ≤ k) number numbers (omega arith)
          (λ k d inside. let at = x.least k d inside in omega arith);
    }))
    (λ more.
    let is : min number n ≡ n = omega arith in
    let inside = x.among.1 in
    subst (IsLeastOf (number ∷ numbers)) (sym is) (record {
      among = (suc x.among.0, omega arith, x.among.2);
      least = All-cons (λ k. n ≤ k) number numbers more x.least;
    }))
    (cases_lt number n)
