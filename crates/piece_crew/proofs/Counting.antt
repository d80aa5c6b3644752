-- Sums over the views of a claim word, and how often a number stands in a list.
use Rattle.std.proofs.Common.{◌≡◌, ℕ, zero, suc, ◌+◌, ◌<◌, ◌≤◌, ◌==◌, if◌then◌else◌, List, [], ◌∷◌, ◌++◌, set, All, refl, sym, ap, arith}
use Rattle.std.proofs.lemmas.Bool.Decides.{nat_tests}
use Rattle.std.proofs.lemmas.List.Elements.{All-nil, All-cons}
use mathlib.Core.Option.{some, some-injective, some-ne-none}
use native.Mathlib.Decide.{dec_lt}
use lib.ListN.{get_elem?}
use Rattle.piece_crew.specs.declared.rule.View.{View}
use Rattle.piece_crew.specs.Claims.{once_below, times}
use Rattle.piece_crew.specs.Rule.{total_of}

pub total_set : (f : View → ℕ) (views : List View) (seat : ℕ) (v w : View) → get_elem? views seat ≡ some v → total_of f (set views seat w) + f v ≡ total_of f views + f w
total_set f [] seat v w e = absurd (some-ne-none v (sym e))
total_set f (x ∷ xs) zero v w e = let same : f x ≡ f v = ap f (some-injective x v e) in omega arith
total_set f (x ∷ xs) (suc i) v w e = omega (arith, total_set f xs i v w e)

pub total_same : (f : View → ℕ) (views : List View) (seat : ℕ) (v w : View) → get_elem? views seat ≡ some v → f w ≡ f v → total_of f (set views seat w) ≡ total_of f views
total_same f views seat v w e same = omega (arith, total_set f views seat v w e, same)

pub total_at : (f : View → ℕ) (views : List View) (seat : ℕ) (v : View) → get_elem? views seat ≡ some v → f v ≤ total_of f views
total_at f [] seat v e = absurd (some-ne-none v (sym e))
total_at f (x ∷ xs) zero v e = let same : f x ≡ f v = ap f (some-injective x v e) in omega arith
total_at f (x ∷ xs) (suc i) v e = omega (arith, total_at f xs i v e)

pub total_le : (f g : View → ℕ) (views : List View) → ((seat : ℕ) (v : View) → get_elem? views seat ≡ some v → f v ≤ g v) → total_of f views ≤ total_of g views
total_le f g [] h = omega arith
total_le f g (x ∷ xs) h = let a = h 0 x refl in let b = total_le f g xs (λ i v e. h (suc i) v e) in omega arith

pub total_push : (f : View → ℕ) (views : List View) (w : View) → total_of f (views ++ w ∷ []) ≡ total_of f views + f w
total_push f [] w = omega arith
total_push f (x ∷ xs) w = omega (arith, total_push f xs w)

-- where g is 0 at every view, and f wherever g is, f adds up to 0
total_none : (f g : View → ℕ) (views : List View) → total_of g views ≡ 0 → ((seat : ℕ) (v : View) → get_elem? views seat ≡ some v → g v ≡ 0 → f v ≡ 0) → total_of f views ≡ 0
total_none f g [] e h = refl
total_none f g (x ∷ xs) e h =
    let a = h 0 x refl (omega arith) in
    let b = total_none f g xs (omega arith) (λ i v at. h (suc i) v at) in
    omega arith

-- where one view has all of g, it has all of f
pub total_only : (f g : View → ℕ) (views : List View) (seat : ℕ) (v : View) → get_elem? views seat ≡ some v → total_of g views ≡ g v → ((seat : ℕ) (v : View) → get_elem? views seat ≡ some v → g v ≡ 0 → f v ≡ 0) → total_of f views ≡ f v
total_only f g [] seat v at e h = absurd (some-ne-none v (sym at))
total_only f g (x ∷ xs) zero v at e h =
    let same : f x ≡ f v = ap f (some-injective x v at) in
    let same' : g x ≡ g v = ap g (some-injective x v at) in
    let none = total_none f g xs (omega arith) (λ i u there. h (suc i) u there) in
    omega arith
total_only f g (x ∷ xs) (suc i) v at e h =
    let most = total_at g xs i v at in
    let none = h 0 x refl (omega arith) in
    let rest = total_only f g xs i v at (omega arith) (λ j u there. h (suc j) u there) in
    omega arith

pub times-append : (x : ℕ) (xs ys : List ℕ) → times x (xs ++ ys) ≡ times x xs + times x ys
times-append x [] ys = omega arith
times-append x (y ∷ xs) ys = omega (arith, times-append x xs ys)

-- one more number below the end
pub below-more : (x n : ℕ) → once_below x (n + 1) ≡ once_below x n + (if n == x then 1 else 0)
below-more x n = grind (arith, nat_tests)

pub below-past : (x n : ℕ) → n ≤ x → once_below x n ≡ 0
below-past x n past = grind (arith, nat_tests)

pub below-within : (x n : ℕ) → x < n → once_below x n ≡ 1
below-within x n within = grind (arith, nat_tests)

here : (y : ℕ) (xs : List ℕ) → 1 ≤ times y (y ∷ xs)
here y xs = grind (arith, nat_tests)

below_head_at : (n y : ℕ) (xs : List ℕ) → ((x : ℕ) → n ≤ x → times x (y ∷ xs) ≡ 0) → Dec (y < n) → y < n
below_head_at n y xs h (yes p) = p
below_head_at n y xs h (no p) = let le : n ≤ y = omega arith in let e = h y le in let a = here y xs in omega arith

below_head : (n y : ℕ) (xs : List ℕ) → ((x : ℕ) → n ≤ x → times x (y ∷ xs) ≡ 0) → y < n
below_head n y xs h = below_head_at n y xs h (dec_lt y n)

-- a list without a number of n or more has numbers below n alone
pub all_below : (n : ℕ) (xs : List ℕ) → ((x : ℕ) → n ≤ x → times x xs ≡ 0) → All (λ k. k < n) xs
all_below n [] h = All-nil (λ k. k < n)
all_below n (y ∷ xs) h = All-cons (λ k. k < n) y xs (below_head n y xs h) (all_below n xs (λ x le. let e = h x le in omega arith))
