-- What checked operations give, as the definitions say it.
use Rattle.std.proofs.Common.{rules, ◌≡◌, ℕ, zero, suc, ◌-◌, ◌*◌, ◌%◌, ◌^◌, ◌<◌, refl, arith, subst}
use Rattle.std.proofs.Common.{ℤ, pos, negsuc, FitsSigned, ◌*ℤ◌, ◌≤ℤ◌, to_z, of_z}
use Rattle.std.specs.Prelude.{Option, Some, None, SomeIff, if◌then◌else◌, nat_le}
use Rattle.std.specs.Int.{CanDivide, w128}
use Rattle.std.proofs.lemmas.Int.{ints, to_z-of_z}
use Rattle.std.proofs.Math.Pow.{pow-lt}
use Rattle.std.specs.Int.RustNames.{int_div}
use Rattle.const_eval.specs.Operators.{within, divided, shifted, times_power}

pub fitted : (r : Option ℤ) (z : ℤ) → SomeIff r (FitsSigned w128 z) z → r ≡ within z
fitted r z h = search (rules, h)

below : (r : Option ℤ) (z : ℤ) (P : Type 0) → P → SomeIff r (P × FitsSigned w128 z) z
    → SomeIff r (FitsSigned w128 z) z
below (Some v) z P p h = (h.0.1, h.1)
below None z P p h = λ f. h (p, f)

pub quotient : (r : Option ℤ) (x y : ℤ) → FitsSigned w128 y
    → SomeIff r (CanDivide w128 x y) (int_div x y) → r ≡ divided int_div x y
quotient (Some v) x (pos zero) f h = absurd (let p : 0 < 0 = h.0.0 in omega arith)
quotient None x (pos zero) f h = refl
quotient r x (pos (suc n)) f h = fitted r (int_div x (pos (suc n)))
    (below r (int_div x (pos (suc n))) _ (let p : 0 < suc n = omega arith in p) h)
quotient r x (negsuc n) f h = fitted r (int_div x (negsuc n))
    (below r (int_div x (negsuc n)) _ (let q : n < 2 ^ 127 = f.sfits in let p :
    0 < 2 ^ 128 - suc n = omega arith in p) h)

counted : (n : ℕ) → n < 127 → (r : Option ℤ) (z : ℤ) → r ≡ within z
    → r ≡ (if nat_le n 127 then within z else None)
counted n few r z e = grind (arith, e)

pub left : (r : Option ℤ) (x count : ℤ) → pos 0 ≤ℤ count → count ≤ℤ pos 126 → FitsSigned w128 x
    → SomeIff r (FitsSigned w128
    (to_z w128 (of_z w128 x) *ℤ to_z w128 (1 * 2 ^ of_z w128 count % 2 ^ 128)))
    (to_z w128 (of_z w128 x) *ℤ to_z w128 (1 * 2 ^ of_z w128 count % 2 ^ 128))
    → r ≡ shifted times_power x count
left r x (pos n) low high fits h =
    let few : n < 127 = omega (arith, ints) in
    let small : 2 ^ n < 2 ^ 127 = pow-lt few in
    let power : to_z w128 (1 * 2 ^ n % 2 ^ 128) ≡ pos (2 ^ n) = omega (arith, ints) in
    let same : to_z w128 (of_z w128 x) ≡ x = to_z-of_z w128 x fits in
    let g : SomeIff r (FitsSigned w128 (x *ℤ pos (2 ^ n))) (x *ℤ pos (2 ^ n)) =
    subst (λ y. SomeIff r (FitsSigned w128 (y *ℤ pos (2 ^ n))) (y *ℤ pos (2 ^ n))) same
    (subst (λ y. SomeIff r (FitsSigned w128 (to_z w128 (of_z w128 x) *ℤ y))
    (to_z w128 (of_z w128 x) *ℤ y)) power h) in
    counted n few r (x *ℤ pos (2 ^ n)) (fitted r (x *ℤ pos (2 ^ n)) g)
left r x (negsuc n) low high fits h = absurd (omega (arith, ints))
