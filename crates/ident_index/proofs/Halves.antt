-- What halving costs.
use Rattle.std.proofs.Common.{◌≡◌, ◌≤◌, ◌<◌, ◌*◌, ◌+◌, ◌^◌, ℕ, arith, mul-le-mul_right, mul_assoc}
use Rattle.std.proofs.Common.{mul_comm, pow-suc, le_trans, one-mul, subst, ◌∙◌, sym, ap}

-- one step more, over at most half as many
pub halved : (n m k all : ℕ) → m * 2 ≤ n → n * 2 ^ k ≤ all → m * 2 ^ (k + 1) ≤ all
halved n m k all small so_far =
    let once : 2 ^ (k + 1) ≡ 2 ^ k * 2 = grind (arith, pow-suc 2 k) in
    let joined : m * 2 ^ (k + 1) ≡ (m * 2) * 2 ^ k = ap (λ p. m * p) (once ∙ mul_comm (2 ^ k) 2)
    ∙ sym (mul_assoc m 2 (2 ^ k)) in
    subst (λ x. x ≤ all) (sym joined) (le_trans (mul-le-mul_right (2 ^ k) small) so_far)

-- where something is left, so many steps were possible
pub counted : (n k all : ℕ) → 0 < n → n * 2 ^ k ≤ all → 2 ^ (k + 1) ≤ 2 * all + 1
counted n k all some so_far =
    let once : 2 ^ (k + 1) ≡ 2 ^ k * 2 = grind (arith, pow-suc 2 k) in
    let least : 1 * 2 ^ k ≤ n * 2 ^ k = mul-le-mul_right (2 ^ k) some in
    omega (arith, once, least, one-mul (2 ^ k))
