-- The codes of escapes are small.
use Rattle.std.proofs.Common.{◌≡◌, ℕ, ◌<◌, ◌^◌, ◌==◌, ◌&&◌, true, List, [], ◌∷◌, length, arith}
use Rattle.std.specs.Char.{is_ascii_hexdigit}
use Rattle.std.specs.List.{list_all}
use Rattle.std.proofs.lemmas.Bool.{and_parts, eqb-true}
use Rattle.std.proofs.lemmas.Bool.Decides.{nat_tests}
use Rattle.go_ast.specs.Texts.{is_hexadecimal_escape, is_coded, is_scalar, value_of}
use Rattle.go_literals.proofs.Lists.{by_if}

scalar_small : (c : ℕ) → is_scalar c ≡ true → c < 2 ^ 32
scalar_small c h = grind (arith, nat_tests, h)

two_small : (digits : List ℕ) → list_all is_ascii_hexdigit digits ≡ true → length digits ≡ 2
    → value_of 16 digits < 2 ^ 32
two_small [] h e = omega arith
two_small (a ∷ []) h e = absurd (omega arith)
two_small (a ∷ b ∷ []) h e =
    let one = and_parts (is_ascii_hexdigit a) (list_all is_ascii_hexdigit (b ∷ [])) h in
    let two = and_parts (is_ascii_hexdigit b) true one.1 in
    grind (arith, nat_tests, one.0, two.0)
two_small (a ∷ b ∷ c ∷ digits) h e = absurd (omega arith)

pub coded_small : (letter : ℕ) (digits : List ℕ) → is_hexadecimal_escape letter digits ≡ true
    → value_of 16 digits < 2 ^ 32
coded_small letter digits h =
    let parts = and_parts (list_all is_ascii_hexdigit digits) (is_coded letter digits) h in
    by_if (letter == 120) _ _ _ parts.1
    (λ x e. two_small digits parts.0 (eqb-true (length digits) 2 e))
    (λ x e. by_if (letter == 117) _ _ _ e
    (λ u e. scalar_small (value_of 16 digits)
    (and_parts (length digits == 4) (is_scalar (value_of 16 digits)) e).1)
    (λ u e. scalar_small (value_of 16 digits)
    (and_parts (letter == 85 && length digits == 8) (is_scalar (value_of 16 digits)) e).1))
