-- An escaped text is harmless.
use Rattle.std.proofs.Common.{◌≡◌, ℕ, true, false, List, [], ◌∷◌, ◌++◌, refl, ◌==◌}
use Rattle.std.specs.Prelude.{not, ◌&&◌, ◌||◌}
use Rattle.std.proofs.lemmas.Bool.{and_from, cond_both, not_from_false, or_from, or_left}
use Rattle.text_out.specs.Escape.{escape_of, escaped}
use Rattle.comment_html.specs.Escapes.{begins_reference, is_harmless, is_markup}

-- a byte that stands for itself
other : (b : ℕ) (rest : List ℕ) → is_harmless rest ≡ true → (b == 38) ≡ false → (b == 60) ≡ false
    → (b == 62) ≡ false → (b == 34) ≡ false → (b == 39) ≡ false
    → is_harmless (b ∷ rest) ≡ true
other b rest safe amp lt gt quote apos =
    and_from (not (is_markup b) && (not (b == 38) || begins_reference (b ∷ rest)))
    (is_harmless rest)
    (and_from (not (is_markup b)) (not (b == 38) || begins_reference (b ∷ rest))
    (not_from_false (is_markup b)
    (or_from (((b == 60) || (b == 62)) || (b == 34)) (b == 39)
    (or_from ((b == 60) || (b == 62)) (b == 34) (or_from (b == 60) (b == 62) lt gt) quote) apos))
    (or_left (not (b == 38)) (begins_reference (b ∷ rest)) (not_from_false (b == 38) amp)))
    safe

step : (b : ℕ) (rest : List ℕ) → is_harmless rest ≡ true → is_harmless (escape_of b ++ rest) ≡ true
step b rest safe =
    let P : List ℕ → Type 0 = λ l. is_harmless (l ++ rest) ≡ true in
    cond_both (b == 38) _ _ P (λ _. safe)
    (λ amp. cond_both (b == 60) _ _ P (λ _. safe)
    (λ lt. cond_both (b == 62) _ _ P (λ _. safe)
    (λ gt. cond_both (b == 34) _ _ P (λ _. safe)
    (λ quote. cond_both (b == 39) _ _ P (λ _. safe)
    (λ apos. other b rest safe amp lt gt quote apos)))))

pub harmless : (text : List ℕ) → is_harmless (escaped text) ≡ true
harmless [] = refl
harmless (b ∷ text) = step b (escaped text) (harmless text)
