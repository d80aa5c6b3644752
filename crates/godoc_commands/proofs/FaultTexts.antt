-- Words and numbers that are escaped one after another.
use Rattle.std.proofs.Common.{◌≡◌, ℕ, ◌<◌, ◌^◌, List, [], ◌∷◌, ◌++◌, refl, ap, ◌∙◌, sym}
use Rattle.std.proofs.Common.{append_assoc, arith}
use Rattle.std.specs.Prelude.{decimal}
use Rattle.std.specs.Str.Parse.{AllDigits}
use Rattle.std.proofs.lemmas.Bool.Decides.{nat_tests}
use Rattle.std.proofs.lemmas.Fmt.{decimal_is_IsNumeral}
use Rattle.std.proofs.lemmas.Grind.{flat_map-append}
use Rattle.std.proofs.lemmas.List.Concat.{flat_map-cons}
use Rattle.std.proofs.lemmas.Str.Parse.{digit_from_value}
use Rattle.text_out.specs.Escape.{escape_of, escaped}

digit_escapes : (b : ℕ) → 47 < b → b < 58 → escape_of b ≡ b ∷ []
digit_escapes b low high = grind (arith, nat_tests)

digits_escaped : (ds : List ℕ) → AllDigits 10 ds → escaped ds ≡ ds
digits_escaped [] h = refl
digits_escaped (d ∷ ds) h =
    let range = digit_from_value d h.0 in
    flat_map-cons escape_of d ds
    ∙ ap (λ t. t ++ escaped ds) (digit_escapes d (omega (arith, range.0)) (omega (arith, range.1)))
    ∙ ap (λ t. d ∷ t) (digits_escaped ds h.1)

number_escaped : (n : ℕ) → n < 2 ^ 64 → escaped (decimal n) ≡ decimal n
number_escaped n h = digits_escaped (decimal n) (decimal_is_IsNumeral n h).0.1

-- two texts, the second after the first
pub two_escaped : (old a b one new : List ℕ) → one ≡ old ++ escaped a → new ≡ one ++ escaped b
    → new ≡ old ++ escaped (a ++ b)
two_escaped old a b one new e f =
    f ∙ ap (λ t. t ++ escaped b) e ∙ append_assoc old (escaped a) (escaped b)
    ∙ ap (λ t. old ++ t) (sym (flat_map-append escape_of a b))

-- words, and a number after them
pub numbered : (old words one new : List ℕ) (n : ℕ) → n < 2 ^ 64 → one ≡ old ++ escaped words
    → new ≡ one ++ decimal n
    → new ≡ old ++ escaped (words ++ decimal n)
numbered old words one new n h e f =
    two_escaped old words (decimal n) one new e
    (f ∙ ap (λ t. one ++ t) (sym (number_escaped n h)))
