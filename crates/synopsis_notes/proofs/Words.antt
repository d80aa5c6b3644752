-- Words in any case of ASCII letters.
use Rattle.std.proofs.Common.{◌≡◌, ℕ, Bool, true, false, List, [], ◌∷◌, refl, sym, ◌∙◌, ap}
use Rattle.std.proofs.Common.{map, take, length}
use Rattle.std.specs.Prelude.{◌↔◌, ◌&&◌}
use Rattle.std.specs.Char.{eq_ignore_ascii_case, to_ascii_lowercase}
use Rattle.std.specs.Cmp.Lexicographic.{pointwise}
use Rattle.std.specs.Str.{bytes_eq}
use Rattle.std.proofs.lemmas.Slice.Eq.{bytes_eq-Decides}

abbrev lowered : List ℕ → List ℕ
lowered text = map to_ascii_lowercase text

by_lowered : (xs ys : List ℕ) → pointwise eq_ignore_ascii_case xs ys
    ≡ bytes_eq (lowered xs) (lowered ys)
by_lowered [] [] = refl
by_lowered [] (y ∷ ys) = refl
by_lowered (x ∷ xs) [] = refl
by_lowered (x ∷ xs) (y ∷ ys) = ap (λ b. eq_ignore_ascii_case x y && b) (by_lowered xs ys)

same_answer : (a b : Bool) → (a ≡ true → b ≡ true) → (b ≡ true → a ≡ true) → a ≡ b
same_answer true b there back = sym (there refl)
same_answer false true there back = back refl
same_answer false false there back = refl

pub front_tested : (answer : Bool) (word text front : List ℕ) → front ≡ take (length word) text
    → ((answer ≡ true) ↔ (lowered front ≡ lowered word))
    → answer ≡ pointwise eq_ignore_ascii_case word (take (length word) text)
front_tested answer word text front is tests =
    same_answer answer (bytes_eq (lowered word) (lowered front))
    (λ yes. (bytes_eq-Decides (lowered word) (lowered front)).1 (sym (tests.0 yes)))
    (λ yes. tests.1 (sym ((bytes_eq-Decides (lowered word) (lowered front)).0 yes)))
    ∙ sym (by_lowered word front) ∙ ap (pointwise eq_ignore_ascii_case word) is
