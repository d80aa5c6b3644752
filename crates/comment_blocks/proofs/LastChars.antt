-- The last character of a text.
use Rattle.std.proofs.Common.{◌≡◌, ℕ, zero, suc, ◌<◌, ◌≤◌, List, [], ◌∷◌, ◌++◌, length, take, drop}
use Rattle.std.proofs.Common.{Option, Some, None}
use Rattle.std.proofs.Common.{refl, sym, ◌∙◌, ap, arith, ⊎_elim, IsUtf8}
use lib.Utf8.{encodes}
use Rattle.std.specs.List.{last_or}
use Rattle.std.specs.Str.{IsCharBoundary, chars}
use Rattle.std.proofs.lemmas.Bool.{cases_lt}
use Rattle.std.proofs.lemmas.List.{length-drop, take-append-drop}
use Rattle.std.proofs.lemmas.Str.{IsUtf8-drop, IsUtf8-take, chars-append, encodes-chars}

open_end : (text : List ℕ) (place : ℕ) → length text ≡ 0 → drop place text ≡ text
open_end [] zero none = refl
open_end [] (suc place) none = refl
open_end (b ∷ text) place none = absurd (omega arith)

last_of_back : (o : Option ℕ) (xs ys : List ℕ) → (ys ≡ [] → ⊥)
    → last_or o (xs ++ ys) ≡ last_or None ys
last_of_back o [] [] some = absurd (some refl)
last_of_back o [] (y ∷ ys) some = refl
last_of_back o (x ∷ xs) ys some = last_of_back (Some x) xs ys some

-- the last character of what stands after a place is that of the whole
pub last_behind : (text : List ℕ) (place : ℕ) → IsUtf8 text → IsCharBoundary text place
    → place < length text → last_or None (chars (drop place text)) ≡ last_or None (chars text)
last_behind text place utf8 boundary within =
    let front = IsUtf8-take text place utf8 boundary in
    let back = IsUtf8-drop text place utf8 boundary in
    let some : chars (drop place text) ≡ [] → ⊥ = λ none.
    let nothing : length (drop place text) ≡ 0 =
    ap length (sym (encodes-chars (drop place text) back) ∙ ap encodes none) in
    absurd (omega (arith, nothing, length-drop place text)) in
    sym (ap (λ t. last_or None (chars t)) (sym (take-append-drop place text))
    ∙ ap (last_or None) (chars-append (take place text) (drop place text) front)
    ∙ last_of_back None (chars (take place text)) (chars (drop place text)) some)

-- and so it is where the text may be empty
pub last_from : (text : List ℕ) (place : ℕ) → IsUtf8 text → IsCharBoundary text place
    → (0 < length text → place < length text)
    → last_or None (chars (drop place text)) ≡ last_or None (chars text)
last_from text place utf8 boundary within = ⊎_elim
    (λ (some : 0 < length text). last_behind text place utf8 boundary (within some))
    (λ (none : length text ≤ 0).
    ap (λ t. last_or None (chars t)) (open_end text place (omega arith)))
    (cases_lt 0 (length text))
