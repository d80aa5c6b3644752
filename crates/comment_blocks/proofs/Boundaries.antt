-- Where a text may be cut: after and before bytes of ASCII.
use Rattle.std.proofs.Common.{◌≡◌, ℕ, zero, suc, ◌+◌, ◌<◌, ◌≤◌, Bool, true, false, List, [], ◌∷◌}
use Rattle.std.proofs.Common.{length, get_or, ◌∙◌, ap, subst, cond, ⊎_elim, arith, IsUtf8, ◌==◌}
use Rattle.std.proofs.Common.{leb}
use Rattle.std.specs.Str.{IsCharBoundary}
use Rattle.std.specs.List.{prefix_len}
use Rattle.std.proofs.lemmas.Bool.{cases_Bool, cases_lt, or_cases, eqb-true, and_parts, leb-true}
use Rattle.std.proofs.lemmas.Bool.{not-false}
use Rattle.std.proofs.lemmas.List.Sums.{prefix_len-le-length, prefix_len_stops}
use Rattle.std.proofs.lemmas.Str.{IsCharBoundary-after_ascii, IsCharBoundary-before_ascii}
use Rattle.std.proofs.lemmas.Str.{IsCharBoundary-end, IsCharBoundary-from_rest}
use Rattle.std.proofs.lemmas.Str.{IsCharBoundary-past_char, IsCharBoundary-start, IsUtf8-drop}
use Rattle.std.specs.Char.{is_ascii_digit}
use Rattle.comment_blocks.specs.Texts.{is_blank}
use Rattle.comment_blocks.specs.Kinds.{is_bracket, is_in_brackets}

-- among the bytes at the front that pass a test which only ASCII passes, and after them
pub behind_some : (p : ℕ → Bool) → ((b : ℕ) → p b ≡ true → b < 128) → (text : List ℕ) (n : ℕ)
    → IsUtf8 text → n ≤ prefix_len p text
    → IsCharBoundary text n
behind_some p ascii text zero utf8 within = IsCharBoundary-start text utf8
behind_some p ascii [] (suc n) utf8 within = absurd (omega arith)
behind_some p ascii (b ∷ text) (suc n) utf8 within = ⊎_elim
    (λ (yes : p b ≡ true).
    let rest : IsUtf8 text = IsUtf8-drop (b ∷ text) 1 utf8
    (IsCharBoundary-after_ascii (b ∷ text) 0 utf8 (omega arith) (ascii b yes)) in
    let len : suc n ≤ 1 + prefix_len p text =
    subst (λ t. suc n ≤ cond {A = ℕ} t (1 + prefix_len p text) 0) yes within in
    let next : 1 + n ≡ suc n = omega arith in
    subst (IsCharBoundary (b ∷ text)) next
    (IsCharBoundary-from_rest (b ∷ text) 1 n (omega arith)
    (behind_some p ascii text n rest (omega arith))))
    (λ (no : p b ≡ false).
    let len : suc n ≤ 0 = subst (λ t. suc n ≤ cond {A = ℕ} t (1 + prefix_len p text) 0) no within in
    absurd (omega arith))
    (cases_Bool (p b))

-- before the first byte that fails a test which only ASCII fails, or at the end
pub before_stop : (p : ℕ → Bool) → ((b : ℕ) → p b ≡ false → b < 128) → (text : List ℕ)
    → IsCharBoundary text (prefix_len p text)
before_stop p ascii text = ⊎_elim
    (λ (within : prefix_len p text < length text).
    IsCharBoundary-before_ascii text (prefix_len p text) within
    (ascii (get_or text (prefix_len p text) 0) (prefix_len_stops p text 0 within)))
    (λ (past : length text ≤ prefix_len p text).
    let all : length text ≡ prefix_len p text = omega (arith, prefix_len-le-length p text) in
    subst (IsCharBoundary text) all (IsCharBoundary-end text))
    (cases_lt (prefix_len p text) (length text))

pub blank_is_ascii : (b : ℕ) → is_blank b ≡ true → b < 128
blank_is_ascii b is = ⊎_elim
    (λ (h : (b == 32) ≡ true). omega (arith, eqb-true b 32 h))
    (λ (h : (b == 9) ≡ true). omega (arith, eqb-true b 9 h))
    (or_cases (b == 32) (b == 9) is)

-- after U+2022
pub behind_bullet : (text : List ℕ) → IsUtf8 text → 3 ≤ length text → get_or text 0 0 ≡ 226
    → get_or text 1 0 ≡ 128 → get_or text 2 0 ≡ 162
    → IsCharBoundary text 3
unfolding lib.Utf8.encode
behind_bullet [] utf8 long a b c = absurd (omega arith)
behind_bullet (x ∷ []) utf8 long a b c = absurd (omega arith)
behind_bullet (x ∷ y ∷ []) utf8 long a b c = absurd (omega arith)
behind_bullet (x ∷ y ∷ z ∷ rest) utf8 long a b c =
    let same : x ∷ y ∷ z ∷ rest ≡ 226 ∷ 128 ∷ 162 ∷ rest =
    ap (λ n. n ∷ y ∷ z ∷ rest) a ∙ ap (λ n. 226 ∷ n ∷ z ∷ rest) b
    ∙ ap (λ n. 226 ∷ 128 ∷ n ∷ rest) c in
    IsCharBoundary-past_char (x ∷ y ∷ z ∷ rest) rest 0 8226 (omega arith) utf8 same

pub digit_is_ascii : (b : ℕ) → is_ascii_digit b ≡ true → b < 128
digit_is_ascii b is =
    let parts = and_parts (leb 48 b) (leb b 57) is in
    omega (arith, leb-true b 57 parts.1)

pub bracket_is_ascii : (b : ℕ) → is_in_brackets b ≡ false → b < 128
bracket_is_ascii b is = ⊎_elim
    (λ (h : (b == 91) ≡ true). omega (arith, eqb-true b 91 h))
    (λ (h : (b == 93) ≡ true). omega (arith, eqb-true b 93 h))
    (or_cases (b == 91) (b == 93) (not-false (is_bracket b) is))
