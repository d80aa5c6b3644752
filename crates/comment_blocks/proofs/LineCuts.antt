-- Where lines end.
use Rattle.std.proofs.Common.{◌≡◌, ℕ, zero, suc, ◌+◌, ◌-◌, ◌<◌, ◌≤◌, Bool, true, false, List, []}
use Rattle.std.proofs.Common.{◌∷◌, ◌++◌, length, get_or, take, drop, Some, None, refl, ◌∙◌, ap}
use Rattle.std.proofs.Common.{arith, append_assoc, Bor}
use Rattle.std.specs.List.{onto_first, suffix_len}
use Rattle.std.proofs.lemmas.Bool.{false_from_ne_true}
use Rattle.std.proofs.lemmas.List.Splits.{slice_split-cons_yes, slice_split-cons_no}
use Rattle.std.proofs.lemmas.List.Sums.{suffix_len_is}
use Rattle.std.proofs.lemmas.List.{map-append}
use Rattle.memchr.specs.Find.{IsFirstByte, is_byte}
use Rattle.comment_blocks.specs.Texts.{is_newline, is_trailing, lines_of, trimmed}
use Rattle.comment_blocks.specs.LineSteps.{texts}

-- the first line and the lines after it
first_at : (bytes : List ℕ) (n : ℕ) → n < length bytes
    → ((k : ℕ) → k < n → is_newline (get_or bytes k 0) ≡ false)
    → is_newline (get_or bytes n 0) ≡ true → lines_of bytes
    ≡ take n bytes ∷ lines_of (drop (suc n) bytes)
first_at [] n within before here = absurd (omega arith)
first_at (b ∷ bytes) zero within before here = slice_split-cons_yes is_newline b bytes here
first_at (b ∷ bytes) (suc n) within before here =
    slice_split-cons_no is_newline b bytes (before 0 (omega arith))
    ∙ ap (onto_first b) (first_at bytes n (omega arith) (λ k lt. before (suc k) (omega arith)) here)

only_line : (bytes : List ℕ) → ((k : ℕ) → k < length bytes → is_newline (get_or bytes k 0) ≡ false)
    → lines_of bytes ≡ bytes ∷ []
only_line [] none = refl
only_line (b ∷ bytes) none =
    slice_split-cons_no is_newline b bytes (none 0 (omega arith))
    ∙ ap (onto_first b) (only_line bytes (λ k lt. none (suc k) (omega arith)))

-- the same by what a search answers
pub cut_first : (bytes : List ℕ) (n : ℕ) → IsFirstByte (is_byte 10) bytes (Some n) → lines_of bytes
    ≡ take n bytes ∷ lines_of (drop (n + 1) bytes)
cut_first bytes n found =
    let next : suc n ≡ n + 1 = omega arith in
    first_at bytes n found.0.high
    (λ k below. false_from_ne_true _ (found.0.before k (omega arith) below)) found.1
    ∙ ap (λ m. take n bytes ∷ lines_of (drop m bytes)) next

pub cut_last : (bytes : List ℕ) → IsFirstByte (is_byte 10) bytes None → lines_of bytes ≡ bytes ∷ []
cut_last bytes nowhere = only_line bytes
    (λ k below. false_from_ne_true _ (nowhere k (omega arith) below))

-- a line up to the place after which all goes
pub cut_at : (p : ℕ → Bool) (line : List ℕ) (end : ℕ) → end ≤ length line
    → ((k : ℕ) → end ≤ k → k < length line → p (get_or line k 0) ≡ true)
    → (0 < end → p (get_or line (end - 1) 0) ≡ false) → take end line
    ≡ take (length line - suffix_len p line) line
cut_at p line end within behind last =
    let size = suffix_len_is p line end 0 within behind last in
    let same : end ≡ length line - suffix_len p line = omega (arith, size) in
    ap (λ n. take n line) same

pub trimmed_at : (line : List ℕ) (end : ℕ) → end ≤ length line
    → ((k : ℕ) → end ≤ k → k < length line → is_trailing (get_or line k 0) ≡ true)
    → (0 < end → is_trailing (get_or line (end - 1) 0) ≡ false) → take end line ≡ trimmed line
trimmed_at line end within behind last = cut_at is_trailing line end within behind last

-- a line more
pub pushed : (items new : List (Bor (List ℕ))) (line : Bor (List ℕ)) (first : List ℕ)
    (later : List (List ℕ)) → new ≡ items ++ line ∷ []
    → line.now ≡ first → texts new ++ later ≡ texts items ++ (first ∷ later)
pushed items new line first later new_is line_is =
    ap (λ ls. texts ls ++ later) new_is
    ∙ ap (λ ls. ls ++ later) (map-append (λ (l : Bor (List ℕ)). l.now) items (line ∷ []))
    ∙ append_assoc (texts items) (line.now ∷ []) later
    ∙ ap (λ l. texts items ++ (l ∷ later)) line_is
