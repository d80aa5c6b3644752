-- Where the newlines of some bytes stand.
use Rattle.std.proofs.Common.{◌≡◌, ◌==◌, ℕ, suc, ◌+◌, ◌-◌, ◌<◌, ◌≤◌, Bool, true, false, not, List}
use Rattle.std.proofs.Common.{[], ◌∷◌, ◌++◌, length, take, drop, None, Some, refl, sym, ◌∙◌, ap}
use Rattle.std.proofs.Common.{subst, arith, cond}
use Rattle.std.specs.List.{prefix_len}
use Rattle.std.proofs.lemmas.Bool.{false_from_ne_true, not_from_true, not_from_false}
use Rattle.std.proofs.lemmas.List.{append-nil, append_assoc, drop-drop, length-drop, take_rest}
use Rattle.std.proofs.lemmas.List.Sums.{prefix_len_is}
use Rattle.memchr.specs.Find.{IsFirstByte, is_byte}
use Rattle.go_ast.specs.Characters.{newline}
use Rattle.go_ast.specs.Position.{line_starts, offsets_after_newlines}

-- the bytes before the newline, by what a search for it answers
pub line_length_none : (bytes : List ℕ) → IsFirstByte (is_byte 10) bytes None
    → length bytes ≡ prefix_len (λ b. not (b == newline)) bytes
line_length_none bytes nowhere =
    sym (prefix_len_is (λ b. not (b == newline)) bytes (length bytes) 0 (omega arith)
    (λ k below. not_from_false _ (false_from_ne_true _ (nowhere k (omega arith) below)))
    (λ past. absurd (omega arith)))

pub line_length_some : (bytes : List ℕ) (n : ℕ) → IsFirstByte (is_byte 10) bytes (Some n)
    → n ≡ prefix_len (λ b. not (b == newline)) bytes
line_length_some bytes n first =
    sym (prefix_len_is (λ b. not (b == newline)) bytes n 0 (omega (arith, first.0.high))
    (λ k below. not_from_false _ (false_from_ne_true _ (first.0.before k (omega arith) below)))
    (λ within. not_from_true _ first.1))

abbrev before_newline : List ℕ → ℕ
before_newline bytes = prefix_len (λ b. not (b == newline)) bytes

none_step : (offset : ℕ) (bytes : List ℕ) (t : Bool)
    → cond (not t) (1 + before_newline bytes) 0 ≡ suc (length bytes)
    → (before_newline bytes ≡ length bytes → offsets_after_newlines (offset + 1) bytes ≡ [])
    → cond t ((offset + 1) ∷ offsets_after_newlines (offset + 1) bytes)
    (offsets_after_newlines (offset + 1) bytes) ≡ []
none_step offset bytes true all rest = absurd (omega arith)
none_step offset bytes false all rest = rest (omega arith)

none_after : (offset : ℕ) (bytes : List ℕ) → before_newline bytes ≡ length bytes
    → offsets_after_newlines offset bytes ≡ []
none_after offset [] all = refl
none_after offset (b ∷ bytes) all =
    none_step offset bytes (b == newline) all (none_after (offset + 1) bytes)

-- the offset after a newline that so many bytes stand before, and the offsets after those that
-- follow
abbrev pub first_and_later : ℕ → ℕ → List ℕ → List ℕ
first_and_later offset n bytes =
    (offset + (n + 1)) ∷ offsets_after_newlines (offset + (n + 1)) (drop (n + 1) bytes)

first_step : (offset b : ℕ) (bytes : List ℕ) (t : Bool)
    → cond (not t) (1 + before_newline bytes) 0 < suc (length bytes)
    → (before_newline bytes < length bytes
    → offsets_after_newlines (offset + 1) bytes ≡ first_and_later (offset + 1)
    (before_newline bytes) bytes)
    → cond t ((offset + 1) ∷ offsets_after_newlines (offset + 1) bytes)
    (offsets_after_newlines (offset + 1) bytes) ≡ first_and_later offset
    (cond (not t) (1 + before_newline bytes) 0) (b ∷ bytes)
first_step offset b bytes true within rest = refl
first_step offset b bytes false within rest =
    let n = before_newline bytes in
    let place : offset + ((1 + n) + 1) ≡ (offset + 1) + (n + 1) = omega arith in
    let past : (1 + n) + 1 ≡ suc (n + 1) = omega arith in
    rw (place, past) (rest (omega arith))

first_after : (offset : ℕ) (bytes : List ℕ) → before_newline bytes < length bytes
    → offsets_after_newlines offset bytes ≡ first_and_later offset (before_newline bytes) bytes
first_after offset [] within = absurd (omega arith)
first_after offset (b ∷ bytes) within =
    first_step offset b bytes (b == newline) within (first_after (offset + 1) bytes)

-- the same by what a search answers
pub no_line_after : (offset : ℕ) (bytes : List ℕ) → IsFirstByte (is_byte 10) bytes None
    → offsets_after_newlines offset bytes ≡ []
no_line_after offset bytes nowhere = none_after offset bytes (sym (line_length_none bytes nowhere))

pub line_after : (offset : ℕ) (bytes : List ℕ) (n : ℕ) → IsFirstByte (is_byte 10) bytes (Some n)
    → offsets_after_newlines offset bytes ≡ first_and_later offset n bytes
line_after offset bytes n first =
    let same = line_length_some bytes n first in
    let high = first.0.high in
    first_after offset bytes (omega arith) ∙ ap (λ m. first_and_later offset m bytes) (sym same)

-- one line more
pub record Grows (bytes lines : List ℕ) (at : ℕ) : Type 0 where
  pub within : at ≤ length bytes
  pub starts : lines ++ offsets_after_newlines at (drop at bytes) ≡ line_starts bytes

pub one_more : (bytes lines new : List ℕ) (at n : ℕ) → at ≤ length bytes
    → lines ++ offsets_after_newlines at (drop at bytes) ≡ line_starts bytes
    → IsFirstByte (is_byte 10) (take (length bytes - at) (drop at bytes)) (Some n)
    → new ≡ lines ++ (at + (n + 1)) ∷ []
    → Grows bytes new (at + (n + 1))
one_more bytes lines new at n within starts first push =
    let found = subst (λ rest. IsFirstByte (is_byte 10) rest (Some n)) (take_rest bytes at) first in
    let high : n < length (drop at bytes) = found.0.high in
    let split = line_after at (drop at bytes) n found in
    let past : drop (n + 1) (drop at bytes) ≡ drop (at + (n + 1)) bytes =
    drop-drop (n + 1) at bytes in
    record {
      within = omega (arith, length-drop at bytes);
      starts =
          rw push (append_assoc lines _ _
          ∙ ap (λ rest. lines ++ (at + (n + 1)) ∷ offsets_after_newlines (at + (n + 1)) rest)
          (sym past)
          ∙ ap (λ later. lines ++ later) (sym split) ∙ starts);
    }

pub no_more : (bytes lines : List ℕ) (at : ℕ)
    → lines ++ offsets_after_newlines at (drop at bytes) ≡ line_starts bytes
    → IsFirstByte (is_byte 10) (take (length bytes - at) (drop at bytes)) None
    → lines ≡ line_starts bytes
no_more bytes lines at starts nowhere =
    let found = subst (λ rest. IsFirstByte (is_byte 10) rest None) (take_rest bytes at) nowhere in
    sym (append-nil lines)
    ∙ ap (λ later. lines ++ later) (sym (no_line_after at (drop at bytes) found)) ∙ starts
