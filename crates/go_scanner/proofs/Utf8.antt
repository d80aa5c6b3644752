-- Each list of bytes is UTF-8, or stops being it at one place.
use Rattle.std.proofs.Common.{◌≡◌, ◌⊎◌, ℕ, zero, suc, ◌<◌, ◌≤◌, List, [], length, take, IsUtf8}
use Rattle.std.proofs.Common.{refl, sym, subst, ◌∙◌, arith, inl, inr, ⊎_elim, true≢false, take_all}
use Rattle.std.proofs.lemmas.Bool.{cases_Bool, cases_lt, cond-true, cond-false}
use Rattle.std.proofs.lemmas.Str.{IsUtf8-from_is_utf8, is_utf8-from_IsUtf8}
use Rattle.std.proofs.lemmas.Str.{utf8_valid_len-IsValidUpTo}
use Rattle.std.specs.Str.{IsValidUpTo, is_utf8}
use Rattle.std.specs.Str.Lossy.{valid_len_up_to}

longest_front : (bytes : List ℕ) (m : ℕ)
    → IsUtf8 (take (valid_len_up_to bytes m) bytes)
    × ((k : ℕ) → valid_len_up_to bytes m < k → k ≤ m → ¬ (IsUtf8 (take k bytes)))
longest_front bytes zero = (([], (refl, refl)), λ k above within. absurd (omega arith))
longest_front bytes (suc m) =
    let rest = longest_front bytes m in
    ⊎_elim
    (λ yes.
    let is : valid_len_up_to bytes (suc m) ≡ suc m = cond-true _ _ _ yes in (
      subst (λ n. IsUtf8 (take n bytes)) (sym is) (IsUtf8-from_is_utf8 _ yes),
      λ k above within. absurd (omega arith),
    ))
    (λ no.
    let is : valid_len_up_to bytes (suc m) ≡ valid_len_up_to bytes m = cond-false _ _ _ no in (
      subst (λ n. IsUtf8 (take n bytes)) (sym is) rest.0,
      λ k above within utf8. ⊎_elim
          (λ (top : m < k).
          let same : k ≡ suc m = omega arith in
          true≢false (sym (is_utf8-from_IsUtf8 _ (subst (λ n. IsUtf8 (take n bytes)) same utf8))
          ∙ no))
          (λ (low : k ≤ m). rest.1 k (omega arith) low utf8)
          (cases_lt m k),
    ))
    (cases_Bool (is_utf8 (take (suc m) bytes)))

pub utf8_cases : (bytes : List ℕ) → IsUtf8 bytes
    ⊎ IsValidUpTo bytes (valid_len_up_to bytes (length bytes))
utf8_cases bytes =
    let n = valid_len_up_to bytes (length bytes) in
    let front = longest_front bytes (length bytes) in
    ⊎_elim
    (λ (short : n < length bytes). inr (record {
      short = short;
      front = front.0;
      longest = λ m above utf8. ⊎_elim
          (λ (past : length bytes < m).
          front.1 (length bytes) short (omega arith)
          (subst IsUtf8
          (take_all m bytes (omega arith) ∙ sym (take_all (length bytes) bytes (omega arith)))
          utf8))
          (λ (within : m ≤ length bytes). front.1 m above within utf8)
          (cases_lt (length bytes) m);
    }))
    (λ (whole : length bytes ≤ n). inl (subst IsUtf8 (take_all n bytes whole) front.0))
    (cases_lt n (length bytes))

pub not_both : (bytes : List ℕ) (n : ℕ) → IsUtf8 bytes → IsValidUpTo bytes n → ⊥
not_both bytes n utf8 stops =
    let short : n < length bytes = stops.short in
    stops.longest (length bytes) short
    (subst IsUtf8 (sym (take_all (length bytes) bytes (omega arith))) utf8)

pub one_place : (bytes : List ℕ) (m n : ℕ) → IsValidUpTo bytes m → IsValidUpTo bytes n → m ≡ n
one_place bytes m n stops stopped = sym (utf8_valid_len-IsValidUpTo bytes m stops)
    ∙ utf8_valid_len-IsValidUpTo bytes n stopped
