-- Bytes cut where a search finds a byte.
use Rattle.std.proofs.Common.{◌≡◌, ℕ, ◌+◌, ◌-◌, ◌<◌, ◌≤◌, Bool, true, false, not, List}
use Rattle.std.proofs.Common.{[], length, take, drop, refl, sym, ◌∙◌, ap, subst, arith}
use Rattle.std.specs.Prelude.{◌==◌}
use Rattle.std.specs.List.{after_last, before_first, before_last, position_or_len, suffix_len}
use Rattle.std.proofs.lemmas.List.Sums.{position_or_len_is, suffix_len_is}
use Rattle.std.proofs.Math.Seq.{take-length}
use Rattle.std.proofs.lemmas.List.{length-drop}
use Rattle.memchr.specs.Find.{Nowhere, NoneAfter, NoneBefore, Passes, is_byte}

not_so : (b : Bool) → ¬ (b ≡ true) → b ≡ false
not_so true fails = absurd (fails refl)
not_so false fails = refl

first_is : (c : ℕ) (xs : List ℕ) (k : ℕ) → k ≤ length xs → Nowhere (Passes (is_byte c) xs) 0 k
    → (k < length xs → Passes (is_byte c) xs k) → position_or_len (λ b. b == c) xs ≡ k
first_is c xs k within before here =
    position_or_len_is (λ b. b == c) xs k 0 within
    (λ j below. not_so _ (before j (omega arith) below)) here

pub first_none : (c : ℕ) (xs : List ℕ) → Nowhere (Passes (is_byte c) xs) 0 (length xs)
    → xs ≡ before_first (λ b. b == c) xs
first_none c xs none = sym
    (ap (λ n. take n xs) (first_is c xs (length xs) (omega arith) none (λ h. absurd (omega arith)))
    ∙ take-length xs)

pub first_some : (c : ℕ) (xs : List ℕ) (k : ℕ)
    → NoneBefore (Passes (is_byte c) xs) 0 (length xs) k → Passes (is_byte c) xs k
    → take k xs ≡ before_first (λ b. b == c) xs
first_some c xs k first here =
    let high : k < length xs = first.high in
    sym (ap (λ n. take n xs) (first_is c xs k (omega arith) first.before (λ _. here)))

-- how many bytes stand after the last
last_is : (c : ℕ) (xs : List ℕ) (n : ℕ) → n ≤ length xs
    → Nowhere (Passes (is_byte c) xs) n (length xs) → (0 < n → Passes (is_byte c) xs (n - 1))
    → length xs - suffix_len (λ b. not (b == c)) xs ≡ n
last_is c xs n within after here =
    let behind : suffix_len (λ b. not (b == c)) xs ≡ length xs - n =
    suffix_len_is (λ b. not (b == c)) xs n 0 within
    (λ k low high. ap not (not_so _ (after k low high))) (λ some. ap not (here some)) in
    omega arith

pub last_none : (c : ℕ) (xs : List ℕ) → Nowhere (Passes (is_byte c) xs) 0 (length xs)
    → xs ≡ after_last (λ b. b == c) xs
last_none c xs none = sym
    (ap (λ n. drop n xs) (last_is c xs 0 (omega arith) none (λ h. absurd (omega arith))))

pub last_some : (c : ℕ) (xs : List ℕ) (k : ℕ)
    → NoneAfter (Passes (is_byte c) xs) 0 (length xs) k → Passes (is_byte c) xs k
    → drop (k + 1) xs ≡ after_last (λ b. b == c) xs
last_some c xs k last here =
    let high : k < length xs = last.high in
    let same : k + 1 - 1 ≡ k = omega arith in
    sym (ap (λ n. drop n xs) (last_is c xs (k + 1) (omega arith) last.after
    (λ _. subst (Passes (is_byte c) xs) (sym same) here)))

pub front_none : (c : ℕ) (xs : List ℕ) → Nowhere (Passes (is_byte c) xs) 0 (length xs)
    → [] ≡ before_last (λ b. b == c) xs
front_none c xs none = sym
    (ap (λ n. take (n - 1) xs) (last_is c xs 0 (omega arith) none (λ h. absurd (omega arith))))

pub front_some : (c : ℕ) (xs : List ℕ) (k : ℕ)
    → NoneAfter (Passes (is_byte c) xs) 0 (length xs) k → Passes (is_byte c) xs k
    → take k xs ≡ before_last (λ b. b == c) xs
front_some c xs k last here =
    let high : k < length xs = last.high in
    let same : k + 1 - 1 ≡ k = omega arith in
    sym (ap (λ n. take (n - 1) xs)
    (last_is c xs (k + 1) (omega arith) last.after
    (λ _. subst (Passes (is_byte c) xs) (sym same) here)) ∙ ap (λ n. take n xs) same)

-- a range to the end
pub to_end : (k : ℕ) (xs : List ℕ) → take (length xs - k) (drop k xs) ≡ drop k xs
to_end k xs = ap (λ n. take n (drop k xs)) (sym (length-drop k xs)) ∙ take-length (drop k xs)
