-- A text cut at the first byte that is looked for.
use Rattle.std.proofs.Common.{◌≡◌, ℕ, suc, ◌+◌, Bool, true, false, not, List, [], ◌∷◌, ◌++◌, length}
use Rattle.std.proofs.Common.{take, drop, refl, sym, ◌∙◌, ap, subst, ⊎_elim, arith, append_assoc}
use Rattle.std.specs.List.{list_any, prefix_len}
use Rattle.std.proofs.lemmas.Bool.{cases_Bool, cond-false, cond-true, not_from_false, not_from_true}
use Rattle.std.proofs.lemmas.Bool.{or_from, or_parts}
use Rattle.std.proofs.lemmas.List.{length-append, take_at, drop_at}

-- bytes that aren't looked for, before one that is
pub stop_at : (q : ℕ → Bool) (xs : List ℕ) (y : ℕ) (ys : List ℕ) → list_any q xs ≡ false
    → q y ≡ true → prefix_len (λ b. not (q b)) (xs ++ y ∷ ys) ≡ length xs
stop_at q [] y ys none here =
    cond-false (not (q y)) (1 + prefix_len (λ b. not (q b)) ys) 0 (not_from_true (q y) here)
stop_at q (x ∷ xs) y ys none here =
    let parts = or_parts (q x) (list_any q xs) none in
    let next : 1 + length xs ≡ suc (length xs) = omega arith in
    cond-true (not (q x)) (1 + prefix_len (λ b. not (q b)) (xs ++ y ∷ ys)) 0
    (not_from_false (q x) parts.0)
    ∙ ap (λ n. 1 + n) (stop_at q xs y ys parts.1 here) ∙ next

-- the bytes before the first that is looked for
pub front_free : (q : ℕ → Bool) (xs : List ℕ)
    → list_any q (take (prefix_len (λ b. not (q b)) xs) xs) ≡ false
front_free q [] = refl
front_free q (x ∷ xs) = ⊎_elim
    (λ (yes : q x ≡ true).
    let len = cond-false (not (q x)) (1 + prefix_len (λ b. not (q b)) xs) 0
    (not_from_true (q x) yes) in
    subst (λ n. list_any q (take n (x ∷ xs)) ≡ false) (sym len) refl)
    (λ (no : q x ≡ false).
    let next : 1 + prefix_len (λ b. not (q b)) xs ≡ suc (prefix_len (λ b. not (q b)) xs) =
    omega arith in
    let len = cond-true (not (q x)) (1 + prefix_len (λ b. not (q b)) xs) 0
    (not_from_false (q x) no) ∙ next in
    subst (λ n. list_any q (take n (x ∷ xs)) ≡ false) (sym len)
    (or_from (q x) (list_any q (take (prefix_len (λ b. not (q b)) xs) xs)) no (front_free q xs)))
    (cases_Bool (q x))

-- a text in brackets, with what stands after it
pub bracket_len : (text : List ℕ) → length (91 ∷ (text ++ 93 ∷ [])) ≡ length text + 2
bracket_len text = omega (arith, length-append text (93 ∷ []))

pub bracket_whole : (text after : List ℕ) → (91 ∷ (text ++ 93 ∷ [])) ++ after
    ≡ 91 ∷ (text ++ 93 ∷ after)
bracket_whole text after = ap (λ t. 91 ∷ t) (append_assoc text (93 ∷ []) after)

pub bracket_front : (text after : List ℕ) → take (length text + 2) (91 ∷ (text ++ 93 ∷ after))
    ≡ 91 ∷ (text ++ 93 ∷ [])
bracket_front text after =
    ap (λ t. take (length text + 2) t) (sym (bracket_whole text after))
    ∙ take_at (91 ∷ (text ++ 93 ∷ [])) after (length text + 2) (bracket_len text)

pub bracket_back : (text after : List ℕ) → drop (length text + 2) (91 ∷ (text ++ 93 ∷ after))
    ≡ after
bracket_back text after =
    ap (λ t. drop (length text + 2) t) (sym (bracket_whole text after))
    ∙ drop_at (91 ∷ (text ++ 93 ∷ [])) after (length text + 2) (bracket_len text)
