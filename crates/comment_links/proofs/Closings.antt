-- Closing brackets that are looked for ahead, and where a text may be cut round brackets.
use Rattle.std.proofs.Common.{◌≡◌, ℕ, zero, suc, ◌+◌, ◌-◌, ◌<◌, ◌≤◌, Bool, true, false, List, []}
use Rattle.std.proofs.Common.{◌∷◌, length, get_or, drop, Some, None, ◌∙◌, ap}
use Rattle.std.proofs.Common.{subst, arith, cond, ⊎_elim}
use Rattle.std.specs.List.{prefix_len}
use Rattle.std.proofs.lemmas.Bool.{cases_Bool, cond-true, eqb-true, false_from_ne_true, not-false}
use Rattle.std.proofs.lemmas.Bool.{not_from_false, not_from_true}
use Rattle.std.proofs.lemmas.List.{drop-drop, length-drop}
use Rattle.std.proofs.lemmas.List.Sums.{prefix_len_is}
use Rattle.memchr.specs.Find.{IsFirstByte, is_byte}
use Rattle.comment_links.specs.Marks.{is_closing}
use Rattle.comment_links.specs.InlinesOf.{is_inside}
use Rattle.comment_links.specs.InlineSteps.{IsClosing, closing_from}

pub inside_stops : (b : ℕ) → is_inside b ≡ false → b < 128
inside_stops b is = omega (arith, eqb-true b 93 (not-false (is_closing b) is))

-- what a search answers
pub closing_none : (text : List ℕ) (place : ℕ) → place ≤ length text
    → IsFirstByte (is_byte 93) (drop place text) None → length text ≡ closing_from text place
closing_none text place within nowhere =
    let rest = drop place text in
    let len : prefix_len is_inside rest ≡ length rest =
    prefix_len_is is_inside rest (length rest) 0 (omega arith)
    (λ k below. not_from_false (is_closing (get_or rest k 0))
    (false_from_ne_true _ (nowhere k (omega arith) below)))
    (λ past. absurd (omega arith)) in
    omega (arith, len, length-drop place text)

pub closing_some : (text : List ℕ) (place len : ℕ) → place ≤ length text
    → IsFirstByte (is_byte 93) (drop place text) (Some len) → place + len ≡ closing_from text place
closing_some text place len within found =
    let rest = drop place text in
    let same : prefix_len is_inside rest ≡ len =
    prefix_len_is is_inside rest len 0 (omega (arith, found.0.high))
    (λ k below. not_from_false (is_closing (get_or rest k 0))
    (false_from_ne_true _ (found.0.before k (omega arith) below)))
    (λ past. not_from_true (is_closing (get_or rest len 0)) found.1) in
    omega (arith, same)

-- further on, as long as the place isn't passed
prefix_behind : (p : ℕ → Bool) (xs : List ℕ) (k : ℕ) → k ≤ prefix_len p xs
    → prefix_len p xs ≡ k + prefix_len p (drop k xs)
prefix_behind p xs zero within = omega arith
prefix_behind p [] (suc k) within = absurd (omega arith)
prefix_behind p (x ∷ xs) (suc k) within = ⊎_elim
    (λ (is : p x ≡ true).
    let one = cond-true (p x) (1 + prefix_len p xs) 0 is in
    let rest = prefix_behind p xs k (omega (arith, one)) in
    omega (arith, one, rest))
    (λ (isnt : p x ≡ false).
    let none : suc k ≤ 0 = subst (λ t. suc k ≤ cond {A = ℕ} t (1 + prefix_len p xs) 0) isnt
    within in
    absurd (omega arith))
    (cases_Bool (p x))

pub closing_later : (text : List ℕ) (place to closing : ℕ) → place ≤ to
    → IsClosing text place closing → IsClosing text to closing
closing_later text place to closing later is before =
    let here : closing ≡ place + prefix_len is_inside (drop place text) = is (omega arith) in
    let k = to - place in
    let end : place + k ≡ to = omega arith in
    let rest = prefix_behind is_inside (drop place text) k (omega (arith, here, end)) in
    let same : drop k (drop place text) ≡ drop to text =
    drop-drop k place text ∙ ap (λ n. drop n text) end in
    omega (arith, here, end, rest, ap (prefix_len is_inside) same)
