-- Addresses: the plain program finds exactly those of the rule.
use Rattle.std.proofs.Common.{◌≡◌, ℕ, zero, suc, ◌+◌, ◌<◌, true, false, List, []}
use Rattle.std.proofs.Common.{◌∷◌, ◌++◌, length, take, drop, get_or, None, refl, sym, ◌∙◌, ap}
use Rattle.std.proofs.Common.{subst, ⊎_elim, arith, if◌then◌else◌, ◌==◌, ◌&&◌}
use Rattle.std.specs.List.{last_or, list_all, prefix_len}
use Rattle.std.proofs.lemmas.Bool.{cases_Bool, cond-false, cond-true, and_from, and_parts}
use Rattle.std.proofs.lemmas.Bool.{ne_eqb, not_from_false, not-true}
use Rattle.comment_blocks.specs.Spans.{one_further}
use Rattle.comment_links.specs.Marks.{address_run, is_address_byte, is_address_end, is_final}
use Rattle.comment_links.specs.InlinesOf.{address_len}

-- the bytes after are final, up to the first that no address has
abbrev Ends : List ℕ → Type 0
Ends text = list_all is_final (address_run text) ≡ true

len_outside : (b : ℕ) (text : List ℕ) → is_address_byte b ≡ false → address_len (b ∷ text) ≡ 0
len_outside b text outside = cond-false (is_address_byte b)
    (if is_final b then one_further (address_len text) else 1 + address_len text) 0 outside

len_final : (b : ℕ) (text : List ℕ) → is_address_byte b ≡ true → is_final b ≡ true
    → address_len (b ∷ text) ≡ one_further (address_len text)
len_final b text inside final =
    cond-true (is_address_byte b)
    (if is_final b then one_further (address_len text) else 1 + address_len text) 0 inside
    ∙ cond-true (is_final b) (one_further (address_len text)) (1 + address_len text) final

len_kept : (b : ℕ) (text : List ℕ) → is_address_byte b ≡ true → is_final b ≡ false
    → address_len (b ∷ text) ≡ suc (address_len text)
len_kept b text inside kept =
    let next : 1 + address_len text ≡ suc (address_len text) = omega arith in
    cond-true (is_address_byte b)
    (if is_final b then one_further (address_len text) else 1 + address_len text) 0 inside
    ∙ cond-false (is_final b) (one_further (address_len text)) (1 + address_len text) kept ∙ next

further : (n : ℕ) → one_further (suc n) ≡ suc (suc n)
further n =
    let outside : (suc n == 0) ≡ false = ne_eqb (suc n) 0 (λ is. absurd (omega arith)) in
    let next : 1 + suc n ≡ suc (suc n) = omega arith in
    cond-false (suc n == 0) 0 (1 + suc n) outside ∙ next

run_outside : (b : ℕ) (text : List ℕ) → is_address_byte b ≡ false → address_run (b ∷ text) ≡ []
run_outside b text outside = ap (λ n. take n (b ∷ text))
    (cond-false (is_address_byte b) (1 + prefix_len is_address_byte text) 0 outside)

run_inside : (b : ℕ) (text : List ℕ) → is_address_byte b ≡ true
    → address_run (b ∷ text) ≡ b ∷ address_run text
run_inside b text inside =
    let next : 1 + prefix_len is_address_byte text ≡ suc (prefix_len is_address_byte text) =
    omega arith in
    ap (λ n. take n (b ∷ text))
    (cond-true (is_address_byte b) (1 + prefix_len is_address_byte text) 0 inside ∙ next)

-- where the bytes after are final, no more of the address stands there
none_behind : (text : List ℕ) → Ends text → address_len text ≡ 0
none_behind [] ends = refl
none_behind (b ∷ text) ends = ⊎_elim
    (λ (inside : is_address_byte b ≡ true).
    let all : (is_final b && list_all is_final (address_run text)) ≡ true =
    subst (λ r. list_all is_final r ≡ true) (run_inside b text inside) ends in
    let parts = and_parts (is_final b) (list_all is_final (address_run text)) all in
    len_final b text inside parts.0 ∙ ap one_further (none_behind text parts.1))
    (λ (outside : is_address_byte b ≡ false). len_outside b text outside)
    (cases_Bool (is_address_byte b))

further_none : (n : ℕ) → one_further n ≡ 0 → n ≡ 0
further_none zero none = refl
further_none (suc n) none =
    let more : suc (suc n) ≡ 0 = sym (further n) ∙ none in
    absurd (omega arith)

-- and where no more stands there, they are
ends_there : (text : List ℕ) → address_len text ≡ 0 → Ends text
ends_there [] none = refl
ends_there (b ∷ text) none = ⊎_elim
    (λ (inside : is_address_byte b ≡ true). ⊎_elim
    (λ (final : is_final b ≡ true).
    let rest = further_none (address_len text) (sym (len_final b text inside final) ∙ none) in
    subst (λ r. list_all is_final r ≡ true) (sym (run_inside b text inside))
    (and_from (is_final b) (list_all is_final (address_run text)) final (ends_there text rest)))
    (λ (kept : is_final b ≡ false).
    let more : suc (address_len text) ≡ 0 = sym (len_kept b text inside kept) ∙ none in
    absurd (omega arith))
    (cases_Bool (is_final b)))
    (λ (outside : is_address_byte b ≡ false).
    subst (λ r. list_all is_final r ≡ true) (sym (run_outside b text outside)) refl)
    (cases_Bool (is_address_byte b))

-- the bytes of an address, with those after it
pub len_at : (rest after : List ℕ) → list_all is_address_byte rest ≡ true
    → is_address_end (last_or None rest) ≡ true → list_all is_final (address_run after) ≡ true
    → address_len (rest ++ after) ≡ length rest
len_at [] after all last ends = cc
len_at (x ∷ []) after all last ends =
    let parts = and_parts (is_address_byte x) true all in
    len_kept x after parts.0 (not-true (is_final x) last) ∙ ap suc (none_behind after ends)
len_at (x ∷ y ∷ ys) after all last ends =
    let parts = and_parts (is_address_byte x) (list_all is_address_byte (y ∷ ys)) all in
    let rest = len_at (y ∷ ys) after parts.1 last ends in
    ⊎_elim
    (λ (final : is_final x ≡ true).
    len_final x ((y ∷ ys) ++ after) parts.0 final ∙ ap one_further rest ∙ further (length ys))
    (λ (kept : is_final x ≡ false).
    len_kept x ((y ∷ ys) ++ after) parts.0 kept ∙ ap suc rest)
    (cases_Bool (is_final x))

-- so many bytes and one more are those of an address
pub record IsRun (text : List ℕ) (n : ℕ) : Type 0 where
  pub fits : n < length text
  pub all : list_all is_address_byte (take (suc n) text) ≡ true
  pub last : is_address_end (last_or None (take (suc n) text)) ≡ true
  pub longest : list_all is_final (address_run (drop (suc n) text)) ≡ true
  pub byte : is_address_byte (get_or text n 0) ≡ true

run_more : (b : ℕ) (text : List ℕ) (n : ℕ) → is_address_byte b ≡ true → IsRun text n
    → IsRun (b ∷ text) (suc n)
run_more b [] n inside run = absurd (omega (arith, run.fits))
run_more b (c ∷ text) n inside run = record {
  fits = omega (arith, run.fits);
  all = and_from (is_address_byte b) (list_all is_address_byte (take (suc n) (c ∷ text))) inside
      run.all;
  last = run.last;
  longest = run.longest;
  byte = run.byte;
}

run_one : (b : ℕ) (text : List ℕ) → is_address_byte b ≡ true → is_final b ≡ false
    → address_len text ≡ 0 → IsRun (b ∷ text) 0
run_one b text inside kept none = record {
  fits = omega arith;
  all = and_from (is_address_byte b) true inside refl;
  last = not_from_false (is_final b) kept;
  longest = ends_there text none;
  byte = inside;
}

run_final : (b : ℕ) (text : List ℕ) (n : ℕ) → is_address_byte b ≡ true → (m : ℕ)
    → address_len text ≡ m → one_further m ≡ suc n
    → ((k : ℕ) → address_len text ≡ suc k → IsRun text k) → IsRun (b ∷ text) n
run_final b text n inside zero len is rest = absurd (omega (arith, is))
run_final b text n inside (suc m) len is rest =
    let more : suc (suc m) ≡ suc n = sym (further m) ∙ is in
    let next : suc m ≡ n = omega arith in
    subst (IsRun (b ∷ text)) next (run_more b text m inside (rest m len))

run_kept : (b : ℕ) (text : List ℕ) (n : ℕ) → is_address_byte b ≡ true → is_final b ≡ false
    → (m : ℕ) → address_len text ≡ m → suc (address_len text) ≡ suc n
    → ((k : ℕ) → address_len text ≡ suc k → IsRun text k) → IsRun (b ∷ text) n
run_kept b text n inside kept zero len is rest =
    let next : 0 ≡ n = omega arith in
    subst (IsRun (b ∷ text)) next (run_one b text inside kept len)
run_kept b text n inside kept (suc m) len is rest =
    let next : suc m ≡ n = omega arith in
    subst (IsRun (b ∷ text)) next (run_more b text m inside (rest m len))

-- what is counted are the bytes of an address
pub run_at : (text : List ℕ) (n : ℕ) → address_len text ≡ suc n → IsRun text n
run_at [] n is = cc
run_at (b ∷ text) n is = ⊎_elim
    (λ (inside : is_address_byte b ≡ true). ⊎_elim
    (λ (final : is_final b ≡ true).
    run_final b text n inside (address_len text) refl (sym (len_final b text inside final) ∙ is)
    (run_at text))
    (λ (kept : is_final b ≡ false).
    run_kept b text n inside kept (address_len text) refl (sym (len_kept b text inside kept) ∙ is)
    (run_at text))
    (cases_Bool (is_final b)))
    (λ (outside : is_address_byte b ≡ false).
    let none : 0 ≡ suc n = sym (len_outside b text outside) ∙ is in absurd (omega arith))
    (cases_Bool (is_address_byte b))
