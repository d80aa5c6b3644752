-- Texts whose newlines are read as spaces, and the first definitions of texts.
use Rattle.std.proofs.Common.{◌≡◌, ℕ, zero, suc, ◌+◌, ◌<◌, Bool, true, false, List, [], ◌∷◌}
use Rattle.std.proofs.Common.{◌++◌, length, get_or, take, drop, map, Option, Some, None, refl, sym}
use Rattle.std.proofs.Common.{◌∙◌, ap, arith, if◌then◌else◌, ⊎_elim, ◌==◌}
use Rattle.std.proofs.Common.{Bor}
use Rattle.std.specs.Option.{option_map}
use Rattle.std.specs.Str.{bytes_eq}
use Rattle.std.proofs.lemmas.Bool.{cases_Bool, cond-false, cond-true, false_from_ne_true}
use Rattle.memchr.specs.Find.{IsFirstByte, is_byte}
use Rattle.comment_blocks.specs.declared.block.LinkDef.{LinkDef}
use Rattle.comment_links.specs.Marks.{as_space, url_of}
use Rattle.comment_links.specs.InlineSteps.{url_or}

space_none : (bytes : List ℕ) → ((k : ℕ) → k < length bytes → (get_or bytes k 0 == 10) ≡ false)
    → map as_space bytes ≡ bytes
space_none [] none = refl
space_none (b ∷ bytes) none =
    ap (λ n. n ∷ map as_space bytes) (cond-false (b == 10) 32 b (none 0 (omega arith)))
    ∙ ap (λ t. b ∷ t) (space_none bytes (λ k lt. none (suc k) (omega arith)))

space_at : (bytes : List ℕ) (n : ℕ) → n < length bytes
    → ((k : ℕ) → k < n → (get_or bytes k 0 == 10) ≡ false) → (get_or bytes n 0 == 10) ≡ true
    → map as_space bytes ≡ take n bytes ++ 32 ∷ map as_space (drop (suc n) bytes)
space_at [] n within before here = absurd (omega arith)
space_at (b ∷ bytes) zero within before here =
    ap (λ m. m ∷ map as_space bytes) (cond-true (b == 10) 32 b here)
space_at (b ∷ bytes) (suc n) within before here =
    ap (λ m. m ∷ map as_space bytes) (cond-false (b == 10) 32 b (before 0 (omega arith)))
    ∙ ap (λ t. b ∷ t) (space_at bytes n (omega arith) (λ k lt. before (suc k) (omega arith)) here)

-- what a search answers
pub no_newline : (bytes : List ℕ) → IsFirstByte (is_byte 10) bytes None
    → map as_space bytes ≡ bytes
no_newline bytes nowhere =
    space_none bytes (λ k below. false_from_ne_true _ (nowhere k (omega arith) below))

pub newline_at : (bytes : List ℕ) (n : ℕ) → IsFirstByte (is_byte 10) bytes (Some n)
    → map as_space bytes ≡ take n bytes ++ 32 ∷ map as_space (drop (n + 1) bytes)
newline_at bytes n found =
    let next : suc n ≡ n + 1 = omega arith in
    space_at bytes n found.0.high
    (λ k below. false_from_ne_true _ (found.0.before k (omega arith) below)) found.1
    ∙ ap (λ m. take n bytes ++ 32 ∷ map as_space (drop m bytes)) next

-- a definition after others
pub url_behind : (links : List LinkDef) (link : LinkDef) (text : List ℕ) (other : Option (List ℕ))
    → url_or (url_of (links ++ link ∷ []) text) other
    ≡ url_or (url_of links text)
    (if bytes_eq link.text text then Some link.url else other)
url_behind [] link text other = ⊎_elim
    (λ (is : bytes_eq link.text text ≡ true).
    ap (λ o. url_or o other) (cond-true (bytes_eq link.text text) (Some link.url) None is)
    ∙ sym (cond-true (bytes_eq link.text text) (Some link.url) other is))
    (λ (isnt : bytes_eq link.text text ≡ false).
    ap (λ o. url_or o other) (cond-false (bytes_eq link.text text) (Some link.url) None isnt)
    ∙ sym (cond-false (bytes_eq link.text text) (Some link.url) other isnt))
    (cases_Bool (bytes_eq link.text text))
url_behind (first ∷ links) link text other =
    let last = if bytes_eq link.text text then Some link.url else other in
    let same = bytes_eq first.text text in
    ⊎_elim
    (λ (is : same ≡ true).
    ap (λ o. url_or o other) (cond-true same (Some first.url) (url_of (links ++ link ∷ []) text) is)
    ∙ sym (ap (λ o. url_or o last) (cond-true same (Some first.url) (url_of links text) is)))
    (λ (isnt : same ≡ false).
    ap (λ o. url_or o other)
    (cond-false same (Some first.url) (url_of (links ++ link ∷ []) text) isnt)
    ∙ url_behind links link text other
    ∙ sym (ap (λ o. url_or o last) (cond-false same (Some first.url) (url_of links text) isnt)))
    (cases_Bool same)

-- a reference or another, seen as a text
pub map_choice : (b : Bool) (url : Bor (List ℕ)) (other : Option (Bor (List ℕ)))
    → option_map (λ (u : Bor (List ℕ)). u.now) (if b then Some url else other)
    ≡ (if b then Some url.now else option_map (λ (u : Bor (List ℕ)). u.now) other)
map_choice true url other = refl
map_choice false url other = refl
