-- Where an address ends, the text may be cut.
use Rattle.std.proofs.Common.{◌≡◌, ℕ, zero, suc, ◌+◌, ◌<◌, ◌≤◌, true, List, length}
use Rattle.std.proofs.Common.{[], ◌∷◌, get_or, drop, refl, subst, arith, ⊎_elim, IsUtf8}
use Rattle.std.proofs.Common.{codes, leb, ltb, ◌==◌, ◌&&◌, ◌||◌}
use Rattle.std.specs.Char.{is_ascii_alphanumeric}
use Rattle.std.specs.Int.{is_in_range}
use Rattle.std.specs.List.{list_all, list_any}
use Rattle.std.proofs.lemmas.Bool.{and_parts, eqb-true, leb-true, ltb-true, or_cases}
use Rattle.std.specs.Str.{IsCharBoundary}
use Rattle.std.proofs.lemmas.List.{get_or-drop, length-drop}
use Rattle.std.proofs.lemmas.Str.{IsCharBoundary-after_ascii}
use Rattle.comment_links.specs.Marks.{is_address_byte}
use Rattle.comment_links.specs.InlinesOf.{address_len}
use Rattle.comment_links.proofs.Addresses.{run_at}

-- among bytes of ASCII
among : (marks : List ℕ) (b : ℕ) → list_all (λ mark. ltb mark 128) marks ≡ true
    → list_any (λ mark. mark == b) marks ≡ true → b < 128
among [] b ascii is = cc
among (mark ∷ marks) b ascii is =
    let parts = and_parts (ltb mark 128) (list_all (λ m. ltb m 128) marks) ascii in
    ⊎_elim
    (λ (here : (mark == b) ≡ true).
    omega (arith, eqb-true mark b here, ltb-true mark 128 parts.0))
    (λ (there : list_any (λ m. m == b) marks ≡ true). among marks b parts.1 there)
    (or_cases (mark == b) (list_any (λ m. m == b) marks) is)

within_ascii : (low high b : ℕ) → high < 128 → (leb low b && leb b high) ≡ true → b < 128
within_ascii low high b below is =
    let parts = and_parts (leb low b) (leb b high) is in
    omega (arith, leb-true b high parts.1)

pub address_is_ascii : (b : ℕ) → is_address_byte b ≡ true → b < 128
address_is_ascii b is = ⊎_elim
    (λ (name : is_ascii_alphanumeric b ≡ true). ⊎_elim
    (λ (front : (is_in_range 48 57 b || is_in_range 65 90 b) ≡ true). ⊎_elim
    (λ (digit : is_in_range 48 57 b ≡ true). within_ascii 48 57 b (omega arith) digit)
    (λ (upper : is_in_range 65 90 b ≡ true). within_ascii 65 90 b (omega arith) upper)
    (or_cases (is_in_range 48 57 b) (is_in_range 65 90 b) front))
    (λ (lower : is_in_range 97 122 b ≡ true). within_ascii 97 122 b (omega arith) lower)
    (or_cases (is_in_range 48 57 b || is_in_range 65 90 b) (is_in_range 97 122 b) name))
    (λ (mark : list_any (λ m. m == b) (codes "-._~/?#@!$&*+=%:,;") ≡ true).
    among (codes "-._~/?#@!$&*+=%:,;") b refl mark)
    (or_cases (is_ascii_alphanumeric b) (list_any (λ m. m == b) (codes "-._~/?#@!$&*+=%:,;")) is)

pub address_cut : (text : List ℕ) (scheme m : ℕ) → IsUtf8 text → scheme ≤ length text
    → address_len (drop scheme text) ≡ suc m → IsCharBoundary text (scheme + suc m)
address_cut text scheme m utf8 within len =
    let run = run_at (drop scheme text) m len in
    let fits : scheme + m < length text = omega (arith, run.fits, length-drop scheme text) in
    let byte = subst (λ b. is_address_byte b ≡ true) (get_or-drop scheme text m 0) run.byte in
    let next : scheme + m + 1 ≡ scheme + suc m = omega arith in
    subst (IsCharBoundary text) next
    (IsCharBoundary-after_ascii text (scheme + m) utf8 fits
    (address_is_ascii (get_or text (scheme + m) 0) byte))

-- the same by how many bytes there are
pub address_ends : (text : List ℕ) (scheme n : ℕ) → IsUtf8 text → scheme ≤ length text
    → address_len (drop scheme text) ≡ n → (n ≡ 0 → ⊥) → IsCharBoundary text (scheme + n)
address_ends text scheme zero utf8 within len some = absurd (some refl)
address_ends text scheme (suc m) utf8 within len some = address_cut text scheme m utf8 within len
