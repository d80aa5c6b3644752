-- The end of a general comment: what the program finds, what a search finds, and what no end means.
use Rattle.std.proofs.Common.{◌≡◌, ℕ, zero, suc, ◌+◌, ◌<◌, ◌≤◌, Bool, true, false, ◌&&◌, List}
use Rattle.std.proofs.Common.{[], ◌∷◌, length, get_or, Option, Some, None, option_map, nat_eq}
use Rattle.std.proofs.Common.{codes, refl, sym, ◌∙◌, ap, arith, inl, inr}
use Rattle.std.specs.List.{starts_with}
use Rattle.std.proofs.lemmas.Bool.{cases_Bool, false≢true, eqb-true, and_parts}
use Rattle.memchr.specs.Find.{OccursAt, FindsNeedle}
use Rattle.go_scanner.specs.TextBytes.{comment_end}

abbrev pub is_end : List ℕ → Bool
is_end bytes = starts_with nat_eq bytes (codes "*/")

pub comment_end-here : (b : ℕ) (bytes : List ℕ) → is_end (b ∷ bytes) ≡ true
    → comment_end (b ∷ bytes) ≡ Some 0
unfolding comment_end
comment_end-here b bytes h = rw h refl

pub comment_end-later : (b : ℕ) (bytes : List ℕ) → is_end (b ∷ bytes) ≡ false
    → comment_end (b ∷ bytes) ≡ option_map (λ n. n + 1) (comment_end bytes)
unfolding comment_end
comment_end-later b bytes h = rw h refl

-- where two bytes of the end stand, there are two bytes
is_end-length : (bytes : List ℕ) → is_end bytes ≡ true → 2 ≤ length bytes
is_end-length [] h = cc
is_end-length (b ∷ []) h = absurd (false≢true (and_parts (nat_eq 42 b) false h).1)
is_end-length (b ∷ c ∷ bytes) h = omega arith

pub map_cases : (o : Option ℕ) (n : ℕ) → option_map (λ k. k + 1) o ≡ Some n → (m : ℕ) × (o ≡ Some m)
    × (n ≡ m + 1)
map_cases None n e = cc
map_cases (Some m) n e = (m, refl, cc)

pub comment_end_within : (bytes : List ℕ) (n : ℕ) → comment_end bytes ≡ Some n
    → n + 2 ≤ length bytes
comment_end_within [] n e = let f : comment_end [] ≡ None = unfold comment_end in refl in cc
comment_end_within (b ∷ bytes) n e = elim (cases_Bool (is_end (b ∷ bytes))) [
  | inl here ↦
      let f = comment_end-here b bytes here in
      let z : n ≡ 0 = cc in
      omega (arith, is_end-length (b ∷ bytes) here)
  | inr later ↦
      let f = map_cases (comment_end bytes) n (sym (comment_end-later b bytes later) ∙ e) in
      omega (arith, comment_end_within bytes f.0 f.1, f.2)
]

-- what a search for "*/" finds
abbrev marks : List ℕ
marks = 42 ∷ 47 ∷ []

two : (n : ℕ) → OccursAt [] marks n → ⊥
two n occurs = omega (arith, occurs.fits)

is_end-occurs : (bytes : List ℕ) → OccursAt bytes marks 0 → is_end bytes ≡ true
is_end-occurs [] occurs = absurd (two 0 occurs)
is_end-occurs (b ∷ []) occurs = absurd (omega (arith, occurs.fits))
is_end-occurs (b ∷ c ∷ bytes) occurs =
    let first : b ≡ 42 = occurs.reads 0 (omega arith) in
    let second : c ≡ 47 = occurs.reads 1 (omega arith) in
    rw (first, second) refl

reads_two : (b c : ℕ) (bytes : List ℕ) → 42 ≡ b → 47 ≡ c → (j : ℕ) → j < 2
    → get_or (b ∷ c ∷ bytes) (0 + j) 0 ≡ get_or marks j 0
reads_two b c bytes first second zero below = sym first
reads_two b c bytes first second (suc zero) below = sym second
reads_two b c bytes first second (suc (suc j)) below = absurd (omega arith)

occurs-is_end : (bytes : List ℕ) → is_end bytes ≡ true → OccursAt bytes marks 0
occurs-is_end [] h = cc
occurs-is_end (b ∷ []) h = absurd (false≢true (and_parts (nat_eq 42 b) false h).1)
occurs-is_end (b ∷ c ∷ bytes) h =
    let parts = and_parts (nat_eq 42 b) (nat_eq 47 c && true) h in
    let first : 42 ≡ b = eqb-true 42 b parts.0 in
    let second : 47 ≡ c = eqb-true 47 c (and_parts (nat_eq 47 c) true parts.1).0 in
    record { fits = omega arith; reads = reads_two b c bytes first second }

occurs_later : (b : ℕ) (bytes : List ℕ) (k : ℕ) → OccursAt (b ∷ bytes) marks (suc k)
    → OccursAt bytes marks k
occurs_later b bytes k occurs = record {
  fits = omega (arith, occurs.fits);
  reads = λ j below.
      let place : suc k + j ≡ suc (k + j) = omega arith in
      ap (λ i. get_or (b ∷ bytes) i 0) (sym place) ∙ occurs.reads j below;
}

occurs_earlier : (b : ℕ) (bytes : List ℕ) (k : ℕ) → OccursAt bytes marks k
    → OccursAt (b ∷ bytes) marks (suc k)
occurs_earlier b bytes k occurs = record {
  fits = omega (arith, occurs.fits);
  reads = λ j below.
      let place : suc k + j ≡ suc (k + j) = omega arith in
      ap (λ i. get_or (b ∷ bytes) i 0) place ∙ occurs.reads j below;
}

later_place : (n : ℕ) → n + 1 ≡ suc n
later_place n = omega arith

found_at : (bytes : List ℕ) (n : ℕ) → ((k : ℕ) → k < n → OccursAt bytes marks k → ⊥)
    → OccursAt bytes marks n → comment_end bytes ≡ Some n
found_at [] n before occurs = absurd (two n occurs)
found_at (b ∷ bytes) zero before occurs =
    comment_end-here b bytes (is_end-occurs (b ∷ bytes) occurs)
found_at (b ∷ bytes) (suc n) before occurs = elim (cases_Bool (is_end (b ∷ bytes))) [
  | inl here ↦ absurd (before 0 (omega arith) (occurs-is_end (b ∷ bytes) here))
  | inr later ↦
      comment_end-later b bytes later
      ∙ ap (option_map (λ k. k + 1))
      (found_at bytes n (λ k below at. before (suc k) (omega arith) (occurs_earlier b bytes k at))
      (occurs_later b bytes n occurs))
      ∙ ap Some (later_place n)
]

not_found : (bytes : List ℕ) → ((k : ℕ) → k < length bytes + 1 → OccursAt bytes marks k → ⊥)
    → comment_end bytes ≡ None
not_found [] nowhere = unfold comment_end in refl
not_found (b ∷ bytes) nowhere = elim (cases_Bool (is_end (b ∷ bytes))) [
  | inl here ↦ absurd (nowhere 0 (omega arith) (occurs-is_end (b ∷ bytes) here))
  | inr later ↦
      comment_end-later b bytes later
      ∙ ap (option_map (λ k. k + 1))
      (not_found bytes (λ k below at. nowhere (suc k) (omega arith) (occurs_earlier b bytes k at)))
]

pub comment_end_found : (bytes : List ℕ) (found : Option ℕ) → FindsNeedle bytes marks 0 found
    → found ≡ comment_end bytes
comment_end_found bytes None nowhere =
    sym (not_found bytes (λ k below at. nowhere k (omega arith) below at))
comment_end_found bytes (Some n) first =
    sym (found_at bytes n (λ k below at. first.0.before k (omega arith) below at) first.1)
