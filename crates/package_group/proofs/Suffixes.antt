-- A text without the text at its end.
use Rattle.std.proofs.Common.{◌≡◌, ℕ, ◌+◌, ◌-◌, ◌<◌, ◌≤◌, ◌==◌, codes, lt-ltb, cond, true, false}
use Rattle.std.proofs.Common.{Bor, List, [], ◌∷◌, ◌++◌, length, take, Option, Some, None}
use Rattle.std.proofs.Common.{MatchOption, refl, sym, ap, subst, ◌∙◌, arith}
use Rattle.std.specs.Prelude.{nat_eq, nat_lt, ◌&&◌}
use Rattle.std.specs.List.{ends_with}
use Rattle.std.specs.Str.{bytes_eq}
use Rattle.std.specs.Str.{IsCharBoundary}
use Rattle.std.specs.Str.Pattern.{FindsTextSuffix, StripsSuffix}
use Rattle.std.proofs.lemmas.Bool.{le-ltb, and_right, eqb-true}
use Rattle.package_group.specs.Groups.{without_test}
use Rattle.std.proofs.lemmas.List.{append_cancel_right}
use Rattle.std.proofs.lemmas.Bool.Decides.{same_from_decides}
use Rattle.std.proofs.lemmas.Slice.Eq.{bytes_eq-Decides}
use Rattle.std.proofs.lemmas.Str.Pattern.{ends_text}

-- what was cut off stood at the end
pub strips : (text suffix rest : List ℕ) → StripsSuffix (FindsTextSuffix suffix) text rest → text
    ≡ rest ++ suffix
strips text suffix rest h = h.1.1 ∙ ap (λ l. l ++ suffix) (sym h.2)

pub bytes_eq-append : (xs ys suffix : List ℕ) → bytes_eq (xs ++ suffix) (ys ++ suffix)
    ≡ bytes_eq xs ys
bytes_eq-append xs ys suffix =
    let long = bytes_eq-Decides (xs ++ suffix) (ys ++ suffix) in
    same_from_decides _ _ (
      λ e. append_cancel_right xs ys suffix (long.0 e),
      λ e. long.1
          (ap (λ l. l ++ suffix) e),
    ) (bytes_eq-Decides xs ys)

-- a text that ends so
pub ends : (text suffix rest : List ℕ) → StripsSuffix (FindsTextSuffix suffix) text rest
    → ends_with nat_eq text suffix ≡ true
ends text suffix rest h = sym (ends_text true suffix text (
  h.0,
  h.1,
  omega (arith, h.3),
  subst
      (λ n. IsCharBoundary text (length text - n)) (sym h.1.0) h.1.2,
))

pub ends_not : (text suffix : List ℕ) → FindsTextSuffix suffix text None
    → ends_with nat_eq text suffix ≡ false
ends_not text suffix h = sym (ends_text false suffix text h)

-- what stands before the end
pub before : (text suffix rest : List ℕ) → StripsSuffix (FindsTextSuffix suffix) text rest → rest
    ≡ take (length text - length suffix) text
before text suffix rest h = h.2 ∙ ap (λ n. take (length text - n) text) h.1.0

pub length-strips : (text suffix rest : List ℕ) → StripsSuffix (FindsTextSuffix suffix) text rest
    → length rest + length suffix ≡ length text
length-strips text suffix rest h = ap (λ n. length rest + n) (sym h.1.0) ∙ h.3

not_empty : (rest : List ℕ) → false ≡ (length rest == 0) → 0 < length rest
not_empty [] e = cc
not_empty (b ∷ bs) e = omega arith

empty : (rest : List ℕ) → true ≡ (length rest == 0) → length rest ≡ 0
empty rest e = eqb-true _ _ (sym e)

pub cuts : (name rest : List ℕ) → StripsSuffix (FindsTextSuffix (codes "_test")) name rest → false
    ≡ (length rest == 0) → rest ≡ without_test name
unfolding without_test
cuts name rest h some =
    let some' : 0 < length rest = not_empty rest some in
    let long : 5 < length name = omega (arith, length-strips name (codes "_test") rest h) in
    let both : (nat_lt 5 (length name) && ends_with nat_eq name (codes "_test"))
    ≡ true = rw (lt-ltb 5 (length name) long, ends name (codes "_test") rest h) refl in
    before name (codes "_test") rest h ∙ sym (ap (λ b. cond b (take (length name - 5) name) name)
    both)

pub keeps_short : (name rest : List ℕ) → StripsSuffix (FindsTextSuffix (codes "_test")) name rest
    → true ≡ (length rest == 0) → name ≡ without_test name
unfolding without_test
keeps_short name rest h none =
    let none' : length rest ≡ 0 = empty rest none in
    let short : length name ≤ 5 = omega (arith, length-strips name (codes "_test") rest h) in
    let one : (nat_lt 5 (length name) && ends_with nat_eq name (codes "_test"))
    ≡ false = ap (λ b. b && ends_with nat_eq name (codes "_test"))
    (le-ltb 5 (length name) short) in
    sym (ap (λ b. cond b (take (length name - 5) name) name) one)

pub keeps_other : (name : List ℕ) (r : Option (Bor (List ℕ))) → r ≡ None
    → MatchOption r (FindsTextSuffix (codes "_test") name None)
    (λ x. StripsSuffix (FindsTextSuffix (codes "_test")) name x.now) → name ≡ without_test name
unfolding without_test
keeps_other name None e h =
    let one : (nat_lt 5 (length name) && ends_with nat_eq name (codes "_test"))
    ≡ false = and_right _ _ (ends_not name (codes "_test") h) in
    sym (ap (λ b. cond b (take (length name - 5) name) name) one)
keeps_other name (Some x) e h = cc
