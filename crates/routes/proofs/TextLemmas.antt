-- Lemmas on texts: a slash at their ends, decoded values, and the number of a page.
use Rattle.std.proofs.Common.{◌≡◌, ◌≢◌, ℕ, ◌+◌, ◌-◌, ◌^◌, ◌<◌, ◌≤◌, ◌==◌, ◌&&◌, Bool, true, false, cond, List, [], ◌∷◌, ◌++◌, length, take, drop, Option, Some, None, nat_eq, refl, sym, ap, ◌∙◌, subst, arith, length-append}
use Rattle.std.proofs.lemmas.List.{take_at}
use Rattle.std.proofs.lemmas.Bool.{lt-ltb, le-leb, ne_eqb}
use Rattle.std.proofs.lemmas.Bool.Decides.{Decides-eqb}
use Rattle.std.proofs.lemmas.Slice.Eq.{starts_is, ends_is}
use Rattle.std.proofs.lemmas.Str.{IsUtf8-from_is_utf8, is_utf8-from_IsUtf8}
use Rattle.std.proofs.lemmas.Str.Parse.{digits_value_short, digit_from_value, numerals_by_value, tells_digits, tells_all_ascii_digits}
use Rattle.std.specs.Prelude.{MatchOption, IsUtf8, codes, if◌then◌else◌}
use Rattle.std.specs.Borrow.{Bor}
use Rattle.std.specs.Char.{is_ascii_digit}
use Rattle.std.specs.List.{after_first, ends_with, starts_with, list_all}
use Rattle.std.specs.Str.{is_utf8, all_ascii_digits}
use Rattle.std.specs.Str.Parse.{AllDigits, IsNumeral, digits_value, without_leading_plus}
use Rattle.percent_encoding.specs.Percent.{percent_decode}
use Rattle.routes.specs.Targets.{after_slash, decoded, is_page_number, is_slash, first_value, page_asked, page_number, path_and_query, search_at, search_by, search_target, without_slash}
use Rattle.go_chars.specs.Identifiers.{is_name}
use Rattle.routes.specs.declared.target.Target.TheVariants as targets

-- ---- a slash in front, and one at the end

pub after_slash_is : (target : List ℕ) (r : Option (Bor (List ℕ)))
    → MatchOption r ((rest : List ℕ) → target ≢ 47 ∷ rest) (λ x. target ≡ 47 ∷ x.now)
    → MatchOption r (after_slash target ≡ None) (λ x. after_slash target ≡ Some x.now)
after_slash_is [] None none = refl
after_slash_is (b ∷ rest) None none = by (b == 47) refl
  where
    by : (slash : Bool) → (b == 47) ≡ slash → cond slash (Some rest) None ≡ None
    by true is = absurd (none rest (ap (λ w. w ∷ rest) ((Decides-eqb b 47).0 is)))
    by false is = refl
after_slash_is target (Some x) is = ap after_slash is

pub not_absolute : (target : List ℕ) → ((rest : List ℕ) → target ≢ codes "http://" ++ rest)
    → path_and_query target ≡ after_slash target
not_absolute target lacks =
    ap (λ b. cond b (Some (after_first is_slash (drop 7 target))) (after_slash target))
    (by (starts_with nat_eq target (codes "http://")) refl)
  where
    by : (b : Bool) → starts_with nat_eq target (codes "http://") ≡ b → b ≡ false
    by true is = absurd
        (lacks (drop 7 target)
        ((starts_is Decides-eqb target (codes "http://") true (sym is)).0 refl))
    by false is = refl

pub without_slash_some : (text front : List ℕ) → text ≡ front ++ 47 ∷ [] → front
    ≡ without_slash text
without_slash_some text front is =
    sym (ap (λ b. cond b (take (length text - 1) text) text) ends ∙ ap (take (length text - 1)) is
    ∙ take_at front (47 ∷ []) (length text - 1) (omega (arith, whole)))
  where
    ends : ends_with nat_eq text (codes "/") ≡ true
    ends = (ends_is Decides-eqb text (codes "/")
        (ends_with nat_eq text (codes "/")) refl).1 front is

    whole : length text ≡ length front + 1
    whole = ap length is ∙ length-append front (47 ∷ [])

pub without_slash_none : (text : List ℕ) → ((front : List ℕ) → text ≢ front ++ 47 ∷ []) → text
    ≡ without_slash text
without_slash_none text none = by (ends_with nat_eq text (codes "/")) refl
  where
    by : (ends : Bool) → ends_with nat_eq text (codes "/") ≡ ends
        → text ≡ cond ends (take (length text - 1) text) text
    by true is = absurd (none _ ((ends_is Decides-eqb text (codes "/") true (sym is)).0 refl))
    by false is = refl

-- ---- decoded values

pub decoded_text : (value text : List ℕ) → text ≡ percent_decode value
    → IsUtf8 (percent_decode value)
    → Some text ≡ decoded value
decoded_text value text is utf8 =
    ap Some is ∙ ap (λ b. cond b (Some (percent_decode value)) None)
    (sym (is_utf8-from_IsUtf8 (percent_decode value) utf8))

pub not_decoded : (value : List ℕ) → (IsUtf8 (percent_decode value) → ⊥) → None ≡ decoded value
not_decoded value none = by (is_utf8 (percent_decode value)) refl
  where
    by : (utf8 : Bool) → is_utf8 (percent_decode value) ≡ utf8 → None
        ≡ cond utf8 (Some (percent_decode value)) None
    by true is = absurd (none (IsUtf8-from_is_utf8 (percent_decode value) is))
    by false is = refl

-- ---- the number of a page

all_is : (text : List ℕ) → list_all is_ascii_digit text ≡ all_ascii_digits text
all_is [] = refl
all_is (c ∷ cs) = ap (λ rest. is_ascii_digit c && rest) (all_is cs)

all_digits : (text : List ℕ) → list_all is_ascii_digit text ≡ true → AllDigits 10 text
all_digits text all =
    (numerals_by_value (λ ds. all_ascii_digits ds ≡ true) tells_all_ascii_digits).to text
    (sym (all_is text) ∙ all)

no_plus : (text : List ℕ) → AllDigits 10 text → without_leading_plus text ≡ text
no_plus [] digits = refl
no_plus (c ∷ cs) digits =
    let digit = digit_from_value c digits.0 in
    ap (λ b. drop (cond b 1 0) (c ∷ cs)) (ne_eqb c 43 (λ is. omega arith))

value_fits : (text : List ℕ) → AllDigits 10 text → length text ≤ 6 → digits_value 10 text < 2 ^ 32
value_fits text digits short =
    let small : digits_value 10 text < 10 ^ 6 =
    digits_value_short (numerals_by_value (AllDigits 10) tells_digits) text 6 digits short in
    omega arith

pub page_parsed : (text : List ℕ) (page : ℕ)
    → (IsNumeral 10 (without_leading_plus text)
    × (digits_value 10 (without_leading_plus text) < 2 ^ 32))
    × (page ≡ digits_value 10 (without_leading_plus text))
    → length text ≤ 6 → list_all is_ascii_digit text ≡ true → 1 ≤ page → Some page
    ≡ page_number text
page_parsed text page parsed short all some =
    ap Some value ∙ sym (ap (λ b. cond b (Some (digits_value 10 text)) None) valid)
  where
    same : without_leading_plus text ≡ text
    same = no_plus text (all_digits text all)

    value : page ≡ digits_value 10 text
    value = parsed.1 ∙ ap (digits_value 10) same

    long : 0 < length text
    long = subst (λ w. 0 < length w) same parsed.0.0.0

    valid : is_page_number text ≡ true
    valid =
        rw (
          lt-ltb 0 (length text) long,
          le-leb (length text) 6 short,
          all,
          lt-ltb 0
              (digits_value 10 text) (omega (arith, value)),
        )
        refl

pub page_not_parsed : (text : List ℕ)
    → (IsNumeral 10 (without_leading_plus text)
    × (digits_value 10 (without_leading_plus text) < 2 ^ 32) → ⊥)
    → length text ≤ 6 → list_all is_ascii_digit text ≡ true → None ≡ page_number text
page_not_parsed [] parsed short all = refl
page_not_parsed (c ∷ cs) parsed short all =
    let digits = all_digits (c ∷ cs) all in
    let same = no_plus (c ∷ cs) digits in
    absurd (parsed (subst (λ w. IsNumeral 10 w × (digits_value 10 w < 2 ^ 32)) (sym same)
    ((omega arith, digits), value_fits (c ∷ cs) digits short)))

-- ---- a search

pub search_refused : (query name : List ℕ) → Some name ≡ first_value (codes "q") query
    → is_name name ≡ false
    → targets.BadTarget ≡ search_target query
search_refused query name first refused =
    sym (ap (λ value. search_by value (first_value (codes "p") query)) (sym first)
    ∙ ap (λ (b : Bool). if b then search_at name
    (page_asked (first_value (codes "p") query)) else targets.BadTarget) refused)
