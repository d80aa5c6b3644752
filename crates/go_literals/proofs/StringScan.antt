-- A text, from one mark to the next.
use Rattle.std.proofs.Common.{◌≡◌, ◌==◌, ℕ, ◌+◌, ◌-◌, ◌<◌, ◌≤◌, Bool, true, ◌||◌, List, [], ◌∷◌}
use Rattle.std.proofs.Common.{◌++◌, length, take, drop, get_or, Option, Some, None, refl, sym, ◌∙◌}
use Rattle.std.proofs.Common.{ap, subst, inl, inr, arith, length-append, length-drop, append-nil}
use Rattle.std.specs.List.{list_all, position_or_len}
use Rattle.std.proofs.lemmas.Bool.{eqb-true, or_cases}
use Rattle.std.proofs.lemmas.List.{take_rest, take_all, drop-drop, length-take-le, get_or-drop}
use Rattle.memchr.specs.Find.{IsFirstByte, is_byte3}
use Rattle.go_ast.specs.Characters.{double_quote}
use Rattle.go_ast.specs.Texts.{is_unquoted}
use Rattle.go_literals.specs.Extents.{escape_length, string_length}
use Rattle.go_literals.proofs.Places.{place_none, place_some}
use Rattle.go_literals.proofs.Lists.{around, list_all-take_prefix_len}
use Rattle.go_literals.proofs.Escapes.{escape_tail, escape_sound}
use Rattle.go_literals.proofs.Quoted.{add, add-add, add-same, plain_all, closing_step}
use Rattle.go_literals.proofs.Quoted.{newline_stops, bad_escape, text_nil, skip_all}
use Rattle.go_literals.proofs.Quoted.{escape_step}

abbrev is_mark : ℕ → Bool
is_mark b = is_byte3 34 92 10 b

abbrev length_of : List ℕ → Option ℕ
length_of bytes = string_length double_quote 0 bytes

-- the text so far, and what is left of it
pub record TextFrom (bytes : List ℕ) (at : ℕ) : Type 0 where
  pub within : at ≤ length bytes
  pub rest : add at (length_of (drop at bytes)) ≡ length_of bytes

add-zero : (found : Option ℕ) → add 0 found ≡ found
add-zero None = refl
add-zero (Some n) = let e : n + 0 ≡ n = omega arith in ap Some e

pub start : (bytes : List ℕ) → TextFrom bytes 0
start bytes = record { within = omega arith; rest = add-zero (length_of bytes) }

-- what stands before the first mark of some bytes
front_plain : (bytes : List ℕ) (n : ℕ) → n ≡ position_or_len is_mark bytes
    → list_all (is_unquoted double_quote) (take n bytes) ≡ true
front_plain bytes n place = ap (λ k. list_all (is_unquoted double_quote) (take k bytes)) place
    ∙ list_all-take_prefix_len (is_unquoted double_quote) bytes

-- up to a byte at a place, which bytes that stand for themselves stand before
up_to : (bytes : List ℕ) (n b : ℕ) → n < length bytes → n ≡ position_or_len is_mark bytes
    → get_or bytes n 0 ≡ b → length_of bytes ≡ add n (length_of (b ∷ drop (n + 1) bytes))
up_to bytes n b within place is =
    let front = take n bytes in
    let split : bytes ≡ front ++ b ∷ drop (n + 1) bytes =
    around n bytes within ∙ ap (λ x. front ++ x ∷ drop (n + 1) bytes) is in
    let size : length front ≡ n = length-take-le n bytes (omega arith) in
    ap length_of split
    ∙ plain_all double_quote front (b ∷ drop (n + 1) bytes) (front_plain bytes n place)
    ∙ add-same (length front) n (length_of (b ∷ drop (n + 1) bytes)) size

module _ (bytes : List ℕ) (at : ℕ) (before : TextFrom bytes at) where
  abbrev left : List ℕ
  left = drop at bytes

  in_left : (found : Option ℕ) → IsFirstByte is_mark (take (length bytes - at) left) found
      → IsFirstByte is_mark left found
  in_left found h = subst (λ l. IsFirstByte is_mark l found) (take_rest bytes at) h

  pub unended : IsFirstByte is_mark (take (length bytes - at) left) None → length_of bytes ≡ None
  unended h =
      let all = place_none is_mark left (in_left None h) in
      let plain = front_plain left (length left) all in
      let whole : take (length left) left ≡ left = take_all (length left) left (omega arith) in
      let none : length_of left ≡ None =
      ap length_of (sym (append-nil left))
      ∙ plain_all double_quote left []
      (subst (λ l. list_all (is_unquoted double_quote) l ≡ true) whole plain)
      ∙ ap (add (length left)) (text_nil double_quote) in
      sym before.rest ∙ ap (add at) none

  module _ (n : ℕ) (found : IsFirstByte is_mark (take (length bytes - at) left) (Some n)) where
    here : IsFirstByte is_mark left (Some n)
    here = in_left (Some n) found

    pub below : n < length left
    below = here.0.high

    pub place_below : at + n < length bytes
    place_below = omega (arith, below, length-drop at bytes)

    mark_here : (b : ℕ) → get_or bytes (at + n) 0 ≡ b
        → length_of left ≡ add n (length_of (b ∷ drop (n + 1) left))
    mark_here b is =
        up_to left n b below (place_some is_mark left n here) (get_or-drop at bytes n 0 ∙ is)

    pub closed : get_or bytes (at + n) 0 ≡ 34 → Some (at + n + 1) ≡ length_of bytes
    closed is =
        let e : 1 + n + at ≡ at + n + 1 = omega arith in
        ap Some (sym e)
        ∙ sym (ap (add at)
        (mark_here 34 is ∙ ap (add n) (closing_step double_quote (drop (n + 1) left))))
        ∙ before.rest

    pub ended : get_or bytes (at + n) 0 ≡ 10 → None ≡ length_of bytes
    ended is =
        sym (ap (add at)
        (mark_here 10 is ∙ ap (add n) (newline_stops double_quote (drop (n + 1) left) refl)))
        ∙ before.rest

    behind : drop (n + 1) left ≡ drop (at + n + 1) bytes
    behind = let e : at + (n + 1) ≡ at + n + 1 = omega arith in
        drop-drop (n + 1) at bytes ∙ ap (λ k. drop k bytes) e

    pub unescaped : get_or bytes (at + n) 0 ≡ 92
        → escape_length double_quote (drop (at + n + 1) bytes) ≡ 0 → None ≡ length_of bytes
    unescaped is none =
        let bad : escape_length double_quote (drop (n + 1) left) ≡ 0 =
        ap (escape_length double_quote) behind ∙ none in
        sym (ap (add at)
        (mark_here 92 is ∙ ap (add n) (bad_escape double_quote (drop (n + 1) left) refl bad)))
        ∙ before.rest

    pub escaped : get_or bytes (at + n) 0 ≡ 92 → (e : ℕ)
        → escape_length double_quote (drop (at + n + 1) bytes) ≡ e → 0 < e
        → TextFrom bytes (at + n + 1 + e)
    escaped is e long some =
        let more = drop (at + n + 1) bytes in
        let element = escape_sound double_quote more refl (omega (arith, long)) in
        let tail = escape_tail element.element in
        let later = drop e more in
        let split : more ≡ tail ++ later = element.split ∙ ap (λ k. tail ++ drop k more) long in
        let size : length tail ≡ e = element.size ∙ long in
        let skipped : string_length double_quote e more ≡ add e (length_of later) =
        ap (string_length double_quote e) split
        ∙ ap (λ k. string_length double_quote k (tail ++ later)) (sym size)
        ∙ skip_all double_quote tail later ∙ add-same (length tail) e (length_of later) size in
        let step : length_of (92 ∷ more) ≡ add 1 (add e (length_of later)) =
        escape_step double_quote more e refl long some ∙ ap (add 1) skipped in
        let past : later ≡ drop (at + n + 1 + e) bytes = drop-drop e (at + n + 1) bytes in
        let whole : length_of left ≡ add n (add 1 (add e (length_of later))) =
        mark_here 92 is ∙ ap (λ l. add n (length_of (92 ∷ l))) behind ∙ ap (add n) step in
        let sums : add at (add n (add 1 (add e (length_of later)))) ≡ add (at + n + 1 + e)
        (length_of later) =
        ap (λ o. add at (add n o)) (add-add 1 e (length_of later))
        ∙ ap (add at) (add-add n (1 + e) (length_of later))
        ∙ add-add at (n + (1 + e)) (length_of later)
        ∙ add-same (at + (n + (1 + e))) (at + n + 1 + e) (length_of later) (omega arith) in
        record {
          within =
              omega (
                arith,
                ap length split,
                length-append tail later,
                length-drop (at + n + 1) bytes,
                place_below,
                size,
              );
          rest = ap (λ l. add (at + n + 1 + e) (length_of l)) (sym past) ∙ sym sums
              ∙ sym (ap (add at) whole) ∙ before.rest;
        }

    -- a mark that is neither a quote nor a "\" is a newline
    pub last_mark : (get_or bytes (at + n) 0 ≡ 34 → ⊥) → (get_or bytes (at + n) 0 ≡ 92 → ⊥)
        → get_or bytes (at + n) 0 ≡ 10
    last_mark quote escape =
        let b = get_or bytes (at + n) 0 in
        let passes : is_mark b ≡ true = ap is_mark (sym (get_or-drop at bytes n 0)) ∙ here.1 in
        elim (or_cases (b == 34 || b == 92) (b == 10) passes) [
          | inr line ↦ eqb-true b 10 line
          | inl two ↦ elim (or_cases (b == 34) (b == 92) two) [
            | inl e ↦ absurd (quote (eqb-true b 34 e))
            | inr e ↦ absurd (escape (eqb-true b 92 e))
          ]
        ]
