-- What is read by bytes is what literals denote, and nothing else.
use Rattle.std.proofs.Common.{◌≡◌, ◌∙◌, ℕ, ◌≤◌, ◌^◌, List, true, false, sym, ap, subst, arith}
use Rattle.std.specs.Prelude.{Option, IfSome, IfNone, Some, None, if◌then◌else◌, nat_lt}
use Rattle.go_literals.specs.Literals.{IsIntegerLiteral, IsRuneLiteral}
use Rattle.go_literals.specs.Options.{◌|>◌}
use Rattle.go_literals.specs.Reading.{read_integer, read_rune, in_range}
use Rattle.go_literals.proofs.IntegerLaws.{integer_complete, integer_sound}
use Rattle.go_literals.proofs.RuneLaws.{rune_complete, rune_sound}
use Rattle.go_literals.proofs.Options.{bind_some, some_is}

in_range_is : (n v : ℕ) → in_range n ≡ Some v → n ≡ v
in_range_is n v h = (elim (nat_lt n (2 ^ 128)) as (λ t. (if t then Some n else None) ≡ Some v
    → n ≡ v) [
      | true ↦ λ e. some_is n v e
      | false ↦ λ e. cc
    ]) h

integer_is : (text : List ℕ) (v : ℕ) → (read_integer text |> in_range) ≡ Some v
    → IsIntegerLiteral text v
integer_is text v h =
    let r = bind_some (read_integer text) in_range v h in
    subst (IsIntegerLiteral text) (in_range_is r.0 v r.2) (integer_sound text r.0 r.1)

pub integer_found : (text : List ℕ) (found : Option ℕ) → found ≡ (read_integer text |> in_range)
    → IfSome found (IsIntegerLiteral text)
integer_found text None h = tt
integer_found text (Some v) h = integer_is text v (sym h)

integer_read : (text : List ℕ) (n : ℕ) → IsIntegerLiteral text n → read_integer text ≡ Some n
integer_read text n h =
    subst (λ t. read_integer t ≡ Some n) h.printed
    (integer_complete h.literal h.valid ∙ ap Some h.worth)

too_large : (n : ℕ) → in_range n ≡ None → 2 ^ 128 ≤ n
too_large n h = grind arith

pub integer_none : (text : List ℕ) (found : Option ℕ) → found ≡ (read_integer text |> in_range)
    → IfNone found ((n : ℕ) → IsIntegerLiteral text n → 2 ^ 128 ≤ n)
integer_none text None h = λ n literal.
    too_large n (sym (ap (λ o. o |> in_range) (integer_read text n literal)) ∙ sym h)
integer_none text (Some v) h = tt

pub rune_found : (text : List ℕ) (found : Option ℕ) → found ≡ read_rune text
    → IfSome found (IsRuneLiteral text)
rune_found text None h = tt
rune_found text (Some v) h = rune_sound text v (sym h)

rune_read : (text : List ℕ) (n : ℕ) → IsRuneLiteral text n → read_rune text ≡ Some n
rune_read text n h =
    subst (λ t. read_rune t ≡ Some n) h.printed
    (rune_complete h.element h.valid ∙ ap Some h.worth)

pub rune_none : (text : List ℕ) (found : Option ℕ) → found ≡ read_rune text
    → IfNone found ((n : ℕ) → IsRuneLiteral text n → ⊥)
rune_none text None h = λ n literal. let e : Some n ≡ None = sym (rune_read text n literal)
    ∙ sym h in
    cc
rune_none text (Some v) h = tt
