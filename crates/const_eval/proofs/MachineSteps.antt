-- Steps of the evaluation on a stack whose innermost frame is the last.
use Rattle.std.proofs.Common.{◌≡◌, ◌∙◌, ℕ, List, [], ◌∷◌, ◌++◌, ◌<◌, ◌+◌, length, take, drop}
use Rattle.std.proofs.Common.{get_or, refl, sym, ap, append_assoc}
use Rattle.std.proofs.Math.Seq.{take-append_seam}
use Rattle.std.proofs.lemmas.List.{reverse-append, take-append-drop, drop_more}
use Rattle.std.specs.Prelude.{Option, Some, None, reverse}
use Rattle.const_eval.specs.declared.operator.Operator.{Operator}
use Rattle.const_eval.specs.declared.value.Value.{Value}
use Rattle.const_eval.specs.declared.machine.Frame.{Frame}
use Rattle.const_eval.specs.declared.machine.Frame.TheVariants as f
use Rattle.go_literals.specs.Options.{◌|>◌}
use Rattle.const_eval.specs.Values.{apply_unary, apply_binary}
use Rattle.const_eval.specs.Machine.{values, arrive, State, step, run, finish}

reverse_last : (before : List (Frame Value)) (frame : Frame Value)
    → reverse (before ++ frame ∷ []) ≡ frame ∷ reverse before
reverse_last before frame = reverse-append before (frame ∷ [])

pub front_kept : (all frames before : List (Frame Value)) (frame : Frame Value)
    → frames ≡ take (length frames) all
    → frames ≡ before ++ frame ∷ [] → before ≡ take (length before) all
front_kept all frames before frame e d =
    let rest = drop (length frames) all in
    let split : all ≡ before ++ frame ∷ rest = sym (take-append-drop (length frames) all)
    ∙ ap (λ t. t ++ rest) (sym e ∙ d) ∙ append_assoc before (frame ∷ []) rest in
    sym (ap (take (length before)) split ∙ take-append_seam before (frame ∷ rest))

pub unary_step : (frames before : List (Frame Value)) (operator : Operator) (x y : Value)
    → frames ≡ before ++ f.Unary operator ∷ []
    → apply_unary operator x ≡ Some y → arrive values (reverse frames) x ≡ arrive values
    (reverse before) y
unary_step frames before operator x y e h = rw (e, reverse_last before (f.Unary operator), h) refl

pub product_step : (frames before : List (Frame Value)) (left : Value) (operator : Operator)
    (x y : Value)
    → frames ≡ before ++ f.Product left operator ∷ [] → apply_binary operator left x ≡ Some y
    → arrive values (reverse frames) x ≡ Some (reverse before, y)
product_step frames before left operator x y e h =
    rw (e, reverse_last before (f.Product left operator), h) refl

-- a token is taken, and the rest is left
pub taken : (leaf : List ℕ → Option Value) (state next : State Value) (texts : List (List ℕ))
    (i : ℕ) (d : List ℕ) → i < length texts
    → step values leaf state (get_or texts i d) ≡ Some next
    → run values leaf state (drop i texts) ≡ run values leaf next (drop (i + 1) texts)
taken leaf state next texts i d within h = rw (drop_more texts i d within, h) refl

-- where a token isn't taken, the whole has no value
pub stopped : (leaf : List ℕ → Option Value) (state : State Value) (texts : List (List ℕ)) (i : ℕ)
    (d : List ℕ) → i < length texts
    → step values leaf state (get_or texts i d) ≡ None
    → (run values leaf state (drop i texts) |> finish values) ≡ None
stopped leaf state texts i d within h = rw (drop_more texts i d within, h) refl
