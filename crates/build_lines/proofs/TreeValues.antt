-- The values that symbols give are those of the tree that they give.
use Rattle.std.proofs.Common.{◌≡◌, ℕ, suc, Bool, true, false, ◌&&◌, ◌||◌, not, List, [], ◌∷◌}
use Rattle.std.proofs.Common.{length, map, refl, sym, ◌∙◌, ap}
use Rattle.std.specs.Prelude.{Option, Some, None, if◌then◌else◌, nat_lt, option_and_then}
use Rattle.std.specs.Prelude.{option_map}
use Rattle.std.specs.Str.{encode_utf8_all}
use Rattle.build_lines.specs.declared.symbol.Symbol.{Symbol as Valued}
use Rattle.build_lines.specs.declared.symbol.Symbol.TheVariants as v
use Rattle.build_lines.specs.declared.frame.Frame.{Frame as Values}
use Rattle.build_lines.specs.Expressions.{Expression, Conjunction, Operand}
use Rattle.build_lines.specs.Expressions.{tag, group, Symbol, opening, closing, bang, ampersands}
use Rattle.build_lines.specs.Expressions.{bars, name, value, value_of_conjunction}
use Rattle.build_lines.specs.Expressions.{value_of_operand}
use Rattle.build_lines.specs.Reading.{Evaluating, close, evaluate, evaluate_symbol, evaluated_end}
use Rattle.build_lines.specs.Reading.{evaluating, no_values, values, value_of_frame}
use Rattle.build_lines.specs.Reading as r
use Rattle.build_lines.proofs.Parsing.{Frame, frame, State, operand, operator, with_alternative}
use Rattle.build_lines.proofs.Parsing.{with_factor, factor_of, with_operand, run, step}
use Rattle.build_lines.proofs.Parsing.{tree_of}

module _ (holds : List ℕ → Bool) where
  -- a symbol with a tag's value
  abbrev pub valued : Symbol → Valued
  valued opening = v.Open
  valued closing = v.Close
  valued bang = v.Not
  valued ampersands = v.And
  valued bars = v.Or
  valued (name characters) = v.Tag (holds (encode_utf8_all characters))

  abbrev any_of : Option Expression → Bool
  any_of None = false
  any_of (Some e) = value holds e

  abbrev all_of : Option Conjunction → Bool
  all_of None = true
  all_of (Some c) = value_of_conjunction holds c

  abbrev frame_values : Frame → Values
  frame_values (frame alternatives factors neg) = values (any_of alternatives) (all_of factors) neg

  abbrev state_values : State → Evaluating
  state_values (operand outer f) = evaluating (map frame_values outer) (frame_values f) false
  state_values (operator outer alternatives c) =
      evaluating (map frame_values outer)
      (values (any_of alternatives) (value_of_conjunction holds c) false) true

  alternative_value : (alternatives : Option Expression) (c : Conjunction)
      → value holds (with_alternative alternatives c)
      ≡ (any_of alternatives || value_of_conjunction holds c)
  alternative_value None c = refl
  alternative_value (Some e) c = refl

  factor_value : (factors : Option Conjunction) (neg : Bool) (o : Operand)
      → value_of_conjunction holds (with_factor factors (factor_of neg o))
      ≡ (all_of factors && (if neg then not (value_of_operand holds o)
      else value_of_operand holds o))
  factor_value None true o = refl
  factor_value None false o = refl
  factor_value (Some c) true o = refl
  factor_value (Some c) false o = refl

  operand_values : (outer : List Frame) (f : Frame) (o : Operand)
      → state_values (with_operand outer f o)
      ≡ evaluating (map frame_values outer)
      (r.with_operand (frame_values f) (value_of_operand holds o)) true
  operand_values outer (frame alternatives factors neg) o =
      ap (λ b. evaluating (map frame_values outer) (values (any_of alternatives) b false) true)
      (factor_value factors neg o)

  outer_length : (outer : List Frame) → length (map frame_values outer) ≡ length outer
  outer_length [] = refl
  outer_length (f ∷ outer) = ap suc (outer_length outer)

  step_values : (s : State) (x : Symbol)
      → evaluate_symbol (state_values s).outer (state_values s).frame (state_values s).complete
      (valued x) ≡ option_map state_values (step s x)
  step_values (operand outer f) (name characters) =
      ap Some (sym (operand_values outer f (tag characters)))
  step_values (operand outer (frame alternatives factors true)) bang = refl
  step_values (operand outer (frame alternatives factors false)) bang = refl
  step_values (operand outer f) opening =
      ap (λ n. if nat_lt n 99 then Some
      (evaluating (frame_values f ∷ map frame_values outer) no_values false) else None)
      (outer_length outer)
      ∙ opened (nat_lt (length outer) 99)
    where
      opened : (b : Bool) → (if b then Some
          (evaluating (frame_values f ∷ map frame_values outer) no_values false) else None)
          ≡ option_map state_values (if b then Some (operand (f ∷ outer) (frame None None false))
          else None)
      opened true = refl
      opened false = refl
  step_values (operand outer f) closing = refl
  step_values (operand outer f) ampersands = refl
  step_values (operand outer f) bars = refl
  step_values (operator outer alternatives c) (name characters) = refl
  step_values (operator outer alternatives c) bang = refl
  step_values (operator outer alternatives c) opening = refl
  step_values (operator [] alternatives c) closing = refl
  step_values (operator (f ∷ outer) alternatives c) closing =
      ap (λ b. Some (evaluating (map frame_values outer) (r.with_operand (frame_values f) b) true))
      (sym (alternative_value alternatives c))
      ∙ ap Some (sym (operand_values outer f (group (with_alternative alternatives c))))
  step_values (operator outer alternatives c) ampersands = refl
  step_values (operator outer alternatives c) bars =
      ap (λ b. Some (evaluating (map frame_values outer) (values b true false) false))
      (sym (alternative_value alternatives c))

  run_values : (xs : List Symbol) (s : State)
      → evaluate (map valued xs) (state_values s) ≡ option_map (value holds) (run xs s)
  run_values [] (operand [] f) = refl
  run_values [] (operand (g ∷ outer) f) = refl
  run_values [] (operator [] alternatives c) = ap Some (sym (alternative_value alternatives c))
  run_values [] (operator (g ∷ outer) alternatives c) = refl
  run_values (x ∷ xs) s = ap (option_and_then (evaluate (map valued xs))) (step_values s x)
      ∙ later xs (λ t. run_values xs t) (step s x)
    where
      later : (xs : List Symbol) → ((t : State)
          → evaluate (map valued xs) (state_values t) ≡ option_map (value holds) (run xs t))
          → (o : Option State)
          → option_and_then (evaluate (map valued xs)) (option_map state_values o)
          ≡ option_map (value holds) (option_and_then (run xs) o)
      later xs each None = refl
      later xs each (Some t) = each t

  -- the value of symbols is that of their tree
  pub evaluate-valued : (xs : List Symbol)
      → evaluate (map valued xs) (evaluating [] no_values false)
      ≡ option_map (value holds) (tree_of xs)
  evaluate-valued xs = run_values xs (operand [] (frame None None false))
