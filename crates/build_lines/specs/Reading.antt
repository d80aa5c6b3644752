-- Cited by private clauses and proofs. How expressions are read: a step for each character, and
-- then one for each symbol.
use Rattle.std.specs.Prelude.{ℕ, Bool, true, false, ◌&&◌, ◌||◌, not, List, [], ◌∷◌, ◌++◌, length}
use Rattle.std.specs.Prelude.{Option, Some, None, if◌then◌else◌, ◌==◌, nat_lt, option_and_then}
use Rattle.std.specs.Prelude.{encode_utf8}
use Rattle.std.specs.Option.{option_to_list}
use Rattle.build_lines.specs.declared.symbol.Symbol.{Symbol}
use Rattle.build_lines.specs.declared.symbol.Symbol.TheVariants.{Open, Close, Not, And, Or, Tag}
use Rattle.build_lines.specs.declared.symbol.Place.{Place}
use Rattle.build_lines.specs.declared.symbol.Place.TheVariants.{Between, AfterAmpersand, AfterBar}
use Rattle.build_lines.specs.declared.symbol.Place.TheVariants.{InTag}
use Rattle.build_lines.specs.declared.symbol.Step.{Step}
use Rattle.build_lines.specs.declared.frame.Frame.{Frame}
use Rattle.build_lines.specs.Expressions.{is_blank, is_tag_character}

abbrev pub step_to : Option Symbol → Place → Step
step_to symbol place = record { symbol = symbol; place = place }

-- a character between symbols that no tag has
abbrev pub mark_step : ℕ → Option Step
mark_step c = if is_blank c then Some (step_to None Between)
    else (if c == 40 then Some (step_to (Some Open) Between)
    else (if c == 41 then Some (step_to (Some Close) Between)
    else (if c == 33 then Some (step_to (Some Not) Between)
    else (if c == 38 then Some (step_to None AfterAmpersand)
    else (if c == 124 then Some (step_to None AfterBar) else None)))))

abbrev pub front_step : ℕ → Option Step
front_step c = if is_tag_character c then Some (step_to None InTag) else mark_step c

-- what a character does at a place
abbrev pub step_at : Place → ℕ → Option Step
step_at Between c = front_step c
step_at InTag c = front_step c
step_at AfterAmpersand c = if c == 38 then Some (step_to (Some And) Between) else None
step_at AfterBar c = if c == 124 then Some (step_to (Some Or) Between) else None

abbrev pub is_in_tag : Place → Bool
is_in_tag InTag = true
is_in_tag _ = false

-- the tag that ends where one place follows another
abbrev pub ended_tag : (List ℕ → Bool) → Place → Place → List ℕ → List Symbol
ended_tag holds from to tag = if is_in_tag from && not (is_in_tag to) then Tag (holds tag) ∷ []
    else []

-- the bytes of the tag after a character
abbrev pub tag_after : Place → List ℕ → ℕ → List ℕ
tag_after to tag c = if is_in_tag to then tag ++ encode_utf8 c else []

-- the symbols after those that were found, at the end of the text
abbrev pub cut_end : (List ℕ → Bool) → Place → List ℕ → List Symbol → Option (List Symbol)
cut_end holds Between tag symbols = Some symbols
cut_end holds InTag tag symbols = Some (symbols ++ Tag (holds tag) ∷ [])
cut_end holds AfterAmpersand tag symbols = None
cut_end holds AfterBar tag symbols = None

-- the symbols of the characters from a place on, after those that were found
abbrev pub cut : (List ℕ → Bool) → List ℕ → Place → List ℕ → List Symbol → Option (List Symbol)
cut holds [] place tag symbols = cut_end holds place tag symbols
cut holds (c ∷ cs) place tag symbols = option_and_then
    (λ step. cut holds cs step.place (tag_after step.place tag c)
    (symbols ++ ended_tag holds place step.place tag ++ option_to_list step.symbol))
    (step_at place c)

-- the values before an operand in one pair of parentheses
abbrev pub values : Bool → Bool → Bool → Frame
values any all negated = record { any = any; all = all; negated = negated }

abbrev pub no_values : Frame
no_values = values false true false

abbrev pub with_operand : Frame → Bool → Frame
with_operand frame value = values frame.any
    (frame.all && (if frame.negated then not value else value)) false

abbrev pub with_alternative : Frame → Frame
with_alternative frame = values (frame.any || frame.all) true false

abbrev pub value_of_frame : Frame → Bool
value_of_frame frame = frame.any || frame.all

-- the frames of the parentheses that are open, the innermost first, the frame inside them, and
-- whether an operand was the last
pub record Evaluating : Type 0 where
  pub outer : List Frame
  pub frame : Frame
  pub complete : Bool

abbrev pub evaluating : List Frame → Frame → Bool → Evaluating
evaluating outer frame complete = record { outer = outer; frame = frame; complete = complete }

abbrev pub close : List Frame → Bool → Option Evaluating
close [] value = None
close (frame ∷ outer) value = Some (evaluating outer (with_operand frame value) true)

-- a symbol after these values: an operand is to come, or the last has come
abbrev pub evaluate_symbol : List Frame → Frame → Bool → Symbol → Option Evaluating
evaluate_symbol outer frame false (Tag value) =
    Some (evaluating outer (with_operand frame value) true)
evaluate_symbol outer frame false Not =
    if frame.negated then None else Some (evaluating outer (values frame.any frame.all true) false)
evaluate_symbol outer frame false Open =
    if nat_lt (length outer) 99 then Some (evaluating (frame ∷ outer) no_values false) else None
evaluate_symbol outer frame false Close = None
evaluate_symbol outer frame false And = None
evaluate_symbol outer frame false Or = None
evaluate_symbol outer frame true (Tag value) = None
evaluate_symbol outer frame true Not = None
evaluate_symbol outer frame true Open = None
evaluate_symbol outer frame true Close = close outer (value_of_frame frame)
evaluate_symbol outer frame true And = Some (evaluating outer frame false)
evaluate_symbol outer frame true Or = Some (evaluating outer (with_alternative frame) false)

abbrev pub evaluated_end : List Frame → Frame → Bool → Option Bool
evaluated_end [] frame true = Some (value_of_frame frame)
evaluated_end [] frame false = None
evaluated_end (f ∷ outer) frame complete = None

-- the value of the symbols from these values on
abbrev pub evaluate : List Symbol → Evaluating → Option Bool
evaluate [] e = evaluated_end e.outer e.frame e.complete
evaluate (symbol ∷ symbols) e =
    option_and_then (evaluate symbols) (evaluate_symbol e.outer e.frame e.complete symbol)
