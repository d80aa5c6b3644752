-- Cited by private clauses and proofs. The evaluation of tokens from the left to the right, with a
-- stack of what waits for its operand: the plain program next to the trees. It takes what tokens
-- and
-- operators give, so that one program gives both trees and values.
use Rattle.std.specs.Prelude.{◌≡◌, ℕ, Bool, true, false, ◌≤◌, List, [], ◌∷◌, reverse, take, length}
use Rattle.std.specs.Prelude.{⊤, Option, Some, None, if◌then◌else◌}
use Rattle.const_eval.specs.declared.operator.Operator.{Operator}
use Rattle.const_eval.specs.declared.machine.Frame.{Frame}
use Rattle.const_eval.specs.declared.machine.Frame.TheVariants as f
use Rattle.const_eval.specs.declared.lexeme.Lexeme.{Lexeme}
use Rattle.const_eval.specs.declared.lexeme.Lexeme.TheVariants as l
use Rattle.const_eval.specs.Lexemes.{lexeme_of}
use Rattle.const_eval.specs.Operators.{is_unary, is_multiplying}
use Rattle.go_literals.specs.Options.{◌|>◌}
use Rattle.const_eval.specs.Values.{parenthesize, apply_unary, apply_binary}
use Rattle.const_eval.specs.declared.value.Value.{Value}

-- what brackets and operators give
pub record Meaning (X : Type 0) : Type 0 where
  pub enclosed : X → Option X
  pub signed : Operator → X → Option X
  pub joined : Operator → X → X → Option X

-- what waits, the innermost first, and an operand that may be complete
abbrev pub State : Type 0 → Type 0
State X = List (Frame X) × Option X

abbrev pub having : {X : Type 0} → List (Frame X) × X → Option (State X)
having s = Some (s.0, Some s.1)

module _ {X : Type 0} (m : Meaning X) where
  -- an operand, with what binds it tightest
  abbrev pub arrive : List (Frame X) → X → Option (List (Frame X) × X)
  arrive [] x = Some ([], x)
  arrive (f.Open ∷ frames) x = Some (f.Open ∷ frames, x)
  arrive (f.Unary operator ∷ frames) x = m.signed operator x |> arrive frames
  arrive (f.Product left operator ∷ frames) x = m.joined operator left x |> λ y. Some (frames, y)
  arrive (f.Sum left operator ∷ frames) x = Some (f.Sum left operator ∷ frames, x)

  -- a product, with the sum that waits for it
  abbrev pub settle : List (Frame X) → X → Option (List (Frame X) × X)
  settle (f.Sum left operator ∷ frames) x = m.joined operator left x |> λ y. Some (frames, y)
  settle [] x = Some ([], x)
  settle (f.Open ∷ frames) x = Some (f.Open ∷ frames, x)
  settle (f.Unary operator ∷ frames) x = Some (f.Unary operator ∷ frames, x)
  settle (f.Product left operator ∷ frames) x = Some (f.Product left operator ∷ frames, x)

  abbrev pub close : List (Frame X) × X → Option (List (Frame X) × X)
  close (f.Open ∷ frames, x) = m.enclosed x |> arrive frames
  close ([], x) = None
  close (f.Unary operator ∷ frames, x) = None
  close (f.Product left operator ∷ frames, x) = None
  close (f.Sum left operator ∷ frames, x) = None

  abbrev pub after_sum : Operator → List (Frame X) × X → Option (State X)
  after_sum operator s = Some (f.Sum s.1 operator ∷ s.0, None)

  -- a token after an operand
  abbrev pub go_on : List (Frame X) → X → Lexeme → Option (State X)
  go_on frames x l.Open = None
  go_on frames x l.Close = settle frames x |> close |> having
  go_on frames x (l.Operator operator) = if is_multiplying operator
      then Some (f.Product x operator ∷ frames, None)
      else settle frames x |> after_sum operator
  go_on frames x l.Operand = None

  abbrev pub alone : List (Frame X) × X → Option X
  alone ([], x) = Some x
  alone (frame ∷ frames, x) = None

  abbrev pub finish : State X → Option X
  finish (frames, None) = None
  finish (frames, Some x) = settle frames x |> alone

  module _ (leaf : List ℕ → Option X) where
    -- a token where an operand may begin
    abbrev pub begin : List (Frame X) → List ℕ → Lexeme → Option (State X)
    begin frames text l.Open = Some (f.Open ∷ frames, None)
    begin frames text l.Close = None
    begin frames text (l.Operator operator) = if is_unary operator
        then Some (f.Unary operator ∷ frames, None) else None
    begin frames text l.Operand = leaf text |> arrive frames |> having

    abbrev pub step : State X → List ℕ → Option (State X)
    step (frames, None) text = begin frames text (lexeme_of text)
    step (frames, Some x) text = go_on frames x (lexeme_of text)

    abbrev pub run : State X → List (List ℕ) → Option (State X)
    run state [] = Some state
    run state (text ∷ texts) = step state text |> λ next. run next texts

    abbrev pub whole : List (List ℕ) → Option X
    whole texts = run ([], None) texts |> finish

-- what they give on values
abbrev pub values : Meaning Value
values = record { enclosed = parenthesize; signed = apply_unary; joined = apply_binary }

-- the frames that are left of a stack whose innermost is the last, and the operand
abbrev pub left_of : List (Frame Value) → Option (ℕ × Value) → Option (List (Frame Value) × Value)
left_of frames None = None
left_of frames (Some found) = Some (reverse (take found.0 frames), found.1)

abbrev pub state_of : List (Frame Value) → Option Value → State Value
state_of frames operand = (reverse frames, operand)

-- where a step was taken it gives this state, and else nothing
abbrev pub Steps : Option (State Value) → Bool → State Value → Type 0
Steps found true state = found ≡ Some state
Steps found false state = found ≡ None

-- so many frames are left, at most all
abbrev pub AreWithin : List (Frame Value) → Option (ℕ × Value) → Type 0
AreWithin frames None = ⊤
AreWithin frames (Some found) = found.0 ≤ length frames
