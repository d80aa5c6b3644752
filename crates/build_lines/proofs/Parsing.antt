-- The symbols of an expression, read from the first to the last with what is open kept in frames: a
-- tree comes out exactly of the symbols that it is printed as.
use Rattle.std.proofs.Common.{◌≡◌, ℕ, suc, ◌+◌, ◌<◌, ◌≤◌, Bool, true, false, List, [], ◌∷◌}
use Rattle.std.proofs.Common.{◌++◌, length, refl, sym, ◌∙◌, ap, arith, append_assoc}
use Rattle.std.proofs.Common.{append-nil}
use Rattle.std.specs.Prelude.{Option, Some, None, if◌then◌else◌, nat_lt, option_and_then}
use Rattle.std.proofs.lemmas.Bool.Decides.{nat_tests}
use Rattle.build_lines.specs.Expressions.{Expression, conjunction, either, Conjunction, factor}
use Rattle.build_lines.specs.Expressions.{both, Factor, plain, negated, Operand, tag, group, Symbol}
use Rattle.build_lines.specs.Expressions.{opening, closing, bang, ampersands, bars, name, print}
use Rattle.build_lines.specs.Expressions.{print_conjunction, print_factor, print_operand, levels}
use Rattle.build_lines.specs.Expressions.{levels_of_conjunction, levels_of_factor}
use Rattle.build_lines.specs.Expressions.{levels_of_operand}

-- what stands before an operand in one pair of parentheses: the expression before "||", the
-- conjunction before "&&", and whether "!" does
pub data Frame : Type 0 where
  frame : Option Expression → Option Conjunction → Bool → Frame

abbrev pub empty : Frame
empty = frame None None false

-- an operand is to come, or one has come and the conjunction ends with it
pub data State : Type 0 where
  operand : List Frame → Frame → State
  operator : List Frame → Option Expression → Conjunction → State

abbrev pub with_alternative : Option Expression → Conjunction → Expression
with_alternative None c = conjunction c
with_alternative (Some e) c = either e c

abbrev pub with_factor : Option Conjunction → Factor → Conjunction
with_factor None f = factor f
with_factor (Some c) f = both c f

abbrev pub factor_of : Bool → Operand → Factor
factor_of true o = negated o
factor_of false o = plain o

abbrev pub with_operand : List Frame → Frame → Operand → State
with_operand outer (frame alternatives factors neg) o =
    operator outer alternatives (with_factor factors (factor_of neg o))

abbrev pub negate : List Frame → Frame → Option State
negate outer (frame alternatives factors true) = None
negate outer (frame alternatives factors false) =
    Some (operand outer (frame alternatives factors true))

abbrev pub close : List Frame → Expression → Option State
close [] e = None
close (f ∷ outer) e = Some (with_operand outer f (group e))

abbrev pub step : State → Symbol → Option State
step (operand outer f) (name characters) = Some (with_operand outer f (tag characters))
step (operand outer f) bang = negate outer f
step (operand outer f) opening =
    if nat_lt (length outer) 99 then Some (operand (f ∷ outer) empty) else None
step (operand outer f) closing = None
step (operand outer f) ampersands = None
step (operand outer f) bars = None
step (operator outer alternatives c) (name characters) = None
step (operator outer alternatives c) bang = None
step (operator outer alternatives c) opening = None
step (operator outer alternatives c) closing = close outer (with_alternative alternatives c)
step (operator outer alternatives c) ampersands =
    Some (operand outer (frame alternatives (Some c) false))
step (operator outer alternatives c) bars =
    Some (operand outer (frame (Some (with_alternative alternatives c)) None false))

abbrev pub finish : State → Option Expression
finish (operand outer f) = None
finish (operator [] alternatives c) = Some (with_alternative alternatives c)
finish (operator (f ∷ outer) alternatives c) = None

abbrev pub run : List Symbol → State → Option Expression
run [] s = finish s
run (x ∷ xs) s = option_and_then (run xs) (step s x)

-- the tree of symbols
abbrev pub tree_of : List Symbol → Option Expression
tree_of xs = run xs (operand [] empty)

-- what an expression leaves when its symbols were read
pub record Left (e : Expression) (outer : List Frame) (rest : List Symbol) : Type 0 where
  pub alternatives : Option Expression
  pub last : Conjunction
  pub same : with_alternative alternatives last ≡ e
  pub goes : run (print e ++ rest) (operand outer empty)
      ≡ run rest (operator outer alternatives last)

-- one pair of parentheses more may be opened
room : (outer : List Frame) (n : ℕ) → suc n + length outer ≤ 100 → 0 < n
    → nat_lt (length outer) 99 ≡ true
room outer n h some = grind (arith, nat_tests)

mutual
  some_level : (e : Expression) → 0 < levels e
  some_level (conjunction c) = some_of_conjunction c
  some_level (either e c) = let ih : 0 < levels e = some_level e in omega arith

  some_of_conjunction : (c : Conjunction) → 0 < levels_of_conjunction c
  some_of_conjunction (factor f) = some_of_factor f
  some_of_conjunction (both c f) = let ih : 0 < levels_of_conjunction c =
      some_of_conjunction c in omega arith

  some_of_factor : (f : Factor) → 0 < levels_of_factor f
  some_of_factor (plain o) = some_of_operand o
  some_of_factor (negated o) = some_of_operand o

  some_of_operand : (o : Operand) → 0 < levels_of_operand o
  some_of_operand (tag characters) = omega arith
  some_of_operand (group e) = omega arith

mutual
  pub reads : (e : Expression) (outer : List Frame) (rest : List Symbol)
      → levels e + length outer ≤ 100 → Left e outer rest
  reads (conjunction c) outer rest h =
      record {
        alternatives = None;
        last = c;
        same = refl;
        goes = reads_conjunction c outer None
            rest h;
      }
  reads (either e c) outer rest h =
      let before = reads e outer (bars ∷ print_conjunction c ++ rest) (omega arith) in
      let left = with_alternative before.alternatives before.last in
      record {
        alternatives = Some left;
        last = c;
        same = ap (λ x. either x c) before.same;
        goes = ap (λ xs. run xs (operand outer empty))
            (append_assoc (print e) (bars ∷ print_conjunction c) rest)
            ∙ before.goes ∙ reads_conjunction c outer (Some left) rest (omega arith);
      }

  pub reads_conjunction : (c : Conjunction) (outer : List Frame) (alternatives : Option Expression)
      (rest : List Symbol) → levels_of_conjunction c + length outer ≤ 100
      → run (print_conjunction c ++ rest) (operand outer (frame alternatives None false))
      ≡ run rest (operator outer alternatives c)
  reads_conjunction (factor f) outer alternatives rest h =
      reads_factor f outer alternatives None rest h
  reads_conjunction (both c f) outer alternatives rest h =
      ap (λ xs. run xs (operand outer (frame alternatives None false)))
      (append_assoc (print_conjunction c) (ampersands ∷ print_factor f) rest)
      ∙ reads_conjunction c outer alternatives (ampersands ∷ print_factor f ++ rest) (omega arith)
      ∙ reads_factor f outer alternatives (Some c) rest (omega arith)

  pub reads_factor : (f : Factor) (outer : List Frame) (alternatives : Option Expression)
      (factors : Option Conjunction) (rest : List Symbol) → levels_of_factor f + length outer ≤ 100
      → run (print_factor f ++ rest) (operand outer (frame alternatives factors false))
      ≡ run rest (operator outer alternatives (with_factor factors f))
  reads_factor (plain o) outer alternatives factors rest h =
      reads_operand o outer alternatives factors false rest h
  reads_factor (negated o) outer alternatives factors rest h =
      reads_operand o outer alternatives factors true rest h

  pub reads_operand : (o : Operand) (outer : List Frame) (alternatives : Option Expression)
      (factors : Option Conjunction) (neg : Bool) (rest : List Symbol)
      → levels_of_operand o + length outer ≤ 100
      → run (print_operand o ++ rest) (operand outer (frame alternatives factors neg))
      ≡ run rest (operator outer alternatives (with_factor factors (factor_of neg o)))
  reads_operand (tag characters) outer alternatives factors neg rest h = refl
  reads_operand (group e) outer alternatives factors neg rest h =
      let f = frame alternatives factors neg in
      let open_one : nat_lt (length outer) 99 ≡ true = room outer (levels e) h (some_level e) in
      let within : levels e + suc (length outer) ≤ 100 = omega arith in
      let inner = reads e (f ∷ outer) (closing ∷ rest) within in
      ap (λ b. option_and_then (run ((print e ++ closing ∷ []) ++ rest))
      (if b then Some (operand (f ∷ outer) empty) else None)) open_one
      ∙ ap (λ xs. run xs (operand (f ∷ outer) empty)) (append_assoc (print e) (closing ∷ []) rest)
      ∙ inner.goes
      ∙ ap (λ x. run rest (operator outer alternatives
      (with_factor factors (factor_of neg (group x))))) inner.same

-- the symbols of a tree give the tree
pub tree_of-print : (e : Expression) → levels e ≤ 100 → tree_of (print e) ≡ Some e
tree_of-print e h =
    let within : levels e + 0 ≤ 100 = omega arith in
    let read = reads e [] [] within in
    ap tree_of (sym (append-nil (print e))) ∙ read.goes ∙ ap Some read.same
