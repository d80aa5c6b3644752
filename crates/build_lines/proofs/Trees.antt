-- The tree that symbols give is printed as these symbols, and has at most 100 levels.
use Rattle.std.proofs.Common.{◌≡◌, ℕ, ◌+◌, ◌<◌, ◌≤◌, Bool, true, false, List, []}
use Rattle.std.proofs.Common.{◌∷◌, ◌++◌, length, refl, sym, ◌∙◌, ap, subst, arith}
use Rattle.std.proofs.Common.{append_assoc, append-nil}
use Rattle.std.specs.Prelude.{Option, Some, None, ⊤, if◌then◌else◌, nat_lt, option_and_then}
use Rattle.std.proofs.lemmas.Bool.Decides.{nat_tests}
use Rattle.build_lines.specs.Expressions.{Expression, Conjunction}
use Rattle.build_lines.specs.Expressions.{Factor, Operand, tag, group, Symbol}
use Rattle.build_lines.specs.Expressions.{opening, closing, bang, ampersands, bars, name, print}
use Rattle.build_lines.specs.Expressions.{print_conjunction, print_factor, print_operand, levels}
use Rattle.build_lines.specs.Expressions.{levels_of_conjunction, levels_of_factor}
use Rattle.build_lines.specs.Expressions.{levels_of_operand}
use Rattle.build_lines.proofs.Parsing.{Frame, frame, empty, State, operand, operator}
use Rattle.build_lines.proofs.Parsing.{with_alternative, with_factor, factor_of, with_operand}
use Rattle.build_lines.proofs.Parsing.{negate, close, step, finish, run, tree_of}

-- the symbols that were read, by what they left
abbrev print_alternatives : Option Expression → List Symbol
print_alternatives None = []
print_alternatives (Some e) = print e ++ bars ∷ []

abbrev print_factors : Option Conjunction → List Symbol
print_factors None = []
print_factors (Some c) = print_conjunction c ++ ampersands ∷ []

abbrev print_negation : Bool → List Symbol
print_negation true = bang ∷ []
print_negation false = []

abbrev print_frame : Frame → List Symbol
print_frame (frame alternatives factors neg) =
    print_alternatives alternatives ++ (print_factors factors ++ print_negation neg)

abbrev print_outer : List Frame → List Symbol
print_outer [] = []
print_outer (f ∷ outer) = (print_outer outer ++ print_frame f) ++ opening ∷ []

abbrev printed : State → List Symbol
printed (operand outer f) = print_outer outer ++ print_frame f
printed (operator outer alternatives c) =
    print_outer outer ++ (print_alternatives alternatives ++ print_conjunction c)

same_alternative : (alternatives : Option Expression) (c : Conjunction)
    → print (with_alternative alternatives c)
    ≡ print_alternatives alternatives ++ print_conjunction c
same_alternative None c = refl
same_alternative (Some e) c = sym (append_assoc (print e) (bars ∷ []) (print_conjunction c))

same_factor : (factors : Option Conjunction) (f : Factor)
    → print_conjunction (with_factor factors f) ≡ print_factors factors ++ print_factor f
same_factor None f = refl
same_factor (Some c) f = sym (append_assoc (print_conjunction c) (ampersands ∷ []) (print_factor f))

same_negation : (neg : Bool) (o : Operand)
    → print_factor (factor_of neg o) ≡ print_negation neg ++ print_operand o
same_negation true o = refl
same_negation false o = refl

-- an operand adds its own symbols
same_operand : (outer : List Frame) (f : Frame) (o : Operand)
    → printed (with_operand outer f o) ≡ printed (operand outer f) ++ print_operand o
same_operand outer (frame alternatives factors neg) o =
    ap (λ xs. print_outer outer ++ (print_alternatives alternatives ++ xs))
    (same_factor factors (factor_of neg o)
    ∙ ap (λ xs. print_factors factors ++ xs) (same_negation neg o)
    ∙ sym (append_assoc (print_factors factors) (print_negation neg) (print_operand o)))
    ∙ ap (λ xs. print_outer outer ++ xs)
    (sym (append_assoc (print_alternatives alternatives)
    (print_factors factors ++ print_negation neg) (print_operand o)))
    ∙ sym (append_assoc (print_outer outer) (print_frame (frame alternatives factors neg))
    (print_operand o))

-- what is open fits in 100 levels
abbrev FitsAlternatives : ℕ → Option Expression → Type 0
FitsAlternatives depth None = ⊤
FitsAlternatives depth (Some e) = levels e + depth ≤ 100

abbrev FitsFactors : ℕ → Option Conjunction → Type 0
FitsFactors depth None = ⊤
FitsFactors depth (Some c) = levels_of_conjunction c + depth ≤ 100

abbrev FitsFrame : ℕ → Frame → Type 0
FitsFrame depth (frame alternatives factors neg) =
    FitsAlternatives depth alternatives × FitsFactors depth factors

abbrev FitsOuter : List Frame → Type 0
FitsOuter [] = ⊤
FitsOuter (f ∷ outer) = FitsFrame (length outer) f × FitsOuter outer × (length outer < 99)

abbrev Fits : State → Type 0
Fits (operand outer f) = FitsOuter outer × FitsFrame (length outer) f × (length outer ≤ 99)
Fits (operator outer alternatives c) =
    FitsOuter outer × FitsAlternatives (length outer) alternatives
    × (levels_of_conjunction c + length outer ≤ 100)

fits_alternative : (depth : ℕ) (alternatives : Option Expression) (c : Conjunction)
    → FitsAlternatives depth alternatives → levels_of_conjunction c + depth ≤ 100
    → levels (with_alternative alternatives c) + depth ≤ 100
fits_alternative depth None c fits h = h
fits_alternative depth (Some e) c fits h = omega arith

fits_factor : (depth : ℕ) (factors : Option Conjunction) (f : Factor) → FitsFactors depth factors
    → levels_of_factor f + depth ≤ 100
    → levels_of_conjunction (with_factor factors f) + depth ≤ 100
fits_factor depth None f fits h = h
fits_factor depth (Some c) f fits h = omega arith

fits_negation : (depth : ℕ) (neg : Bool) (o : Operand) → levels_of_operand o + depth ≤ 100
    → levels_of_factor (factor_of neg o) + depth ≤ 100
fits_negation depth true o h = h
fits_negation depth false o h = h

fits_operand : (outer : List Frame) (f : Frame) (o : Operand) → FitsOuter outer
    → FitsFrame (length outer) f → levels_of_operand o + length outer ≤ 100
    → Fits (with_operand outer f o)
fits_operand outer (frame alternatives factors neg) o outside inside h = (
  outside,
  inside.0,
  fits_factor (length outer) factors (factor_of neg o) inside.1
      (fits_negation (length outer) neg o h),
)

-- what a step leaves: one symbol more was read
pub record Grown (s : State) (x : Symbol) (t : State) : Type 0 where
  pub same : printed t ≡ printed s ++ x ∷ []
  pub fits : Fits t

pub none_is_some : {A B : Type 0} {x : A} → None ≡ Some x → B
none_is_some {A} {B} e = absurd
    (subst (λ (o : Option A). elim o as (λ _. Type 0) [ None ↦ ⊤ | Some _ ↦ ⊥ ]) e tt)

pub some_same : {A : Type 0} {x y : A} → Some x ≡ Some y → x ≡ y
some_same {A} {x} {y} e = ap (λ (o : Option A). elim o as (λ _. A) [ None ↦ x | Some z ↦ z ]) e

grown_to : (s : State) (x : Symbol) (t u : State) → Grown s x t → Some t ≡ Some u → Grown s x u
grown_to s x t u grown e = subst (Grown s x) (some_same e) grown

negate_grows : (outer : List Frame) (f : Frame) (t : State) → Fits (operand outer f)
    → negate outer f ≡ Some t → Grown (operand outer f) bang t
negate_grows outer (frame alternatives factors true) t fits e = none_is_some e
negate_grows outer (frame alternatives factors false) t fits e =
    grown_to _ bang _ t (record {
      same = ap (λ xs. print_outer outer ++ xs)
          (ap (λ xs. print_alternatives alternatives ++ xs)
          (ap (λ xs. xs ++ bang ∷ []) (sym (append-nil (print_factors factors))))
          ∙ sym (append_assoc (print_alternatives alternatives) (print_factors factors ++ [])
          (bang ∷ [])))
          ∙ sym (append_assoc (print_outer outer) (print_frame (frame alternatives factors false))
          (bang ∷ []));
      fits = fits;
    }) e

open_grows : (outer : List Frame) (f : Frame) (t : State) (b : Bool) → nat_lt (length outer) 99 ≡ b
    → Fits (operand outer f)
    → (if b then Some (operand (f ∷ outer) empty) else None) ≡ Some t
    → Grown (operand outer f) opening t
open_grows outer f t false test fits e = none_is_some e
open_grows outer f t true test fits e =
    let below : length outer < 99 = grind (arith, nat_tests) in
    grown_to _ opening _ t (record {
      same = append-nil (print_outer (f ∷ outer));
      fits = ((fits.1, fits.0, below), (tt, tt), omega arith);
    }) e

close_grows : (outer : List Frame) (alternatives : Option Expression) (c : Conjunction) (t : State)
    → Fits (operator outer alternatives c)
    → close outer (with_alternative alternatives c) ≡ Some t
    → Grown (operator outer alternatives c) closing t
close_grows [] alternatives c t fits e = none_is_some e
close_grows (f ∷ outer) alternatives c t fits e =
    let inner = with_alternative alternatives c in
    let deep : levels inner + length (f ∷ outer) ≤ 100 =
    fits_alternative _ alternatives c fits.1 fits.2 in
    let deeper : levels_of_operand (group inner) + length outer ≤ 100 = omega arith in
    grown_to _ closing _ t (record {
      same = same_operand outer f (group inner)
          ∙ ap (λ xs. printed (operand outer f) ++ (opening ∷ xs ++ closing ∷ []))
          (same_alternative alternatives c)
          ∙ regroup (printed (operand outer f))
          (print_alternatives alternatives ++ print_conjunction c);
      fits = fits_operand outer f (group inner) fits.0.1 fits.0.0 deeper;
    }) e
  where
    regroup : (xs zs : List Symbol)
        → xs ++ (opening ∷ zs ++ closing ∷ []) ≡ ((xs ++ opening ∷ []) ++ zs) ++ closing ∷ []
    regroup xs zs = sym (append_assoc xs (opening ∷ []) (zs ++ closing ∷ []))
        ∙ sym (append_assoc (xs ++ opening ∷ []) zs (closing ∷ []))

-- the depth leaves a level
shallow : (outer : List Frame) → FitsOuter outer → length outer ≤ 99
shallow [] fits = omega arith
shallow (f ∷ outer) fits = omega arith

step_grows : (s : State) (x : Symbol) (t : State) → Fits s → step s x ≡ Some t → Grown s x t
step_grows (operand outer f) (name characters) t fits e =
    let level : 1 + length outer ≤ 100 = omega arith in
    grown_to _ (name characters) _ t
    (record {
      same = same_operand outer f (tag characters);
      fits = fits_operand outer f
          (tag characters) fits.0 fits.1 level;
    }) e
step_grows (operand outer f) bang t fits e = negate_grows outer f t fits e
step_grows (operand outer f) opening t fits e =
    open_grows outer f t (nat_lt (length outer) 99) refl fits e
step_grows (operand outer f) closing t fits e = none_is_some e
step_grows (operand outer f) ampersands t fits e = none_is_some e
step_grows (operand outer f) bars t fits e = none_is_some e
step_grows (operator outer alternatives c) (name characters) t fits e = none_is_some e
step_grows (operator outer alternatives c) bang t fits e = none_is_some e
step_grows (operator outer alternatives c) opening t fits e = none_is_some e
step_grows (operator outer alternatives c) closing t fits e =
    close_grows outer alternatives c t fits e
step_grows (operator outer alternatives c) ampersands t fits e =
    grown_to _ ampersands _ t (record {
      same = ap (λ xs. print_outer outer ++ (print_alternatives alternatives ++ xs))
          (append-nil (print_conjunction c ++ ampersands ∷ []))
          ∙ ap (λ xs. print_outer outer ++ xs)
          (sym (append_assoc (print_alternatives alternatives) (print_conjunction c)
          (ampersands ∷ [])))
          ∙ sym (append_assoc (print_outer outer)
          (print_alternatives alternatives ++ print_conjunction c) (ampersands ∷ []));
      fits = (fits.0, (fits.1, fits.2), shallow outer fits.0);
    }) e
step_grows (operator outer alternatives c) bars t fits e =
    grown_to _ bars _ t (record {
      same = ap (λ xs. print_outer outer ++ xs)
          (append-nil (print (with_alternative alternatives c) ++ bars ∷ [])
          ∙ ap (λ xs. xs ++ bars ∷ []) (same_alternative alternatives c))
          ∙ sym (append_assoc (print_outer outer)
          (print_alternatives alternatives ++ print_conjunction c) (bars ∷ []));
      fits = (fits.0, (fits_alternative _ alternatives c fits.1 fits.2, tt), shallow outer fits.0);
    }) e

-- what a tree is, by the symbols and what was read before them
pub record IsTreeOf (xs : List Symbol) (e : Expression) : Type 0 where
  pub same : print e ≡ xs
  pub shallow : levels e ≤ 100

finish_is : (s : State) (e : Expression) → Fits s → finish s ≡ Some e → IsTreeOf (printed s) e
finish_is (operand outer f) e fits is = none_is_some is
finish_is (operator (f ∷ outer) alternatives c) e fits is = none_is_some is
finish_is (operator [] alternatives c) e fits is =
    let deep : levels (with_alternative alternatives c) + 0 ≤ 100 =
    fits_alternative 0 alternatives c fits.1 fits.2 in
    let P : Expression → Type 0 = IsTreeOf
    (print_alternatives alternatives ++ print_conjunction c) in
    subst P (some_same is) (record
    { same = same_alternative alternatives c; shallow = omega arith })

after_step : (x : Symbol) (xs : List Symbol) (s : State) (e : Expression) → Fits s
    → ((t : State) → Fits t → run xs t ≡ Some e → IsTreeOf (printed t ++ xs) e)
    → (o : Option State) → step s x ≡ o → option_and_then (run xs) o ≡ Some e
    → IsTreeOf (printed s ++ x ∷ xs) e
after_step x xs s e fits later None steps runs = none_is_some runs
after_step x xs s e fits later (Some t) steps runs =
    let grown = step_grows s x t fits steps in
    subst (λ ys. IsTreeOf ys e) (ap (λ ys. ys ++ xs) grown.same
    ∙ append_assoc (printed s) (x ∷ []) xs) (later t grown.fits runs)

-- the symbols that are read are printed
run_is : (xs : List Symbol) (s : State) (e : Expression) → Fits s → run xs s ≡ Some e
    → IsTreeOf (printed s ++ xs) e
run_is [] s e fits is = subst (λ xs. IsTreeOf xs e) (sym (append-nil (printed s)))
    (finish_is s e fits is)
run_is (x ∷ xs) s e fits is = after_step x xs s e fits (λ t. run_is xs t e) (step s x) refl is

-- the tree that symbols give is printed as they are
pub tree_of-is : (xs : List Symbol) (e : Expression) → tree_of xs ≡ Some e → IsTreeOf xs e
tree_of-is xs e is = run_is xs (operand [] empty) e (tt, (tt, tt), omega arith) is
