-- The evaluation on values gives what trees are worth.
use Rattle.std.proofs.Common.{◌≡◌, ◌∙◌, ℕ, suc, List, ◌≤◌, ◌<◌, true, false, refl, sym, ap, subst}
use Rattle.std.proofs.Common.{arith, ℤ, lit≤}
use Rattle.std.specs.Prelude.{Option, Some, None, if◌then◌else◌, nat_lt, max}
use Rattle.const_eval.specs.declared.value.Value.{Value}
use Rattle.const_eval.specs.Operators.{unary_value, binary_value}
use Rattle.go_literals.specs.Options.{◌|>◌}
use Rattle.const_eval.specs.Values.{above, apply_unary, apply_binary, parenthesize}
use Rattle.const_eval.specs.Machine.{values, whole}
use Rattle.const_eval.specs.Reading.{operand_value}
use Rattle.const_eval.specs.Expressions.{Expression, operand, parenthesized, unary, binary, levels}
use Rattle.const_eval.specs.Expressions.{IsWorth, HasValue}
use Rattle.go_literals.proofs.Options.{bind_some, some_is}
use Rattle.const_eval.proofs.TreeLaws.{fold, complete, sound}
use Rattle.const_eval.proofs.OperandLaws.{operand_complete, operand_sound, Names}

above_is : (n : ℕ) (number : ℤ) (v : Value) → above n number ≡ Some v → (v.number ≡ number)
    × (v.levels ≡ suc n) × (n < 100)
above_is n number v p =
    (elim (nat_lt n 100) as (λ t. nat_lt n 100 ≡ t
    → (if t then Some (record { number = number; levels = suc n }) else None) ≡ Some v
    → (v.number ≡ number) × (v.levels ≡ suc n) × (n < 100)) [
      | true ↦ λ e q. let s : record { number = number; levels = suc n } ≡ v = some_is _ v q in
          (sym (ap (λ (t : Value). t.number) s), sym (ap (λ (t : Value). t.levels) s), grind arith)
      | false ↦ λ e q. cc
    ]) refl p

above_gives : (n : ℕ) (number : ℤ) → suc n ≤ 100
    → above n number ≡ Some (record { number = number; levels = suc n })
above_gives n number few = let e : nat_lt n 100 ≡ true = grind arith in rw e refl

module _ (names : List ℕ → Option ℤ) where
  abbrev worth_of : Expression → Option Value
  worth_of = fold values (operand_value names)

  -- the value of a tree is its worth, and its levels are few
  record Found (e : Expression) (v : Value) : Type 0 where
    worth : IsWorth (Names names) e v.number
    same : v.levels ≡ levels e
    few : v.levels ≤ 100

  found : (e : Expression) (v : Value) → worth_of e ≡ Some v → Found e v
  found (operand text) v p = let q = operand_sound names text v p in
      record { worth = q.0; same = q.1; few = rw q.1 (lit≤ tt) }
  found (parenthesized inner) v p =
      let q = bind_some (worth_of inner) parenthesize v p in
      let ih = found inner q.0 q.1 in
      let a = above_is q.0.levels q.0.number v q.2 in
      record {
        worth = subst (IsWorth (Names names) inner) (sym a.0) ih.worth;
        same = a.1
            ∙ ap suc ih.same;
        few = omega (arith, a.1, a.2);
      }
  found (unary operator inner) v p =
      let q = bind_some (worth_of inner) (apply_unary operator) v p in
      let r = bind_some (unary_value operator q.0.number) (above q.0.levels) v q.2 in
      let ih = found inner q.0 q.1 in
      let a = above_is q.0.levels r.0 v r.2 in
      record {
        worth = (q.0.number, ih.worth, r.1 ∙ ap Some (sym a.0));
        same = a.1
            ∙ ap suc ih.same;
        few = omega (arith, a.1, a.2);
      }
  found (binary operator left right) v p =
      let q = bind_some (worth_of left) (λ x. worth_of right |> apply_binary operator x) v p in
      let s = bind_some (worth_of right) (apply_binary operator q.0) v q.2 in
      let r = bind_some (binary_value operator q.0.number s.0.number)
      (above (max q.0.levels s.0.levels)) v s.2 in
      let ihl = found left q.0 q.1 in
      let ihr = found right s.0 s.1 in
      let a = above_is (max q.0.levels s.0.levels) r.0 v r.2 in
      record {
        worth = (q.0.number, s.0.number, ihl.worth, ihr.worth, r.1 ∙ ap Some (sym a.0));
        same = a.1 ∙ ap suc (ap (λ t. max t s.0.levels) ihl.same
            ∙ ap (λ t. max (levels left) t) ihr.same);
        few = omega (arith, a.1, a.2);
      }

  gives : (e : Expression) (number : ℤ) → IsWorth (Names names) e number → levels e ≤ 100
      → worth_of e ≡ Some (record { number = number; levels = levels e })
  gives (operand text) number h few = operand_complete names text number h
  gives (parenthesized inner) number h few = rw (gives inner number h (omega arith))
      (above_gives (levels inner) number few)
  gives (unary operator inner) number h few =
      rw (gives inner h.0 h.1 (omega arith), h.2) (above_gives (levels inner) number few)
  gives (binary operator left right) number h few =
      rw (gives left h.0 h.2 (omega arith), gives right h.1 h.3 (omega arith), h.4)
      (above_gives (max (levels left) (levels right)) number few)

  pub has_value : (run : List (List ℕ)) (v : Value) → whole values (operand_value names) run ≡ Some
      v → HasValue (Names names) run v.number
  has_value run v p =
      let s = sound values (operand_value names) run v p in
      let f = found s.tree v s.gives in
      record {
        tree = s.tree;
        valid = s.valid;
        printed = s.printed;
        few_levels =
            rw (sym f.same) f.few;
        worth = f.worth;
      }

  pub is_value : (run : List (List ℕ)) (number : ℤ) → HasValue (Names names) run number
      → (v : Value) × (whole values (operand_value names) run ≡ Some v) × (v.number ≡ number)
  is_value run number h =
      let v : Value = record { number = number; levels = levels h.tree } in (
        v,
        subst (λ t. whole values (operand_value names) t ≡ Some v) h.printed
            (complete values (operand_value names) h.tree h.valid v
            (gives h.tree number h.worth h.few_levels)),
        refl,
      )
