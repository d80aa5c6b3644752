-- The texts of tokens are at most one expression: the evaluation gives back the tree that was
-- printed.
use Rattle.std.proofs.Common.{◌≡◌, ◌∙◌, ℕ, List, refl, sym, ap}
use Rattle.std.specs.Prelude.{Option, Some}
use Rattle.const_eval.specs.Expressions.{Expression, operand, parenthesized, unary, binary}
use Rattle.const_eval.specs.Expressions.{IsExpression, a_sum, print}
use Rattle.const_eval.specs.Machine.{Meaning, whole}
use Rattle.go_literals.proofs.Options.{some_is}
use Rattle.const_eval.proofs.TreeLaws.{fold, complete}

abbrev trees : Meaning Expression
trees = record {
  enclosed = λ e. Some (parenthesized e);
  signed = λ op e. Some (unary op e);
  joined = λ op l r. Some (binary op l r);
}

abbrev leaf : List ℕ → Option Expression
leaf text = Some (operand text)

gives_itself : (e : Expression) → fold trees leaf e ≡ Some e
gives_itself (operand text) = refl
gives_itself (parenthesized inner) = rw (gives_itself inner) refl
gives_itself (unary op inner) = rw (gives_itself inner) refl
gives_itself (binary op left right) = rw (gives_itself left, gives_itself right) refl

pub one_tree : (first second : Expression) → IsExpression a_sum first → IsExpression a_sum second
    → print first ≡ print second → first ≡ second
one_tree first second v w e =
    some_is first second (sym (complete trees leaf first v first (gives_itself first))
    ∙ ap (whole trees leaf) e ∙ complete trees leaf second w second (gives_itself second))
