-- Cited by public clauses. Expressions of constants that are integers (The Go Programming Language
-- Specification, "Expressions", "Operators", "Operator precedence"): a tree, a printer from the
-- tree to the texts of its tokens, a fact that says which trees are valid, and what a tree is
-- worth.
use Rattle.std.specs.Prelude.{◌≡◌, ℕ, suc, ◌≤◌, max, Bool, true, false, ◌||◌, List, [], ◌∷◌, ◌++◌}
use Rattle.std.specs.Prelude.{codes, ◌==◌, IsTrue, Some, ℤ, pos}
use Rattle.std.specs.Char.{is_ascii_digit}
use Rattle.go_ast.specs.Characters.{single_quote}
use Rattle.go_ast.specs.Numbers.{Integer, print_integer, is_integer}
use Rattle.go_ast.specs.Texts.{Element, is_element}
use Rattle.const_eval.specs.declared.operator.Operator.{Operator}
use Rattle.const_eval.specs.declared.lexeme.Lexeme.TheVariants as l
use Rattle.const_eval.specs.Lexemes.{lexeme_of}
use Rattle.go_literals.specs.Literals.{integer_value, print_rune, element_value}
use Rattle.const_eval.specs.Operators.{print_operator, is_unary, is_multiplying, within}
use Rattle.const_eval.specs.Operators.{unary_value, binary_value}

pub data Expression : Type 0 where
  -- a literal or a name
  operand : List ℕ → Expression
  parenthesized : Expression → Expression
  unary : Operator → Expression → Expression
  binary : Operator → Expression → Expression → Expression

-- the texts of the tokens
abbrev pub print : Expression → List (List ℕ)
print (operand text) = text ∷ []
print (parenthesized inner) = codes "(" ∷ print inner ++ codes ")" ∷ []
print (unary operator inner) = print_operator operator ∷ print inner
print (binary operator left right) = print left ++ print_operator operator ∷ print right

-- what a tree is: an operand ("UnaryExpr"), operands between the operators that bind tighter, or
-- these between the others
pub data Part : Type 0 where
  an_operand a_product a_sum : Part

-- the valid trees of each part: binary operators of one precedence go from the left to the right
pub data IsExpression : Part → Expression → Type 0 where
  one_token : {text : List ℕ} → lexeme_of text ≡ l.Operand → IsExpression an_operand (operand text)
  in_parentheses : {inner : Expression} → IsExpression a_sum inner
      → IsExpression an_operand (parenthesized inner)
  after_unary : {operator : Operator} {inner : Expression} → is_unary operator ≡ true
      → IsExpression an_operand inner → IsExpression an_operand (unary operator inner)
  one_operand : {single : Expression} → IsExpression an_operand single
      → IsExpression a_product single
  multiplied : {operator : Operator} {left right : Expression} → is_multiplying operator ≡ true
      → IsExpression a_product left → IsExpression an_operand right
      → IsExpression a_product (binary operator left right)
  one_product : {single : Expression} → IsExpression a_product single → IsExpression a_sum single
  added : {operator : Operator} {left right : Expression} → is_multiplying operator ≡ false
      → IsExpression a_sum left → IsExpression a_product right
      → IsExpression a_sum (binary operator left right)

-- a literal or a name is one level, and each bracket or operator is one more than its deepest
-- operand
abbrev pub levels : Expression → ℕ
levels (operand text) = 1
levels (parenthesized inner) = suc (levels inner)
levels (unary operator inner) = suc (levels inner)
levels (binary operator left right) = suc (max (levels left) (levels right))

-- the bytes begin as a number or a rune does
abbrev pub begins_literal : List ℕ → Bool
begins_literal [] = false
begins_literal (b ∷ bytes) = is_ascii_digit b || b == single_quote

-- what an operand is worth, where this says what names are worth: an integer or a rune its value,
-- and other texts what they name. Other literals are worth nothing
pub data IsOperandWorth (names : List ℕ → ℤ → Type 0) : List ℕ → ℤ → Type 0 where
  an_integer : (literal : Integer) → IsTrue (is_integer literal) → (number : ℤ)
      → within (pos (integer_value literal)) ≡ Some number
      → IsOperandWorth names (print_integer literal) number
  a_rune : (element : Element) → IsTrue (is_element single_quote element) → (number : ℤ)
      → within (pos (element_value element)) ≡ Some number
      → IsOperandWorth names (print_rune element) number
  a_name : (text : List ℕ) (number : ℤ) → begins_literal text ≡ false → names text number
      → IsOperandWorth names text number

-- what a tree is worth: each of its parts has to be worth something
abbrev pub IsWorth : (List ℕ → ℤ → Type 0) → Expression → ℤ → Type 0
IsWorth names (operand text) number = IsOperandWorth names text number
IsWorth names (parenthesized inner) number = IsWorth names inner number
IsWorth names (unary operator inner) number = (x : ℤ) × IsWorth names inner x
    × (unary_value operator x ≡ Some number)
IsWorth names (binary operator left right) number =
    (x : ℤ) × (y : ℤ) × IsWorth names left x × IsWorth names right y
    × (binary_value operator x y ≡ Some number)

-- the texts are an expression of at most 100 levels that is worth this number
pub record HasValue (names : List ℕ → ℤ → Type 0) (run : List (List ℕ)) (number : ℤ) : Type 0 where
  pub tree : Expression
  pub valid : IsExpression a_sum tree
  pub printed : print tree ≡ run
  pub few_levels : levels tree ≤ 100
  pub worth : IsWorth names tree number
