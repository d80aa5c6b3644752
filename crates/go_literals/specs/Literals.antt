-- Cited by public clauses. What integer and rune literals denote (The Go Programming Language
-- Specification, "Integer literals" and "Rune literals").
use Rattle.std.specs.Prelude.{◌≡◌, ℕ, ◌||◌, List, [], ◌∷◌, ◌++◌, map, if◌then◌else◌, ◌==◌}
use Rattle.std.specs.Prelude.{IsTrue}
use Rattle.go_ast.specs.Characters.{single_quote}
use Rattle.go_ast.specs.Numbers.{Digit, digit, separated, Integer, lone_zero, decimal, octal, based}
use Rattle.go_ast.specs.Texts.{Element, character, escape, octal_escape, hexadecimal_escape}
use Rattle.go_ast.specs.Texts.{print_element, is_element, value_of}
use Rattle.go_ast.specs.Numbers.{print_integer, is_integer}

-- a digit without the "_" before it
abbrev pub plain_digit : Digit → ℕ
plain_digit (digit d) = d
plain_digit (separated d) = d

-- the base after a "0" and this letter
abbrev pub base_of : ℕ → ℕ
base_of letter = if letter == 98 || letter == 66 then 2
    else (if letter == 111 || letter == 79 then 8 else 16)

abbrev pub integer_value : Integer → ℕ
integer_value lone_zero = 0
integer_value (decimal d ds) = value_of 10 (d ∷ map plain_digit ds)
integer_value (octal ds) = value_of 8 (map plain_digit ds)
integer_value (based letter ds) = value_of (base_of letter) (map plain_digit ds)

abbrev pub print_rune : Element → List ℕ
print_rune element = single_quote ∷ print_element element ++ single_quote ∷ []

-- the code that "\" and a mark stand for; "\\" and "\'" stand for the mark
abbrev pub escape_value : ℕ → ℕ
escape_value mark = if mark == 97 then 7
    else (if mark == 98 then 8
    else (if mark == 102 then 12
    else (if mark == 110 then 10
    else (if mark == 114 then 13
    else (if mark == 116 then 9
    else (if mark == 118 then 11 else mark))))))

abbrev pub element_value : Element → ℕ
element_value (character c) = c
element_value (escape mark) = escape_value mark
element_value (octal_escape digits) = value_of 8 digits
element_value (hexadecimal_escape letter digits) = value_of 16 digits

-- an integer literal and its value
pub record IsIntegerLiteral (bytes : List ℕ) (n : ℕ) : Type 0 where
  pub literal : Integer
  pub valid : IsTrue (is_integer literal)
  pub printed : print_integer literal ≡ bytes
  pub worth : integer_value literal ≡ n

-- a rune literal and its code
pub record IsRuneLiteral (bytes : List ℕ) (n : ℕ) : Type 0 where
  pub element : Element
  pub valid : IsTrue (is_element single_quote element)
  pub printed : print_rune element ≡ bytes
  pub worth : element_value element ≡ n
