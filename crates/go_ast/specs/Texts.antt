-- Cited by public clauses. What stands between the quotes of runes and texts (The Go Programming
-- Language Specification, "Rune literals" and "String literals"), and where the closing quote is
-- missing.
use Rattle.std.specs.Prelude.{◌≡◌, ℕ, ◌+◌, ◌*◌, ◌⊎◌, Bool, true, false, ◌&&◌, ◌||◌, not, List, []}
use Rattle.std.specs.Prelude.{◌∷◌, ◌++◌, length, if◌then◌else◌, ◌==◌, nat_eq, nat_lt, IsTrue, codes}
use Rattle.std.specs.List.{list_all, list_any}
use Rattle.std.specs.Char.{encode_utf8, digit_value, is_ascii_hexdigit}
use Rattle.std.specs.Str.{all_scalars}
use Rattle.go_ast.specs.Characters.{newline, backslash, single_quote, double_quote, back_quote}
use Rattle.go_ast.specs.Numbers.{is_octal_digit}

pub data Element : Type 0 where
  -- a character
  character : ℕ → Element
  -- "\" and a letter or mark
  escape : ℕ → Element
  -- "\" and octal digits
  octal_escape : List ℕ → Element
  -- "\", a letter and hexadecimal digits
  hexadecimal_escape : ℕ → List ℕ → Element

abbrev pub print_element : Element → List ℕ
print_element (character c) = encode_utf8 c
print_element (escape mark) = backslash ∷ mark ∷ []
print_element (octal_escape digits) = backslash ∷ digits
print_element (hexadecimal_escape letter digits) = backslash ∷ letter ∷ digits

abbrev pub print_elements : List Element → List ℕ
print_elements [] = []
print_elements (element ∷ elements) = print_element element ++ print_elements elements

-- a character or byte that stands for itself before this quote
abbrev pub is_unquoted : ℕ → ℕ → Bool
is_unquoted quote c = not (c == quote || c == backslash || c == newline)

abbrev pub is_escape_mark : ℕ → ℕ → Bool
is_escape_mark quote mark = mark == quote || list_any (nat_eq mark) (codes "abfnrtv\\")

-- the value of digits of a base after those of this value
abbrev pub value_after : ℕ → ℕ → List ℕ → ℕ
value_after base value [] = value
value_after base value (d ∷ ds) = value_after base (value * base + digit_value d) ds

abbrev pub value_of : ℕ → List ℕ → ℕ
value_of base digits = value_after base 0 digits

-- three octal digits up to 377
abbrev pub is_octal_escape : List ℕ → Bool
is_octal_escape digits =
    length digits == 3 && list_all is_octal_digit digits && nat_lt (value_of 8 digits) 256

abbrev pub is_scalar : ℕ → Bool
is_scalar c = all_scalars (c ∷ [])

-- two digits follow "x"; four follow "u" and eight "U", which name a scalar value
abbrev pub is_coded : ℕ → List ℕ → Bool
is_coded letter digits = if letter == 120 then length digits == 2
    else (if letter == 117 then length digits == 4 && is_scalar (value_of 16 digits)
    else (letter == 85 && length digits == 8 && is_scalar (value_of 16 digits)))

abbrev pub is_hexadecimal_escape : ℕ → List ℕ → Bool
is_hexadecimal_escape letter digits = list_all is_ascii_hexdigit digits && is_coded letter digits

-- an element of a literal with this quote
abbrev pub is_element : ℕ → Element → Bool
is_element quote (character c) = is_scalar c && is_unquoted quote c
is_element quote (escape mark) = is_escape_mark quote mark
is_element quote (octal_escape digits) = is_octal_escape digits
is_element quote (hexadecimal_escape letter digits) = is_hexadecimal_escape letter digits

-- on the way to the closing quote: a byte that stands for itself, or "\" and any byte but the
-- newline
pub data Piece : Type 0 where
  plain pair : ℕ → Piece

abbrev pub print_pieces : List Piece → List ℕ
print_pieces [] = []
print_pieces (plain b ∷ pieces) = b ∷ print_pieces pieces
print_pieces (pair b ∷ pieces) = backslash ∷ b ∷ print_pieces pieces

abbrev pub is_piece : ℕ → Piece → Bool
is_piece quote (plain b) = is_unquoted quote b
is_piece quote (pair b) = not (b == newline)

-- the line ends here, with the source or a newline
abbrev pub ends_line : List ℕ → Bool
ends_line [] = true
ends_line (b ∷ bytes) = b == newline

-- the line ends here, or after a "\"
abbrev pub ends_unclosed : List ℕ → Bool
ends_unclosed [] = true
ends_unclosed (b ∷ bytes) = b == newline || (b == backslash && ends_line bytes)

-- no closing quote stands on the line
pub record IsUnclosed (quote : ℕ) (bytes : List ℕ) : Type 0 where
  pub pieces : List Piece
  pub rest : List ℕ
  pub split : bytes ≡ print_pieces pieces ++ rest
  pub valid : IsTrue (list_all (is_piece quote) pieces)
  pub end : IsTrue (ends_unclosed rest)

-- a rune, a text or a raw text begins here whose closing mark is missing
abbrev pub IsOpenString : List ℕ → Type 0
IsOpenString [] = IsTrue false
IsOpenString (b ∷ bytes) = (IsTrue (b == single_quote || b == double_quote) × IsUnclosed b bytes)
    ⊎ (IsTrue (b == back_quote) × IsTrue (list_all (λ c. not (c == back_quote)) bytes))
