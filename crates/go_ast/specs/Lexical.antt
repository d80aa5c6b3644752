-- Cited by public clauses. The items of a source: white space, comments, and the spellings of
-- tokens (The Go Programming Language Specification, "Lexical elements"). Each form is a tree, a
-- printer from the tree to its bytes, and a fact that says which trees are valid and where they
-- stand.
use Rattle.std.specs.Prelude.{◌≡◌, ℕ, ◌≤◌, ◌⊎◌, Bool, true, false, ◌&&◌, ◌||◌, not, List, [], ◌∷◌}
use Rattle.std.specs.Prelude.{◌++◌, length, if◌then◌else◌, ◌==◌, nat_eq, IsTrue, All, MatchBool}
use Rattle.std.specs.Prelude.{codes, ⊤}
use Rattle.std.specs.List.{list_all, starts_with}
use Rattle.std.specs.Char.{is_ascii_alphanumeric, is_ascii_digit}
use Rattle.std.specs.Str.{all_scalars, encode_utf8_all}
use Rattle.go_chars.specs.Identifiers.{is_among, is_identifier, keywords}
use Rattle.go_ast.specs.Characters.{Begins, newline, carriage_return, double_quote, single_quote}
use Rattle.go_ast.specs.Characters.{back_quote, full_stop, underscore, byte_order_mark_bytes}
use Rattle.go_ast.specs.Characters.{is_white_space}
use Rattle.go_ast.specs.Numbers.{Integer, print_integer, is_integer, Float, print_float, is_float}
use Rattle.go_ast.specs.Numbers.{Imaginary, print_imaginary, is_imaginary, is_exponent_mark}
use Rattle.go_ast.specs.Texts.{Element, print_element, print_elements, is_element}

-- "Operators and punctuation", but for the semicolon
unfoldable pub operators : List (List ℕ)
operators =
    codes "<<=" ∷ codes ">>=" ∷ codes "&^=" ∷ codes "..."
    ∷ codes "<<" ∷ codes ">>" ∷ codes "&^" ∷ codes "+=" ∷ codes "-=" ∷ codes "*=" ∷ codes "/="
    ∷ codes "%=" ∷ codes "&=" ∷ codes "|="
    ∷ codes "^=" ∷ codes "&&" ∷ codes "||" ∷ codes "<-" ∷ codes "++" ∷ codes "--" ∷ codes "=="
    ∷ codes "!=" ∷ codes "<="
    ∷ codes ">=" ∷ codes ":="
    ∷ codes "+" ∷ codes "-" ∷ codes "*" ∷ codes "/" ∷ codes "%" ∷ codes "&" ∷ codes "|" ∷ codes "^"
    ∷ codes "<" ∷ codes ">" ∷ codes "="
    ∷ codes "!" ∷ codes "~" ∷ codes "(" ∷ codes ")" ∷ codes "[" ∷ codes "]" ∷ codes "{" ∷ codes "}"
    ∷ codes "," ∷ codes "." ∷ codes ":"
    ∷ []

-- how a token is spelled ("Tokens")
pub data Spelling : Type 0 where
  identifier keyword operator : List ℕ → Spelling
  integer : Integer → Spelling
  float : Float → Spelling
  imaginary : Imaginary → Spelling
  rune : Element → Spelling
  text : List Element → Spelling
  raw_text : List ℕ → Spelling
  semicolon : Spelling

abbrev pub print_spelling : Spelling → List ℕ
print_spelling (identifier characters) = encode_utf8_all characters
print_spelling (keyword word) = word
print_spelling (operator mark) = mark
print_spelling (integer literal) = print_integer literal
print_spelling (float literal) = print_float literal
print_spelling (imaginary literal) = print_imaginary literal
print_spelling (rune element) = single_quote ∷ print_element element ++ single_quote ∷ []
print_spelling (text elements) = double_quote ∷ print_elements elements ++ double_quote ∷ []
print_spelling (raw_text content) = back_quote ∷ content ++ back_quote ∷ []
print_spelling semicolon = codes ";"

-- a byte of a raw text
abbrev pub is_raw : ℕ → Bool
is_raw b = not (b == back_quote)

abbrev pub IsSpelling : Spelling → Type 0
IsSpelling (identifier characters) =
    IsTrue (is_identifier characters) × IsTrue (all_scalars characters)
    × (is_among keywords (encode_utf8_all characters) ≡ false)
IsSpelling (keyword word) = IsTrue (is_among keywords word)
IsSpelling (operator mark) = IsTrue (is_among operators mark)
IsSpelling (integer literal) = IsTrue (is_integer literal)
IsSpelling (float literal) = IsTrue (is_float literal)
IsSpelling (imaginary literal) = IsTrue (is_imaginary literal)
IsSpelling (rune element) = IsTrue (is_element single_quote element)
IsSpelling (text elements) = IsTrue (list_all (is_element double_quote) elements)
IsSpelling (raw_text content) = IsTrue (list_all is_raw content)
IsSpelling semicolon = ⊤

-- a byte of the run of a number: a letter, a digit, "_" or "."
abbrev pub is_run_byte : ℕ → Bool
is_run_byte b = is_ascii_alphanumeric b || b == underscore || b == full_stop

-- whether a byte belongs to the run of a number after the byte before it: a sign does directly
-- after the letter that marks the exponent
abbrev pub goes_on : Bool → ℕ → ℕ → Bool
goes_on hexadecimal before b =
    is_run_byte b || ((b == 43 || b == 45) && is_exponent_mark hexadecimal before)

-- the bytes that belong to the run after the byte before them
abbrev pub run_after : Bool → ℕ → List ℕ → List ℕ
run_after hexadecimal before [] = []
run_after hexadecimal before (b ∷ bytes) =
    if goes_on hexadecimal before b then b ∷ run_after hexadecimal b bytes else []

abbrev pub is_hexadecimal : List ℕ → Bool
is_hexadecimal bytes =
    starts_with nat_eq bytes (codes "0x") || starts_with nat_eq bytes (codes "0X")

-- the longest run of bytes that a number may have, which goes beyond the numbers themselves
unfoldable pub number_run : List ℕ → List ℕ
number_run [] = []
number_run (b ∷ bytes) = b ∷ run_after (is_hexadecimal (b ∷ bytes)) b bytes

-- a number run begins at a digit, or at a full stop before a digit
abbrev pub begins_number : List ℕ → Bool
begins_number [] = false
begins_number (b ∷ []) = is_ascii_digit b
begins_number (b ∷ c ∷ bytes) = is_ascii_digit b || (b == full_stop && is_ascii_digit c)

abbrev pub is_number : Spelling → Bool
is_number (integer literal) = true
is_number (float literal) = true
is_number (imaginary literal) = true
is_number _ = false

-- a number stands for the whole run that begins there
abbrev pub IsWholeRun : Spelling → List ℕ → Type 0
IsWholeRun spelling bytes =
    IsTrue (is_number spelling) × (number_run bytes ≡ print_spelling spelling)

-- no spelling that the bytes begin with is longer
abbrev pub IsLongest : Spelling → List ℕ → Type 0
IsLongest spelling bytes =
    (other : Spelling) → IsSpelling other → Begins bytes (print_spelling other)
    → length (print_spelling other) ≤ length (print_spelling spelling)

-- a comment of either form begins here ("Comments")
abbrev pub begins_comment : List ℕ → Bool
begins_comment bytes =
    starts_with nat_eq bytes (codes "//") || starts_with nat_eq bytes (codes "/*")

-- "*/" stands somewhere in the bytes
abbrev pub has_comment_end : List ℕ → Bool
has_comment_end [] = false
has_comment_end (b ∷ bytes) = starts_with nat_eq (b ∷ bytes) (codes "*/") || has_comment_end bytes

-- a general comment begins here that has no end
abbrev pub IsOpenComment : List ℕ → Type 0
IsOpenComment bytes = (content : List ℕ) × (bytes ≡ codes "/*" ++ content)
    × (has_comment_end content ≡ false)

-- an item of a source: a character of white space, a comment, or a spelling
pub data Item : Type 0 where
  white_space : ℕ → Item
  byte_order_mark : Item
  line_comment : List ℕ → Item
  general_comment : List ℕ → Item
  spelled : Spelling → Item

abbrev pub print_item : Item → List ℕ
print_item (white_space b) = b ∷ []
print_item byte_order_mark = byte_order_mark_bytes
print_item (line_comment content) = codes "//" ++ content
print_item (general_comment content) = codes "/*" ++ content ++ codes "*/"
print_item (spelled spelling) = print_spelling spelling

-- a line comment ends before the newline, and before a carriage return directly before the newline,
-- or with the source
abbrev pub EndsComment : List ℕ → List ℕ → Type 0
EndsComment content [] = ⊤
EndsComment content (b ∷ rest) =
    ((b ≡ newline) × ((front : List ℕ) → content ≡ front ++ carriage_return ∷ [] → IsTrue false))
    ⊎ ((b ≡ carriage_return) × Begins rest (newline ∷ []))

pub record IsLineComment (content rest : List ℕ) : Type 0 where
  pub one_line : All (λ b. IsTrue (not (b == newline))) content
  pub end : EndsComment content rest

-- a spelling stands before the rest: where a comment begins there is none, where the run of a
-- number begins only the number that is the whole run, and else the longest
pub record IsSpelled (spelling : Spelling) (rest : List ℕ) : Type 0 where
  pub valid : IsSpelling spelling
  pub no_comment : begins_comment (print_spelling spelling ++ rest) ≡ false
  pub extent : MatchBool (begins_number (print_spelling spelling ++ rest))
      (IsWholeRun spelling (print_spelling spelling ++ rest))
      (IsLongest spelling (print_spelling spelling ++ rest))

-- an item stands at a byte offset, before the rest of the source
abbrev pub Stands : ℕ → Item → List ℕ → Type 0
Stands offset (white_space b) rest = IsTrue (is_white_space b)
Stands offset byte_order_mark rest = offset ≡ 0
Stands offset (line_comment content) rest = IsLineComment content rest
Stands offset (general_comment content) rest = has_comment_end content ≡ false
Stands offset (spelled spelling) rest = IsSpelled spelling rest
