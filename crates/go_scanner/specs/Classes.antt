-- Cited by private clauses and proofs. What may begin with a byte.
use Rattle.std.specs.Prelude.{ℕ, Bool, ◌||◌, if◌then◌else◌, ◌==◌, nat_lt}
use Rattle.std.specs.Char.{is_ascii_alphabetic, is_ascii_digit}
use Rattle.go_ast.specs.Characters.{newline, tab, carriage_return, space, underscore, double_quote}
use Rattle.go_ast.specs.Characters.{single_quote, back_quote, full_stop}
use Rattle.go_scanner.specs.declared.class.Class as class
use Rattle.go_scanner.specs.declared.class.Class.TheVariants.{LineEnd, Blank, Letter, Digit}
use Rattle.go_scanner.specs.declared.class.Class.TheVariants.{DoubleQuote, SingleQuote, BackQuote}
use Rattle.go_scanner.specs.declared.class.Class.TheVariants.{Semicolon, Slash, Point, Closing}
use Rattle.go_scanner.specs.declared.class.Class.TheVariants.{Lone, Wide, Other}

-- a letter of ASCII, or the underscore
abbrev pub is_ascii_letter : ℕ → Bool
is_ascii_letter b = b == underscore || is_ascii_alphabetic b

-- a letter or digit of ASCII, or the underscore
abbrev pub is_word_byte : ℕ → Bool
is_word_byte b = is_ascii_letter b || is_ascii_digit b

-- white space other than the newline
abbrev pub is_blank : ℕ → Bool
is_blank b = b == space || b == tab || b == carriage_return

-- a closing bracket
abbrev pub is_closing : ℕ → Bool
is_closing b = b == 41 || b == 93 || b == 125

-- an opening bracket, a comma or a tilde, each of which begins no longer operator
abbrev pub is_lone : ℕ → Bool
is_lone b = b == 40 || b == 44 || b == 91 || b == 123 || b == 126

abbrev pub class_of : ℕ → class.Class
class_of b = if b == newline then LineEnd
    else (if is_blank b then Blank
    else (if is_ascii_letter b then Letter
    else (if is_ascii_digit b then Digit
    else (if b == double_quote then DoubleQuote
    else (if b == single_quote then SingleQuote
    else (if b == back_quote then BackQuote
    else (if b == 59 then Semicolon
    else (if b == 47 then Slash
    else (if b == full_stop then Point
    else (if is_closing b then Closing
    else (if is_lone b then Lone
    else (if nat_lt b 128 then Other else Wide))))))))))))
