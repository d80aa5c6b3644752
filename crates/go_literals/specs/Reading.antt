-- Cited by public clauses. The values of literals by their bytes, from the left to the right: the
-- plain program next to the definition of what literals denote, which gives the same.
use Rattle.std.specs.Prelude.{ℕ, ◌+◌, ◌*◌, ◌^◌, Bool, true, false, List, [], ◌∷◌, length, nat_lt}
use Rattle.std.specs.Prelude.{if◌then◌else◌, ◌==◌, Option, Some, None, option_map}
use Rattle.std.specs.Int.{is_in_range}
use Rattle.std.specs.Char.{digit_value, is_digit, len_utf8}
use Rattle.std.specs.Str.{chars, is_utf8}
use Rattle.go_ast.specs.Characters.{underscore, single_quote, backslash, digit_zero}
use Rattle.go_ast.specs.Numbers.{is_prefix_letter}
use Rattle.go_ast.specs.Texts.{is_unquoted, is_escape_mark, is_octal_escape, is_hexadecimal_escape}
use Rattle.go_ast.specs.Texts.{value_of}
use Rattle.go_literals.specs.Literals.{base_of, escape_value}
use Rattle.go_literals.specs.Options.{◌|>◌}

-- digits of a base after those of this value; whether a "_" stands directly before them
abbrev pub read_digits : ℕ → Bool → ℕ → List ℕ → Option ℕ
read_digits base marked value [] = if marked then None else Some value
read_digits base marked value (b ∷ bytes) = if b == underscore
    then (if marked then None else read_digits base true value bytes)
    else (if is_digit b base
    then read_digits base false (value * base + digit_value b) bytes else None)

-- after a "0" and a letter
abbrev pub read_based : ℕ → List ℕ → Option ℕ
read_based letter [] = None
read_based letter (b ∷ bytes) = read_digits (base_of letter) false 0 (b ∷ bytes)

abbrev pub read_after_zero : List ℕ → Option ℕ
read_after_zero [] = Some 0
read_after_zero (b ∷ bytes) = if is_prefix_letter b then read_based b bytes
    else read_digits 8 false 0 (b ∷ bytes)

abbrev pub read_integer : List ℕ → Option ℕ
read_integer [] = None
read_integer (b ∷ bytes) = if b == digit_zero then read_after_zero bytes
    else (if is_in_range 49 57 b then read_digits 10 false 0 (b ∷ bytes) else None)

-- after a "\", before this quote
abbrev pub read_escape : ℕ → List ℕ → Option ℕ
read_escape quote [] = None
read_escape quote (mark ∷ []) = if is_escape_mark quote mark then Some (escape_value mark) else None
read_escape quote (b ∷ c ∷ bytes) = if is_octal_escape (b ∷ c ∷ bytes)
    then Some (value_of 8 (b ∷ c ∷ bytes))
    else (if is_hexadecimal_escape b (c ∷ bytes) then Some (value_of 16 (c ∷ bytes)) else None)

-- the first of the characters of a text of so many bytes, where it is the only one and stands for
-- itself
abbrev pub only_character : ℕ → List ℕ → Option ℕ
only_character size [] = None
only_character size (c ∷ cs) = if is_unquoted single_quote c
    then (if len_utf8 c == size then Some c else None) else None

abbrev pub read_character : List ℕ → Option ℕ
read_character bytes = if is_utf8 bytes then only_character (length bytes) (chars bytes) else None

-- between the quotes
abbrev pub read_element : List ℕ → Option ℕ
read_element [] = None
read_element (b ∷ bytes) = if b == backslash then read_escape single_quote bytes
    else read_character (b ∷ bytes)

-- the bytes before a closing quote at the end
abbrev pub before_quote : List ℕ → Option (List ℕ)
before_quote [] = None
before_quote (b ∷ []) = if b == single_quote then Some [] else None
before_quote (b ∷ c ∷ bytes) = option_map (λ front. b ∷ front) (before_quote (c ∷ bytes))

abbrev pub read_rune : List ℕ → Option ℕ
read_rune [] = None
read_rune (b ∷ bytes) = if b == single_quote then before_quote bytes |> read_element else None

-- a value, where it is below 2^128
abbrev pub in_range : ℕ → Option ℕ
in_range n = if nat_lt n (2 ^ 128) then Some n else None
