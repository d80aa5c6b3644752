-- Cited by public clauses. How many bytes escapes, runes and strings have, found from the left to
-- the right: the plain program next to the definition of their elements.
use Rattle.std.specs.Prelude.{ℕ, zero, suc, ◌+◌, List, [], ◌∷◌, take, if◌then◌else◌, ◌==◌, Option}
use Rattle.std.specs.Prelude.{Some, None, option_map}
use Rattle.std.specs.List.{position_or_len}
use Rattle.std.specs.Char.{len_utf8}
use Rattle.std.specs.Str.{chars}
use Rattle.go_ast.specs.Characters.{newline, backslash, single_quote, back_quote}
use Rattle.go_ast.specs.Texts.{is_unquoted, is_escape_mark, is_octal_escape, is_hexadecimal_escape}

-- how many bytes an escape has after its "\", or 0 where the bytes begin none
abbrev pub coded_length : ℕ → ℕ → List ℕ → ℕ
coded_length letter digits bytes = if is_hexadecimal_escape letter (take digits bytes)
    then digits + 1 else 0

abbrev pub escape_length : ℕ → List ℕ → ℕ
escape_length quote [] = 0
escape_length quote (b ∷ bytes) = if is_escape_mark quote b then 1
    else (if b == 120 then coded_length 120 2 bytes
    else (if b == 117 then coded_length 117 4 bytes
    else (if b == 85 then coded_length 85 8 bytes
    else (if is_octal_escape (take 3 (b ∷ bytes)) then 3 else 0))))

-- how many bytes there are up to the closing quote and with it, where the first ones belong to an
-- escape, or none where a newline, the end or an ill-formed escape comes first
unfoldable pub string_length : ℕ → ℕ → List ℕ → Option ℕ
string_length quote skip [] = None
string_length quote (suc skip) (b ∷ bytes) = option_map (λ n. n + 1)
    (string_length quote skip bytes)
string_length quote zero (b ∷ bytes) = if b == quote then Some 1
    else (if b == newline then None
    else (if b == backslash
    then (if escape_length quote bytes == 0 then None
    else option_map (λ n. n + 1) (string_length quote (escape_length quote bytes) bytes))
    else option_map (λ n. n + 1) (string_length quote zero bytes)))

-- how many bytes the first character has, where it stands for itself in a rune
abbrev pub character_length : List ℕ → ℕ
character_length [] = 0
character_length (c ∷ characters) = if is_unquoted single_quote c then len_utf8 c else 0

-- how many bytes a rune has between its quotes, or 0 where the bytes begin none
unfoldable pub rune_length : List ℕ → ℕ
rune_length [] = 0
rune_length (b ∷ bytes) =
    if b == backslash
    then (if escape_length single_quote bytes == 0 then 0 else escape_length single_quote bytes + 1)
    else character_length (chars (b ∷ bytes))

-- how many bytes stand before the next back quote, or their number where there is none
abbrev pub raw_length : List ℕ → ℕ
raw_length bytes = position_or_len (λ b. b == back_quote) bytes
