-- Cited by private clauses and proofs. Where general comments end, and which literals are open.
use Rattle.std.specs.Prelude.{ℕ, ◌+◌, Bool, true, false, ◌&&◌, ◌||◌, List, [], ◌∷◌, length}
use Rattle.std.specs.Prelude.{if◌then◌else◌, ◌==◌, nat_eq, Option, Some, None, option_map, codes}
use Rattle.std.specs.List.{starts_with}
use Rattle.go_ast.specs.Characters.{newline, backslash, single_quote, double_quote, back_quote}
use Rattle.go_literals.specs.Extents.{raw_length}

-- how many bytes stand before the first "*/"
unfoldable pub comment_end : List ℕ → Option ℕ
comment_end [] = None
comment_end (b ∷ bytes) = if starts_with nat_eq (b ∷ bytes) (codes "*/") then Some 0
    else option_map (λ n. n + 1) (comment_end bytes)

-- the line ends before a closing quote; the first byte stands after a "\" or not
unfoldable pub is_unclosed : ℕ → Bool → List ℕ → Bool
is_unclosed quote escaped [] = true
is_unclosed quote escaped (b ∷ bytes) = if b == newline then true
    else (if escaped then is_unclosed quote false bytes
    else (if b == quote then false else is_unclosed quote (b == backslash) bytes))

-- a rune, a text or a raw text without its closing mark stands at the front, where no item does
abbrev pub opens_string : List ℕ → Bool
opens_string [] = false
opens_string (b ∷ bytes) = ((b == single_quote || b == double_quote) && is_unclosed b false bytes)
    || (b == back_quote && raw_length bytes == length bytes)
