-- Cited by public clauses. Identifiers and keywords (The Go Programming Language Specification,
-- "Identifiers", "Keywords" and "Exported identifiers"), over the characters of a text and its
-- bytes.
use Rattle.std.specs.Prelude.{ℕ, Bool, false, ◌&&◌, ◌||◌, not, List, [], ◌∷◌, codes}
use Rattle.std.specs.List.{list_all, list_any}
use Rattle.std.specs.Str.{bytes_eq, chars}
use Rattle.go_chars.specs.Letters.{is_letter, is_digit, is_upper}

abbrev pub is_letter_or_digit : ℕ → Bool
is_letter_or_digit c = is_letter c || is_digit c

-- identifier = letter { letter | unicode_digit }
abbrev pub is_identifier : List ℕ → Bool
is_identifier [] = false
is_identifier (c ∷ cs) = is_letter c && list_all is_letter_or_digit cs

-- the text is one of the texts
abbrev pub is_among : List (List ℕ) → List ℕ → Bool
is_among texts text = list_any (bytes_eq text) texts

-- the words that are no identifiers
unfoldable pub keywords : List (List ℕ)
keywords =
    codes "break" ∷ codes "case" ∷ codes "chan" ∷ codes "const" ∷ codes "continue" ∷ codes "default"
    ∷ codes "defer"
    ∷ codes "else" ∷ codes "fallthrough" ∷ codes "for" ∷ codes "func" ∷ codes "go" ∷ codes "goto"
    ∷ codes "if" ∷ codes "import"
    ∷ codes "interface" ∷ codes "map" ∷ codes "package" ∷ codes "range" ∷ codes "return"
    ∷ codes "select" ∷ codes "struct"
    ∷ codes "switch" ∷ codes "type" ∷ codes "var" ∷ []

-- a text whose characters are an identifier, and that is no keyword
abbrev pub is_name : List ℕ → Bool
is_name text = is_identifier (chars text) && not (is_among keywords text)

-- a name is exported where its first character is an upper case letter
abbrev pub is_exported : List ℕ → Bool
is_exported [] = false
is_exported (c ∷ cs) = is_upper c
