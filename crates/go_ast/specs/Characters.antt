-- Cited by public clauses. Bytes that have a name, and what texts begin with.
use Rattle.std.specs.Prelude.{◌≡◌, ℕ, Bool, ◌||◌, List, [], ◌∷◌, ◌++◌, ◌==◌}

abbrev pub tab : ℕ
tab = 9

abbrev pub newline : ℕ
newline = 10

abbrev pub carriage_return : ℕ
carriage_return = 13

abbrev pub space : ℕ
space = 32

abbrev pub double_quote : ℕ
double_quote = 34

abbrev pub single_quote : ℕ
single_quote = 39

abbrev pub full_stop : ℕ
full_stop = 46

abbrev pub slash : ℕ
slash = 47

abbrev pub digit_zero : ℕ
digit_zero = 48

abbrev pub backslash : ℕ
backslash = 92

abbrev pub underscore : ℕ
underscore = 95

abbrev pub back_quote : ℕ
back_quote = 96

abbrev pub letter_i : ℕ
letter_i = 105

-- the bytes of U+FEFF
abbrev pub byte_order_mark_bytes : List ℕ
byte_order_mark_bytes = 0xEF ∷ 0xBB ∷ 0xBF ∷ []

-- white space (The Go Programming Language Specification, "Tokens")
abbrev pub is_white_space : ℕ → Bool
is_white_space b = b == space || b == tab || b == carriage_return || b == newline

-- the bytes begin with the front
abbrev pub Begins : List ℕ → List ℕ → Type 0
Begins bytes front = (rest : List ℕ) × (bytes ≡ front ++ rest)
