-- Cited by public clauses. HTML escapes (the HTML standard, "Character references"). The choice of
-- these five is the project's own.
use Rattle.std.specs.Prelude.{ℕ, List, [], ◌∷◌, codes, if◌then◌else◌, ◌==◌}
use Rattle.std.specs.List.{flat_map}

abbrev pub ampersand : ℕ
ampersand = 38

abbrev pub less_than : ℕ
less_than = 60

abbrev pub greater_than : ℕ
greater_than = 62

abbrev pub quotation_mark : ℕ
quotation_mark = 34

abbrev pub apostrophe : ℕ
apostrophe = 39

-- what stands for a byte of a text: `&`, `<`, `>`, `"` and `'` become references, any other byte
-- stays
abbrev pub escape_of : ℕ → List ℕ
escape_of b =
    if b == ampersand then codes "&amp;"
    else (if b == less_than then codes "&lt;"
    else (if b == greater_than then codes "&gt;"
    else (if b == quotation_mark then codes "&quot;"
    else (if b == apostrophe then codes "&#39;"
    else b ∷ []))))

-- the text with the five escapes
abbrev pub escaped : List ℕ → List ℕ
escaped text = flat_map escape_of text
