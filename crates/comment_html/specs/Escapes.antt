-- Cited by public clauses. What an escaped text can't hold (the HTML standard, "Character
-- references").
use Rattle.std.specs.Prelude.{ℕ, Bool, true, ◌&&◌, ◌||◌, not, List, [], ◌∷◌, ◌==◌, nat_eq, codes}
use Rattle.std.specs.List.{starts_with}
use Rattle.text_out.specs.Escape.{ampersand, apostrophe, greater_than, less_than, quotation_mark}

-- a byte that can begin or end a tag, or a value in one
abbrev pub is_markup : ℕ → Bool
is_markup b = b == less_than || b == greater_than || b == quotation_mark || b == apostrophe

-- the bytes begin with one of the five references
abbrev pub begins_reference : List ℕ → Bool
begins_reference bytes =
    starts_with nat_eq bytes (codes "&amp;") || starts_with nat_eq bytes (codes "&lt;")
    || starts_with nat_eq bytes (codes "&gt;") || starts_with nat_eq bytes (codes "&quot;")
    || starts_with nat_eq bytes (codes "&#39;")

-- the bytes have none of `<`, `>`, `"` and `'`, and each `&` begins one of the five references
abbrev pub is_harmless : List ℕ → Bool
is_harmless [] = true
is_harmless (b ∷ bytes) =
    not (is_markup b) && (not (b == ampersand) || begins_reference (b ∷ bytes))
    && is_harmless bytes
