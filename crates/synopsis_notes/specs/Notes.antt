-- Cited by public clauses. What notes a comment's text holds: on a bug, and on what is deprecated
-- (go/doc, "Note"; Go Doc Comments, "Deprecations").
use Rattle.std.specs.Prelude.{ℕ, ◌-◌, Bool, false, ◌||◌, not, List, [], ◌∷◌, Option, Some, None}
use Rattle.std.specs.Prelude.{if◌then◌else◌, ◌==◌, nat_eq, codes, take, drop, length}
use Rattle.std.specs.List.{list_any, prefix_len, starts_with, suffix_len}
use Rattle.comment_blocks.specs.declared.block.Block.{Block}
use Rattle.comment_blocks.specs.declared.block.Block.TheVariants.{Paragraph}
use Rattle.comment_blocks.specs.Blocks.{blocks_of}
use Rattle.synopsis_notes.specs.Synopses.{is_white}

-- a text without the blanks and newlines at its front, at its end, and at both
abbrev pub without_first_white : List ℕ → List ℕ
without_first_white text = drop (prefix_len is_white text) text

abbrev pub without_last_white : List ℕ → List ℕ
without_last_white text = take (length text - suffix_len is_white text) text

abbrev pub trimmed : List ℕ → List ℕ
trimmed text = without_last_white (without_first_white text)

abbrev pub is_parenthesis : ℕ → Bool
is_parenthesis b = b == 40 || b == 41

abbrev pub is_in_name : ℕ → Bool
is_in_name b = not (is_parenthesis b)

-- a text without a colon at its front
abbrev pub behind_colon : List ℕ → List ℕ
behind_colon [] = []
behind_colon (b ∷ text) = if b == 58 then text else b ∷ text

-- the note after a name that isn't empty, and ")"
abbrev pub note_closed : List ℕ → Option (List ℕ)
note_closed [] = None
note_closed (b ∷ text) = if b == 41 then Some (trimmed (behind_colon text)) else None

abbrev pub note_behind : List ℕ → List ℕ → Option (List ℕ)
note_behind [] rest = None
note_behind (b ∷ name) rest = note_closed rest

-- the note of a text that begins with a name, which has no parenthesis
abbrev pub note_of_named : List ℕ → Option (List ℕ)
note_of_named text =
    note_behind (take (prefix_len is_in_name text) text) (drop (prefix_len is_in_name text) text)

-- the note on a bug that a text is
abbrev pub bug_of : List ℕ → Option (List ℕ)
bug_of text = if starts_with nat_eq text (codes "BUG(") then note_of_named (drop 4 text) else None

abbrev pub says_deprecated : Block → Bool
says_deprecated (Paragraph text) = starts_with nat_eq text (codes "Deprecated: ")
says_deprecated _ = false

-- a paragraph of the text begins "Deprecated: "
abbrev pub is_deprecated : List ℕ → Bool
is_deprecated text = list_any says_deprecated (blocks_of text)
