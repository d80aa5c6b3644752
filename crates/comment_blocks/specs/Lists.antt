-- Cited by public clauses. What an indented span is: a list or code (Go Doc Comments, "Lists",
-- "Code blocks").
use Rattle.std.specs.Prelude.{ℕ, Bool, true, false, ◌&&◌, ◌||◌, not, List, [], ◌∷◌, ◌++◌, length}
use Rattle.std.specs.Prelude.{take, drop, map, filter, min, if◌then◌else◌, ◌==◌, nat_eq, Option}
use Rattle.std.specs.Prelude.{Some, None}
use Rattle.std.specs.List.{flat_map, join_with_byte, prefix_len, slice_split, starts_with}
use Rattle.std.specs.Char.{is_ascii_digit}
use Rattle.go_ast.specs.Characters.{newline}
use Rattle.comment_blocks.specs.declared.block.Item.{Item}
use Rattle.comment_blocks.specs.Texts.{is_blank}
use Rattle.comment_blocks.specs.Spans.{is_empty}
use Rattle.comment_blocks.specs.Kinds.{begins_blank, without_blanks}

-- the marker of an item, and the text after it
pub record Marked : Type 0 where
  pub number : List ℕ
  pub text : List ℕ

-- the bytes of U+2022
abbrev pub bullet : List ℕ
bullet = 0xE2 ∷ 0x80 ∷ 0xA2 ∷ []

-- a marker is followed by a blank, and by a text with a character that is no blank
abbrev pub marked_with : List ℕ → List ℕ → Option Marked
marked_with number after =
    if begins_blank after && not (is_empty (without_blanks after))
    then Some (record { number = number; text = without_blanks after }) else None

-- after the digits of a number stands "." or ")"
abbrev pub numbered_with : List ℕ → List ℕ → Option Marked
numbered_with number [] = None
numbered_with number (b ∷ after) = if b == 46 || b == 41 then marked_with number after else None

abbrev pub numbered_at : List ℕ → Option Marked
numbered_at line =
    numbered_with
    (take (prefix_len is_ascii_digit line) line) (drop (prefix_len is_ascii_digit line) line)

-- a marker is "*", "+", "-", the bullet, or a number
abbrev pub marked_at : List ℕ → Option Marked
marked_at [] = None
marked_at (b ∷ line) =
    if b == 42 || b == 43 || b == 45 then marked_with [] line
    else (if is_ascii_digit b then numbered_at (b ∷ line)
    else (if starts_with nat_eq (b ∷ line) bullet then marked_with [] (drop 3 (b ∷ line))
    else None))

-- what a line has of an item, after its blanks
abbrev pub marker_of : List ℕ → Option Marked
marker_of line = marked_at (without_blanks line)

abbrev pub has_lines : List (List ℕ) → Bool
has_lines [] = false
has_lines (line ∷ lines) = true

-- a paragraph of an item: its lines without the blanks before them
abbrev pub item_paragraph : List (List ℕ) → List ℕ
item_paragraph lines = join_with_byte newline (map without_blanks lines)

-- the paragraphs of an item, which empty lines separate
abbrev pub item_paragraphs : List (List ℕ) → List (List ℕ)
item_paragraphs lines = map item_paragraph (filter has_lines (slice_split is_empty lines))

abbrev pub item_of : Marked → List (List ℕ) → Item
item_of marked more =
    record { number = marked.number; paragraphs = item_paragraphs (marked.text ∷ more) }

-- lines before the first marker, and the items after them
abbrev pub with_item_line : Option Marked → List ℕ → List (List ℕ) × List Item
    → List (List ℕ) × List Item
with_item_line None line cut = (line ∷ cut.0, cut.1)
with_item_line (Some marked) line cut = ([], item_of marked cut.0 ∷ cut.1)

abbrev pub cut_at_markers : List (List ℕ) → List (List ℕ) × List Item
cut_at_markers [] = ([], [])
cut_at_markers (line ∷ lines) = with_item_line (marker_of line) line (cut_at_markers lines)

-- the items of a list, each from a line with a marker up to the next
abbrev pub items_of : List (List ℕ) → List Item
items_of lines = (cut_at_markers lines).1

-- the longest common beginning
abbrev pub common_front : List ℕ → List ℕ → List ℕ
common_front [] ys = []
common_front (x ∷ xs) [] = []
common_front (x ∷ xs) (y ∷ ys) = if x == y then x ∷ common_front xs ys else []

-- what a line leaves of a run: an empty line all of it, another what they have in common
abbrev pub narrowed : List ℕ → List ℕ → List ℕ
narrowed run [] = run
narrowed run (b ∷ line) = common_front run (b ∷ line)

-- the longest beginning of the run that each line that isn't empty has
abbrev pub common_run : List ℕ → List (List ℕ) → List ℕ
common_run run [] = run
common_run run (line ∷ lines) = common_run (narrowed run line) lines

-- the longest run of blanks that all lines that aren't empty begin with
abbrev pub common_blanks : List (List ℕ) → List ℕ
common_blanks [] = []
common_blanks (line ∷ lines) = common_run (take (prefix_len is_blank line) line) lines

-- the text of code: each line without as many of its blanks as are common, and a newline
abbrev pub code_line : List ℕ → List ℕ → List ℕ
code_line run line = drop (min (length run) (prefix_len is_blank line)) line ++ newline ∷ []

abbrev pub code_of : List (List ℕ) → List ℕ
code_of lines = flat_map (code_line (common_blanks lines)) lines
