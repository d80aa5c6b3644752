-- Cited by public clauses. The blocks of a text: each span is the block of its kind (Go Doc
-- Comments).
use Rattle.std.specs.Prelude.{ℕ, Bool, true, false, ◌&&◌, List, [], ◌∷◌, if◌then◌else◌, Option}
use Rattle.std.specs.Prelude.{Some, None}
use Rattle.std.specs.List.{join_with_byte}
use Rattle.go_ast.specs.Characters.{newline}
use Rattle.comment_blocks.specs.declared.block.Block.{Block}
use Rattle.comment_blocks.specs.declared.block.Block.TheVariants as blocks
use Rattle.comment_blocks.specs.declared.block.Item.{Item}
use Rattle.comment_blocks.specs.declared.block.LinkDef.{LinkDef}
use Rattle.comment_blocks.specs.Texts.{lines_of}
use Rattle.comment_blocks.specs.Spans.{Piece, gap, plain, indented, is_empty, pieces_of}
use Rattle.comment_blocks.specs.Kinds.{definitions_of, has_heading_form, marked_heading}
use Rattle.comment_blocks.specs.Lists.{Marked, code_of, items_of, marker_of}

-- the line next to is empty, or there is none
abbrev pub is_free : List Piece → Bool
is_free [] = true
is_free (gap ∷ pieces) = true
is_free _ = false

-- the span next to is there, and plain
abbrev pub plain_beyond : List Piece → Bool
plain_beyond [] = false
plain_beyond (gap ∷ pieces) = plain_beyond pieces
plain_beyond (plain lines ∷ pieces) = true
plain_beyond (indented lines ∷ pieces) = false

-- the text of the heading with its mark that the one line of a span is, where the lines next to it
-- are free
abbrev pub marked_between : Bool → List (List ℕ) → Option (List ℕ)
marked_between free (line ∷ []) = if free then marked_heading line else None
marked_between free _ = None

-- the one line of a span is a heading by its form, where the lines next to it are free and it
-- stands
-- among plain spans; since those exist, the lines next to it are empty
abbrev pub is_formed : Bool → Bool → List (List ℕ) → Bool
is_formed free among (line ∷ []) = free && among && has_heading_form line
is_formed free among _ = false

abbrev pub marked_or : Option (List ℕ) → Block → Block
marked_or None block = block
marked_or (Some text) block = blocks.Heading text

abbrev pub links_or : Option (List LinkDef) → Block → Block
links_or None block = block
links_or (Some definitions) block = blocks.Links definitions

abbrev pub formed_or : Bool → List ℕ → Block
formed_or formed text = if formed then blocks.Heading text else blocks.Paragraph text

-- the block of a plain span, by what stands on both sides: the first of these that it is
abbrev pub plain_block : Bool → Bool → List (List ℕ) → Block
plain_block free among lines =
    marked_or (marked_between free lines)
    (links_or (definitions_of lines)
    (formed_or (is_formed free among lines) (join_with_byte newline lines)))

abbrev pub is_numbered : List Item → Bool
is_numbered [] = false
is_numbered (item ∷ items) = if is_empty item.number then false else true

abbrev pub list_of : List Item → Block
list_of items = blocks.List (is_numbered items) items

-- a span whose first line has a marker is a list
abbrev pub list_or_code : Option Marked → List (List ℕ) → Block
list_or_code None lines = blocks.Code (code_of lines)
list_or_code (Some marked) lines = list_of (items_of lines)

abbrev pub first_marker : List (List ℕ) → Option Marked
first_marker [] = None
first_marker (line ∷ lines) = marker_of line

-- the block of an indented span
abbrev pub indented_block : List (List ℕ) → Block
indented_block lines = list_or_code (first_marker lines) lines

-- the blocks of pieces after others, which stand in reverse
abbrev pub blocks_behind : List Piece → List Piece → List Block
blocks_behind before [] = []
blocks_behind before (gap ∷ pieces) = blocks_behind (gap ∷ before) pieces
blocks_behind before (plain lines ∷ pieces) =
    plain_block (is_free before && is_free pieces)
    (plain_beyond before && plain_beyond pieces) lines
    ∷ blocks_behind (plain lines ∷ before) pieces
blocks_behind before (indented lines ∷ pieces) =
    indented_block lines ∷ blocks_behind (indented lines ∷ before) pieces

-- the blocks of a text
abbrev pub blocks_of : List ℕ → List Block
blocks_of text = blocks_behind [] (pieces_of (lines_of text))
