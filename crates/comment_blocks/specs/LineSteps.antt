-- Cited by private clauses and proofs. The texts of lines, and how far an indented span goes.
use Rattle.std.specs.Prelude.{ℕ, ◌+◌, ◌&&◌, Bool, true, false, not, Option, Some, None, List, []}
use Rattle.std.specs.Prelude.{◌∷◌, ◌++◌, map, if◌then◌else◌}
use Rattle.std.specs.Borrow.{Bor}
use Rattle.std.specs.List.{prefix_len}
use Rattle.comment_blocks.specs.Texts.{is_blank}
use Rattle.comment_blocks.specs.Spans.{gap, indented, is_empty, is_plain, one_further, Piece, plain}
use Rattle.comment_blocks.specs.Lists.{item_of, item_paragraph, Marked, marker_of}
use Rattle.comment_blocks.specs.Blocks.{indented_block, is_free, plain_beyond, plain_block}
use Rattle.comment_blocks.specs.declared.block.Block.{Block}
use Rattle.comment_blocks.specs.declared.block.Item.{Item}
use Rattle.comment_blocks.specs.declared.block.LinkDef.{LinkDef}

abbrev pub texts : List (Bor (List ℕ)) → List (List ℕ)
texts lines = map (λ (line : Bor (List ℕ)). line.now) lines

-- how many lines go on an indented span: those up to the last indented one before a plain one
abbrev pub reach : List (List ℕ) → ℕ
reach [] = 0
reach ([] ∷ lines) = one_further (reach lines)
reach ((b ∷ line) ∷ lines) = if is_blank b then 1 + reach lines else 0

abbrev pub unmarked : Option Marked → Bool
unmarked None = true
unmarked (Some marked) = false

abbrev pub is_unmarked : List ℕ → Bool
is_unmarked line = unmarked (marker_of line)

abbrev pub is_filled : List ℕ → Bool
is_filled line = not (is_empty line)

-- the blocks of pieces, by whether the line before them is free and the span before them plain
abbrev pub blocks_from : Bool → Bool → List Piece → List Block
blocks_from free among [] = []
blocks_from free among (gap ∷ pieces) = blocks_from true among pieces
blocks_from free among (plain lines ∷ pieces) =
    plain_block (free && is_free pieces) (among && plain_beyond pieces) lines
    ∷ blocks_from false true pieces
blocks_from free among (indented lines ∷ pieces) =
    indented_block lines ∷ blocks_from false false pieces

-- definitions before others, if those are there
abbrev pub with_done : List LinkDef → Option (List LinkDef) → Option (List LinkDef)
with_done done None = None
with_done done (Some more) = Some (done ++ more)

-- how many lines go on the span that begins with a line; after an empty line none does
abbrev pub span_len : List ℕ → List (List ℕ) → ℕ
span_len line after =
    if is_plain line then prefix_len is_plain after
    else (if is_empty line then 0 else reach after)

-- the block of a span that begins with a line, before these pieces
abbrev pub span_block : Bool → Bool → List ℕ → List (List ℕ) → List Piece → Block
span_block free among line span pieces =
    if is_plain line then plain_block (free && is_free pieces) (among && plain_beyond pieces) span
    else indented_block span

-- the block of a span that begins with a line, and nothing for an empty line
abbrev pub block_at : Bool → Bool → List ℕ → List (List ℕ) → List Piece → List Block
block_at free among [] span pieces = []
block_at free among (b ∷ line) span pieces = span_block free among (b ∷ line) span pieces ∷ []

-- the item that begins with a line and continues with these, if the line has a marker
abbrev pub item_at : Option Marked → List (List ℕ) → List Item
item_at None more = []
item_at (Some marked) more = item_of marked more ∷ []

-- the paragraph of lines that begin with a line, and nothing for an empty line
abbrev pub paragraph_at : List ℕ → List (List ℕ) → List (List ℕ)
paragraph_at [] lines = []
paragraph_at (b ∷ line) lines = item_paragraph lines ∷ []
