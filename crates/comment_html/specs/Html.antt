-- Cited by public clauses. The HTML of a comment's blocks, by their kinds (Go Doc Comments; the
-- HTML standard).
use Rattle.std.specs.Prelude.{ℕ, Bool, ◌&&◌, not, List, [], ◌∷◌, ◌++◌, Option, codes}
use Rattle.std.specs.Prelude.{if◌then◌else◌}
use Rattle.std.specs.List.{flat_map}
use Rattle.text_out.specs.Escape.{escaped}
use Rattle.comment_blocks.specs.declared.block.Block.{Block}
use Rattle.comment_blocks.specs.declared.block.Block.TheVariants.{Code, Heading, Links, Paragraph}
use Rattle.comment_blocks.specs.declared.block.Block.TheVariants as blocks
use Rattle.comment_blocks.specs.declared.block.Item.{Item}
use Rattle.comment_blocks.specs.declared.block.LinkDef.{LinkDef}
use Rattle.comment_blocks.specs.Spans.{is_empty}
use Rattle.comment_links.specs.declared.part.Inline.{Inline}
use Rattle.comment_links.specs.declared.part.Inline.TheVariants.{Link, Plain}
use Rattle.comment_links.specs.InlinesOf.{inlines_of}

-- a plain part is its text, a link an element `a` with its address and its text, all escaped
unfoldable pub link_html : List ℕ → List ℕ → List ℕ
link_html text href =
    codes "<a href=\"" ++ escaped href ++ codes "\">" ++ escaped text ++ codes "</a>"

abbrev pub inline_html : Inline → List ℕ
inline_html (Plain text) = escaped text
inline_html (Link text href) = link_html text href

-- the HTML of a text with its links, by the definitions and the names
unfoldable pub inlines_html : List LinkDef → (List ℕ → Option (List ℕ)) → List ℕ → List ℕ
inlines_html links names text = flat_map inline_html (inlines_of links names text)

unfoldable pub paragraph_html : List LinkDef → (List ℕ → Option (List ℕ)) → List ℕ → List ℕ
paragraph_html links names text = codes "<p>" ++ inlines_html links names text ++ codes "</p>"

-- the paragraphs of an item: one alone without tags
abbrev pub paragraphs_html : List LinkDef → (List ℕ → Option (List ℕ)) → List (List ℕ) → List ℕ
paragraphs_html links names (text ∷ []) = inlines_html links names text
paragraphs_html links names paragraphs = flat_map (paragraph_html links names) paragraphs

unfoldable pub value_tag : List ℕ → List ℕ
value_tag number = codes "<li value=\"" ++ escaped number ++ codes "\">"

-- the tag before an item: with its number, where it has one and the list is numbered
abbrev pub item_tag : Bool → List ℕ → List ℕ
item_tag numbered number =
    if numbered && not (is_empty number) then value_tag number else codes "<li>"

unfoldable pub item_html : List LinkDef → (List ℕ → Option (List ℕ)) → Bool → Item → List ℕ
item_html links names numbered item =
    item_tag numbered item.number ++ paragraphs_html links names item.paragraphs ++ codes "</li>\n"

unfoldable pub list_start : Bool → List ℕ
list_start numbered = if numbered then codes "<ol>\n" else codes "<ul>\n"

unfoldable pub list_end : Bool → List ℕ
list_end numbered = if numbered then codes "</ol>\n" else codes "</ul>\n"

unfoldable pub list_html : List LinkDef → (List ℕ → Option (List ℕ)) → Bool → List Item → List ℕ
list_html links names numbered items =
    list_start numbered ++ flat_map (item_html links names numbered) items ++ list_end numbered

unfoldable pub paragraph_block_html : List LinkDef → (List ℕ → Option (List ℕ)) → List ℕ → List ℕ
paragraph_block_html links names text =
    codes "<p>" ++ inlines_html links names text ++ codes "</p>\n"

unfoldable pub heading_html : List LinkDef → (List ℕ → Option (List ℕ)) → List ℕ → List ℕ
heading_html links names text = codes "<h4>" ++ inlines_html links names text ++ codes "</h4>\n"

unfoldable pub code_html : List ℕ → List ℕ
code_html text = codes "<pre>" ++ escaped text ++ codes "</pre>\n"

-- the HTML of a block, by its kind
abbrev pub block_html : List LinkDef → (List ℕ → Option (List ℕ)) → Block → List ℕ
block_html links names (Paragraph text) = paragraph_block_html links names text
block_html links names (Heading text) = heading_html links names text
block_html links names (Code text) = code_html text
block_html links names (blocks.List numbered items) = list_html links names numbered items
block_html links names (Links definitions) = []

-- the definitions of links among the blocks, in their order
abbrev pub definitions_in : Block → List LinkDef
definitions_in (Links definitions) = definitions
definitions_in _ = []

abbrev pub definitions_of : List Block → List LinkDef
definitions_of all = flat_map definitions_in all

-- the HTML of blocks, where names say which bodies of links have an address
abbrev pub html_of : List Block → (List ℕ → Option (List ℕ)) → List ℕ
html_of all names = flat_map (block_html (definitions_of all) names) all
