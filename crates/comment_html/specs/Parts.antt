-- Cited by public clauses. What the HTML of a comment is made of: tags, which nest, and escaped
-- texts.
use Rattle.std.specs.Prelude.{◌≡◌, ℕ, Bool, true, false, ◌&&◌, not, List, [], ◌∷◌, ◌++◌, codes}
use Rattle.std.specs.Prelude.{IsTrue, Option}
use Rattle.std.specs.List.{flat_map}
use Rattle.text_out.specs.Escape.{escaped}
use Rattle.comment_blocks.specs.declared.block.Block.{Block}
use Rattle.comment_blocks.specs.declared.block.Block.TheVariants.{Code, Heading, Links, Paragraph}
use Rattle.comment_blocks.specs.declared.block.Block.TheVariants as blocks
use Rattle.comment_blocks.specs.declared.block.Item.{Item}
use Rattle.comment_blocks.specs.declared.block.LinkDef.{LinkDef}
use Rattle.comment_blocks.specs.Spans.{is_empty}
use Rattle.comment_links.specs.declared.part.Inline.{Inline}
use Rattle.comment_links.specs.declared.part.Inline.TheVariants.{Link, Plain}
use Rattle.comment_links.specs.InlinesOf.{inlines_of}
use Rattle.comment_html.specs.Html.{definitions_of}

-- the elements that blocks and items are
pub data Element : Type 0 where
  paragraph heading code unnumbered_list numbered_list item : Element

abbrev pub start_tag : Element → List ℕ
start_tag paragraph = codes "<p>"
start_tag heading = codes "<h4>"
start_tag code = codes "<pre>"
start_tag unnumbered_list = codes "<ul>"
start_tag numbered_list = codes "<ol>"
start_tag item = codes "<li>"

abbrev pub end_tag : Element → List ℕ
end_tag paragraph = codes "</p>"
end_tag heading = codes "</h4>"
end_tag code = codes "</pre>"
end_tag unnumbered_list = codes "</ul>"
end_tag numbered_list = codes "</ol>"
end_tag item = codes "</li>"

-- a part: a tag, the start of an item with its number, a link, a text, or the end of a line
pub data Part : Type 0 where
  starts ends : Element → Part
  starts_item : List ℕ → Part
  links_to : List ℕ → List ℕ → Part
  says : List ℕ → Part
  ends_line : Part

-- the bytes of a part: every text in it is escaped, and stands between tags or in quotation marks
abbrev pub part_bytes : Part → List ℕ
part_bytes (starts element) = start_tag element
part_bytes (ends element) = end_tag element
part_bytes (starts_item number) = codes "<li value=\"" ++ escaped number ++ codes "\">"
part_bytes (links_to text href) =
    codes "<a href=\"" ++ escaped href ++ codes "\">" ++ escaped text ++ codes "</a>"
part_bytes (says text) = escaped text
part_bytes ends_line = codes "\n"

abbrev pub same_element : Element → Element → Bool
same_element paragraph paragraph = true
same_element heading heading = true
same_element code code = true
same_element unnumbered_list unnumbered_list = true
same_element numbered_list numbered_list = true
same_element item item = true
same_element _ _ = false

-- the innermost of the elements that are open is this one; and the others
abbrev pub is_innermost : Element → List Element → Bool
is_innermost element [] = false
is_innermost element (innermost ∷ outer) = same_element element innermost

abbrev pub outer_of : List Element → List Element
outer_of [] = []
outer_of (innermost ∷ outer) = outer

abbrev pub none_open : List Element → Bool
none_open [] = true
none_open (element ∷ outer) = false

-- the parts end the elements that are open, the innermost first, and each element that they start
abbrev pub are_nested : List Part → List Element → Bool
are_nested [] opened = none_open opened
are_nested (starts element ∷ parts) opened = are_nested parts (element ∷ opened)
are_nested (starts_item number ∷ parts) opened = are_nested parts (item ∷ opened)
are_nested (ends element ∷ parts) opened =
    is_innermost element opened && are_nested parts (outer_of opened)
are_nested (links_to text href ∷ parts) opened = are_nested parts opened
are_nested (says text ∷ parts) opened = are_nested parts opened
are_nested (ends_line ∷ parts) opened = are_nested parts opened

-- parts between the start and the end of an element
abbrev pub within : Element → List Part → List Part
within element parts = starts element ∷ (parts ++ ends element ∷ [])

-- the same for an item with its number
abbrev pub within_numbered : List ℕ → List Part → List Part
within_numbered number parts = starts_item number ∷ (parts ++ ends item ∷ [])

abbrev pub with_line_end : List Part → List Part
with_line_end parts = parts ++ ends_line ∷ []

abbrev pub inline_parts : Inline → List Part
inline_parts (Plain text) = says text ∷ []
inline_parts (Link text href) = links_to text href ∷ []

module _ (links : List LinkDef) (names : List ℕ → Option (List ℕ)) where
  abbrev pub text_parts : List ℕ → List Part
  text_parts text = flat_map inline_parts (inlines_of links names text)

  abbrev pub paragraph_parts : List ℕ → List Part
  paragraph_parts text = within paragraph (text_parts text)

  abbrev pub paragraphs_parts : List (List ℕ) → List Part
  paragraphs_parts (text ∷ []) = text_parts text
  paragraphs_parts paragraphs = flat_map paragraph_parts paragraphs

  -- an item, whose start has its number or not
  abbrev pub item_parts_by : Bool → Item → List Part
  item_parts_by true it =
      with_line_end (within_numbered it.number (paragraphs_parts it.paragraphs))
  item_parts_by false it = with_line_end (within item (paragraphs_parts it.paragraphs))

  abbrev pub item_parts : Bool → Item → List Part
  item_parts numbered it = item_parts_by (numbered && not (is_empty it.number)) it

  abbrev pub list_element : Bool → Element
  list_element true = numbered_list
  list_element false = unnumbered_list

  abbrev pub block_parts : Block → List Part
  block_parts (Paragraph text) = with_line_end (within paragraph (text_parts text))
  block_parts (Heading text) = with_line_end (within heading (text_parts text))
  block_parts (Code text) = with_line_end (within code (says text ∷ []))
  block_parts (blocks.List numbered items) = with_line_end
      (within (list_element numbered) (ends_line ∷ flat_map (item_parts numbered) items))
  block_parts (Links definitions) = []

-- the parts that blocks are, by their kinds: a text, an address or a number stands in no part but
-- one that escapes it
abbrev pub parts_of : List Block → (List ℕ → Option (List ℕ)) → List Part
parts_of all names = flat_map (block_parts (definitions_of all) names) all

-- bytes that are the parts of blocks, one after another, whose elements nest
pub record IsMarkup (all : List Block) (names : List ℕ → Option (List ℕ)) (html : List ℕ) : Type 0
  where
    pub whole : html ≡ flat_map part_bytes (parts_of all names)
    pub nested : IsTrue (are_nested (parts_of all names) [])
