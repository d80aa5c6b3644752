-- The HTML of blocks is made of parts whose elements nest.
use Rattle.std.proofs.Common.{◌≡◌, ℕ, Bool, true, false, List, [], ◌∷◌, ◌++◌, refl, sym, ◌∙◌, ap}
use Rattle.std.proofs.Common.{append_assoc, subst, Option}
use Rattle.std.specs.Prelude.{codes, ◌&&◌, not, if◌then◌else◌}
use Rattle.std.specs.List.{flat_map}
use Rattle.std.proofs.lemmas.Grind.{flat_map-append}
use Rattle.std.proofs.lemmas.List.{append-nil}
use Rattle.text_out.specs.Escape.{escaped}
use Rattle.comment_blocks.specs.declared.block.Block.{Block}
use Rattle.comment_blocks.specs.declared.block.Block.TheVariants.{Code, Heading, Links, Paragraph}
use Rattle.comment_blocks.specs.declared.block.Block.TheVariants as blocks
use Rattle.comment_blocks.specs.declared.block.Item.{Item}
use Rattle.comment_blocks.specs.declared.block.LinkDef.{LinkDef}
use Rattle.comment_blocks.specs.Spans.{is_empty}
use Rattle.comment_links.specs.declared.part.Inline.{Inline}
use Rattle.comment_links.specs.declared.part.Inline.TheVariants.{Link, Plain}
use Rattle.comment_links.specs.InlinesOf.{inlines_of}
use Rattle.comment_html.specs.Html.{block_html, code_html, definitions_of, heading_html, html_of}
use Rattle.comment_html.specs.Html.{inline_html, inlines_html, item_html, link_html}
use Rattle.comment_html.specs.Html.{list_end, list_html, list_start, paragraph_block_html}
use Rattle.comment_html.specs.Html.{value_tag}
use Rattle.comment_html.specs.Html.{paragraph_html, paragraphs_html}
use Rattle.comment_html.specs.Parts.{Element, Part, IsMarkup, are_nested, code, end_tag, ends}
use Rattle.comment_html.specs.Parts.{ends_line, heading, item, links_to, numbered_list}
use Rattle.comment_html.specs.Parts.{paragraph, part_bytes, same_element, says}
use Rattle.comment_html.specs.Parts.{start_tag, starts, starts_item, unnumbered_list}
use Rattle.comment_html.specs.Parts.{block_parts, inline_parts, item_parts, item_parts_by}
use Rattle.comment_html.specs.Parts.{paragraph_parts, paragraphs_parts, text_parts, with_line_end}
use Rattle.comment_html.specs.Parts as parts

-- bytes that are parts which leave the elements that are open as they are
record IsClosed (bytes : List ℕ) (made : List Part) : Type 0 where
  whole : bytes ≡ flat_map part_bytes made
  nest : (more : List Part) (opened : List Element) → are_nested (made ++ more) opened
      ≡ are_nested more opened

nothing : IsClosed [] []
nothing = record { whole = refl; nest = λ more opened. refl }

both : (a b : List ℕ) (p q : List Part) → IsClosed a p → IsClosed b q → IsClosed (a ++ b) (p ++ q)
both a b p q first second = record {
  whole = ap (λ t. t ++ b) first.whole ∙ ap (λ t. flat_map part_bytes p ++ t) second.whole
      ∙ sym (flat_map-append part_bytes p q);
  nest = λ more opened.
      ap (λ made. are_nested made opened) (append_assoc p q more)
      ∙ first.nest (q ++ more) opened ∙ second.nest more opened;
}

same : (element : Element) → same_element element element ≡ true
same paragraph = refl
same heading = refl
same code = refl
same unnumbered_list = refl
same numbered_list = refl
same item = refl

-- the end of an element that is the innermost
ended : (element : Element) (more : List Part) (opened : List Element)
    → are_nested (ends element ∷ more) (element ∷ opened) ≡ are_nested more opened
ended element more opened = ap (λ b. b && are_nested more opened) (same element)

-- the end of an element after what stands in it, and the end of a line if one follows
before_end : (element : Element) (a : List ℕ) (p : List Part) → IsClosed a p → (more : List Part)
    (opened : List Element)
    → are_nested ((p ++ ends element ∷ []) ++ more) (element ∷ opened) ≡ are_nested more opened
before_end element a p closed more opened =
    ap (λ made. are_nested made (element ∷ opened)) (append_assoc p (ends element ∷ []) more)
    ∙ closed.nest (ends element ∷ more) (element ∷ opened) ∙ ended element more opened

bytes_before_end : (element : Element) (a : List ℕ) (p : List Part) → IsClosed a p
    → a ++ end_tag element ≡ flat_map part_bytes (p ++ ends element ∷ [])
bytes_before_end element a p closed =
    ap (λ t. t ++ end_tag element) closed.whole
    ∙ ap (λ t. flat_map part_bytes p ++ t) (sym (append-nil (end_tag element)))
    ∙ sym (flat_map-append part_bytes p (ends element ∷ []))

within : (element : Element) (a : List ℕ) (p : List Part) → IsClosed a p
    → IsClosed ((start_tag element ++ a) ++ end_tag element) (parts.within element p)
within element a p closed = record {
  whole = append_assoc (start_tag element) a (end_tag element)
      ∙ ap (λ t. start_tag element ++ t) (bytes_before_end element a p closed);
  nest = λ more opened. before_end element a p closed more opened;
}

within_numbered : (number a : List ℕ) (p : List Part) → IsClosed a p
    → IsClosed ((part_bytes (starts_item number) ++ a) ++ end_tag item)
    (parts.within_numbered number p)
within_numbered number a p closed = record {
  whole = append_assoc (part_bytes (starts_item number)) a (end_tag item)
      ∙ ap (λ t. part_bytes (starts_item number) ++ t) (bytes_before_end item a p closed);
  nest = λ more opened. before_end item a p closed more opened;
}

line_end : IsClosed (codes "\n") (ends_line ∷ [])
line_end = record { whole = refl; nest = λ more opened. refl }

-- with the end of the line
then_line : (a b c : List ℕ) (p : List Part) → IsClosed ((a ++ b) ++ c) p
    → IsClosed ((a ++ b) ++ (c ++ codes "\n")) (with_line_end p)
then_line a b c p closed =
    subst (λ bytes. IsClosed bytes (with_line_end p)) (append_assoc (a ++ b) c (codes "\n"))
    (both ((a ++ b) ++ c) (codes "\n") p (ends_line ∷ []) closed line_end)

said : (text : List ℕ) → IsClosed (escaped text) (says text ∷ [])
said text = record { whole = sym (append-nil (escaped text)); nest = λ more opened. refl }

linked : (text href : List ℕ) → IsClosed (link_html text href) (links_to text href ∷ [])
unfolding link_html
linked text href = record {
  whole = sym (append-nil (part_bytes (links_to text href)));
  nest = λ more opened. refl;
}

all_closed : {A : Type 0} (f : A → List ℕ) (g : A → List Part) → ((x : A) → IsClosed (f x) (g x))
    → (xs : List A) → IsClosed (flat_map f xs) (flat_map g xs)
all_closed f g each [] = nothing
all_closed f g each (x ∷ xs) =
    both (f x) (flat_map f xs) (g x) (flat_map g xs) (each x) (all_closed f g each xs)

inline_closed : (inline : Inline) → IsClosed (inline_html inline) (inline_parts inline)
inline_closed (Plain text) = said text
inline_closed (Link text href) = linked text href

abbrev Names : Type 0
Names = List ℕ → Option (List ℕ)

inlines_closed : (links : List LinkDef) (names : Names) (text : List ℕ)
    → IsClosed (inlines_html links names text) (text_parts links names text)
unfolding inlines_html
inlines_closed links names text =
    all_closed inline_html inline_parts inline_closed (inlines_of links names text)

paragraph_closed : (links : List LinkDef) (names : Names) (text : List ℕ)
    → IsClosed (paragraph_html links names text) (paragraph_parts links names text)
unfolding paragraph_html
paragraph_closed links names text =
    within paragraph (inlines_html links names text) (text_parts links names text)
    (inlines_closed links names text)

paragraphs_closed : (links : List LinkDef) (names : Names) (paragraphs : List (List ℕ))
    → IsClosed (paragraphs_html links names paragraphs) (paragraphs_parts links names paragraphs)
paragraphs_closed links names [] = nothing
paragraphs_closed links names (text ∷ []) = inlines_closed links names text
paragraphs_closed links names (text ∷ next ∷ paragraphs) =
    all_closed (paragraph_html links names) (paragraph_parts links names)
    (paragraph_closed links names) (text ∷ next ∷ paragraphs)

-- an item, whose start has its number or not
item_closed_by : (links : List LinkDef) (names : Names) (b : Bool) (it : Item)
    → IsClosed (((if b then value_tag it.number else codes "<li>")
    ++ paragraphs_html links names it.paragraphs) ++ codes "</li>\n")
    (item_parts_by links names b it)
unfolding value_tag
item_closed_by links names true it =
    let inside = paragraphs_html links names it.paragraphs in
    let made = paragraphs_parts links names it.paragraphs in
    then_line (part_bytes (starts_item it.number)) inside (end_tag item)
    (parts.within_numbered it.number made)
    (within_numbered it.number inside made (paragraphs_closed links names it.paragraphs))
item_closed_by links names false it =
    let inside = paragraphs_html links names it.paragraphs in
    let made = paragraphs_parts links names it.paragraphs in
    then_line (start_tag item) inside (end_tag item) (parts.within item made)
    (within item inside made (paragraphs_closed links names it.paragraphs))

item_closed : (links : List LinkDef) (names : Names) (numbered : Bool) (it : Item)
    → IsClosed (item_html links names numbered it) (item_parts links names numbered it)
unfolding item_html
item_closed links names numbered it =
    item_closed_by links names (numbered && not (is_empty it.number)) it

items_closed : (links : List LinkDef) (names : Names) (numbered : Bool) (items : List Item)
    → IsClosed (codes "\n" ++ flat_map (item_html links names numbered) items)
    (ends_line ∷ flat_map (item_parts links names numbered) items)
items_closed links names numbered items =
    both (codes "\n") (flat_map (item_html links names numbered) items) (ends_line ∷ [])
    (flat_map (item_parts links names numbered) items) line_end
    (all_closed (item_html links names numbered) (item_parts links names numbered)
    (item_closed links names numbered) items)

list_closed : (links : List LinkDef) (names : Names) (numbered : Bool) (items : List Item)
    → IsClosed (list_html links names numbered items)
    (block_parts links names (blocks.List numbered items))
unfolding list_html list_start list_end
list_closed links names true items =
    let inside = flat_map (item_html links names true) items in
    let made = ends_line ∷ flat_map (item_parts links names true) items in
    then_line (start_tag numbered_list) (codes "\n" ++ inside) (end_tag numbered_list)
    (parts.within numbered_list made)
    (within numbered_list (codes "\n" ++ inside) made (items_closed links names true items))
list_closed links names false items =
    let inside = flat_map (item_html links names false) items in
    let made = ends_line ∷ flat_map (item_parts links names false) items in
    then_line (start_tag unnumbered_list) (codes "\n" ++ inside) (end_tag unnumbered_list)
    (parts.within unnumbered_list made)
    (within unnumbered_list (codes "\n" ++ inside) made (items_closed links names false items))

block_closed : (links : List LinkDef) (names : Names) (block : Block)
    → IsClosed (block_html links names block) (block_parts links names block)
unfolding paragraph_block_html heading_html code_html
block_closed links names (Paragraph text) =
    let inside = inlines_html links names text in
    let made = text_parts links names text in
    then_line (start_tag paragraph) inside (end_tag paragraph) (parts.within paragraph made)
    (within paragraph inside made (inlines_closed links names text))
block_closed links names (Heading text) =
    let inside = inlines_html links names text in
    let made = text_parts links names text in
    then_line (start_tag heading) inside (end_tag heading) (parts.within heading made)
    (within heading inside made (inlines_closed links names text))
block_closed links names (Code text) =
    then_line (start_tag code) (escaped text) (end_tag code) (parts.within code (says text ∷ []))
    (within code (escaped text) (says text ∷ []) (said text))
block_closed links names (blocks.List numbered items) = list_closed links names numbered items
block_closed links names (Links definitions) = nothing

pub is_markup : (all : List Block) (names : Names) → IsMarkup all names (html_of all names)
is_markup all names =
    let links = definitions_of all in
    let made = flat_map (block_parts links names) all in
    let closed = all_closed (block_html links names) (block_parts links names)
    (block_closed links names) all in
    record {
      whole = closed.whole;
      nested = ap (λ made. are_nested made []) (sym (append-nil made)) ∙ closed.nest [] [];
    }
