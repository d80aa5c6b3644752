-- Cited by public clauses. The plain program that finds the inlines of a text from the front to the
-- end. A law says that what it finds are the inlines of the definition, and no others are.
use Rattle.std.specs.Prelude.{ℕ, zero, suc, ◌+◌, ◌-◌, Bool, not, ◌||◌, ◌&&◌, List, [], ◌∷◌, ◌++◌}
use Rattle.std.specs.Prelude.{length, take, drop, map, if◌then◌else◌, ◌==◌, nat_eq, codes, Option}
use Rattle.std.specs.Prelude.{Some, None}
use Rattle.std.specs.List.{prefix_len, starts_with}
use Rattle.comment_blocks.specs.declared.block.LinkDef.{LinkDef}
use Rattle.comment_blocks.specs.Kinds.{is_in_brackets}
use Rattle.comment_blocks.specs.Spans.{one_further}
use Rattle.comment_links.specs.declared.found.Found.{Found}
use Rattle.comment_links.specs.declared.part.Inline.{Inline}
use Rattle.comment_links.specs.declared.part.Inline.TheVariants as inlines
use Rattle.comment_links.specs.Marks.{as_space, begins_in_name, closing_quote, ends_in_name}
use Rattle.comment_links.specs.Marks.{is_address_byte, is_closing, is_final, opening_quote, url_of}
use Rattle.comment_links.specs.Marks.{without_star}
use Rattle.comment_links.specs.Inlines.{with_inline, with_plain}

-- the first of two that is there
abbrev pub or_else : Option Found → Option Found → Option Found
or_else None other = other
or_else (Some found) other = Some found

-- a link in brackets, if it has an address
abbrev pub bracket_link : List ℕ → Option (List ℕ) → Option Found
bracket_link text None = None
bracket_link text (Some href) =
    Some (record { inline = inlines.Link text href; len = length text + 2 })

-- the defined link with a text, by what stands after the text
abbrev pub defined_behind : List LinkDef → List ℕ → List ℕ → Option Found
defined_behind links text [] = None
defined_behind links text (b ∷ after) =
    if is_closing b then bracket_link text (url_of links (map as_space text)) else None

-- the defined link whose text begins after the opening bracket
abbrev pub defined_link : List LinkDef → List ℕ → Option Found
defined_link links tail =
    defined_behind links
    (take (prefix_len is_in_brackets tail) tail) (drop (prefix_len is_in_brackets tail) tail)

-- the doc link with a body, by what stands before it and after it
abbrev pub doc_with : (List ℕ → Option (List ℕ)) → List ℕ → List ℕ → List ℕ → Option Found
doc_with address_of before body after =
    if ends_in_name before || begins_in_name after then None
    else bracket_link body (address_of (without_star body))

-- the same by what stands after the body
abbrev pub doc_behind : (List ℕ → Option (List ℕ)) → List ℕ → List ℕ → List ℕ → Option Found
doc_behind address_of before body [] = None
doc_behind address_of before body (b ∷ after) =
    if is_closing b then doc_with address_of before body after else None

abbrev pub is_inside : ℕ → Bool
is_inside b = not (is_closing b)

-- the doc link whose body begins after the opening bracket
abbrev pub doc_link : (List ℕ → Option (List ℕ)) → List ℕ → List ℕ → Option Found
doc_link address_of before tail =
    doc_behind address_of before
    (take (prefix_len is_inside tail) tail) (drop (prefix_len is_inside tail) tail)

-- how many bytes of an address stand at the front: those up to the last that isn't final
abbrev pub address_len : List ℕ → ℕ
address_len [] = 0
address_len (b ∷ text) =
    if is_address_byte b
    then (if is_final b then one_further (address_len text) else 1 + address_len text) else 0

-- the link to itself of so many bytes
abbrev pub self_link : List ℕ → Found
self_link address =
    record { inline = inlines.Link address address; len = length address }

-- the address of a scheme's bytes and so many others, if there are others
abbrev pub address_of_len : ℕ → ℕ → List ℕ → Option Found
address_of_len scheme len text =
    if len == 0 then None else Some (self_link (take (scheme + len) text))

-- the address at the front, if it begins with a scheme
abbrev pub address_by : List ℕ → List ℕ → Option Found
address_by scheme text =
    if starts_with nat_eq text scheme
    then address_of_len (length scheme) (address_len (drop (length scheme) text)) text else None

-- the address at the front, by what stands before it
abbrev pub address_at : List ℕ → List ℕ → Option Found
address_at before text =
    if ends_in_name before then None
    else or_else (address_by (codes "http://") text)
    (or_else (address_by (codes "https://") text) (address_by (codes "ftp://") text))

abbrev pub quote_of : List ℕ → Found
quote_of text = record { inline = inlines.Plain text; len = 2 }

-- the quote at the front
abbrev pub quote_at : List ℕ → Option Found
quote_at (a ∷ b ∷ after) =
    if a == 96 && b == 96 then Some (quote_of opening_quote)
    else (if a == 39 && b == 39 then Some (quote_of closing_quote) else None)
quote_at _ = None

module _ (links : List LinkDef) (address_of : List ℕ → Option (List ℕ)) where
  -- the mark at the front of a text, by what stands before it: what it becomes and its length.
  -- Links in brackets begin with "[", the schemes with "h" or "f"
  unfoldable pub found_at : List ℕ → List ℕ → Option Found
  found_at before [] = None
  found_at before (b ∷ tail) =
      if b == 91 then or_else (defined_link links tail) (doc_link address_of before tail)
      else (if b == 104 || b == 102 then address_at before (b ∷ tail) else quote_at (b ∷ tail))

  -- what is left of a mark after its first byte
  abbrev pub left_of : Option Found → ℕ
  left_of None = 0
  left_of (Some found) = found.len - 1

  -- a byte, or the mark that it begins, before inlines
  abbrev pub with_found : ℕ → Option Found → List Inline → List Inline
  with_found b None others = with_plain (b ∷ []) others
  with_found b (Some found) others = with_inline found.inline others

  -- the inlines of a text after another, without its first bytes that belong to a mark
  abbrev pub inlines_behind : List ℕ → List ℕ → ℕ → List Inline
  inlines_behind before [] covered = []
  inlines_behind before (b ∷ text) (suc covered) = inlines_behind (before ++ b ∷ []) text covered
  inlines_behind before (b ∷ text) zero =
      with_found b (found_at before (b ∷ text))
      (inlines_behind (before ++ b ∷ []) text (left_of (found_at before (b ∷ text))))

  -- the inlines of a text
  abbrev pub inlines_of : List ℕ → List Inline
  inlines_of text = inlines_behind [] text 0
