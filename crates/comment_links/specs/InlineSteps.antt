-- Cited by private clauses and proofs. Inlines that grow, and what the code looks for ahead.
use Rattle.std.specs.Prelude.{◌≡◌, ℕ, ◌+◌, ◌≤◌, ◌<◌, Bool, ◌||◌, ◌==◌, List, [], ◌∷◌, ◌++◌, length}
use Rattle.std.specs.Prelude.{take, drop, slice_index, Option, Some, None, true, false}
use Rattle.std.specs.List.{prefix_len}
use Rattle.comment_blocks.specs.declared.block.LinkDef.{LinkDef}
use Rattle.comment_links.specs.declared.found.Found.{Found}
use Rattle.comment_links.specs.declared.part.Inline.{Inline}
use Rattle.comment_links.specs.declared.part.Inline.TheVariants as inlines
use Rattle.comment_links.specs.Marks.{Mark}
use Rattle.comment_links.specs.Inlines.{with_plain}
use Rattle.comment_links.specs.InlinesOf.{found_at, inlines_behind, is_inside}

-- the mark that is found at the front of a text, and what is found of a mark
abbrev pub mark_of : List ℕ → List ℕ → Found → Mark
mark_of before text found = record {
  before = before;
  written = take found.len text;
  after = drop found.len text;
  inline = found.inline;
}

abbrev pub found_of : Mark → Found
found_of mark = record { inline = mark.inline; len = length mark.written }

-- the first of two URLs that is there
abbrev pub url_or : Option (List ℕ) → Option (List ℕ) → Option (List ℕ)
url_or None other = other
url_or (Some url) other = Some url

-- inlines that are done, and the plain text after them
pub record Grown : Type 0 where
  pub done : List Inline
  pub plain : List ℕ

abbrev pub nothing : Grown
nothing = record { done = []; plain = [] }

-- the whole, with what follows
abbrev pub whole : Grown → List Inline → List Inline
whole grown others = grown.done ++ with_plain grown.plain others

abbrev pub with_text : Grown → List ℕ → Grown
with_text grown text = record { done = grown.done; plain = grown.plain ++ text }

abbrev pub with_part : Grown → Inline → Grown
with_part grown (inlines.Plain text) = with_text grown text
with_part grown (inlines.Link text href) =
    record { done = whole grown [] ++ inlines.Link text href ∷ []; plain = [] }

-- a byte that a mark may begin with
abbrev pub may_begin : ℕ → Bool
may_begin b = b == 91 || b == 104 || b == 102 || b == 96 || b == 39

-- the first place from a place on where a mark may begin, or the end
pub record IsBegin (text : List ℕ) (from place : ℕ) : Type 0 where
  pub behind : from ≤ place
  pub within : place ≤ length text
  pub none : (k : ℕ) → from ≤ k → k < place → may_begin (slice_index text k) ≡ false
  pub here : place < length text → may_begin (slice_index text place) ≡ true

-- where the next closing bracket from a place on is, or the end
abbrev pub closing_from : List ℕ → ℕ → ℕ
closing_from text place = place + prefix_len is_inside (drop place text)

-- that place, where it isn't reached
abbrev pub IsClosing : List ℕ → ℕ → ℕ → Type 0
IsClosing text place closing = place < closing → closing ≡ closing_from text place

module _ (links : List LinkDef) (address_of : List ℕ → Option (List ℕ)) (text : List ℕ) where
  -- the mark at a place
  abbrev pub found_in : ℕ → Option Found
  found_in place = found_at links address_of (take place text) (drop place text)

  -- the inlines from a place on
  abbrev pub inlines_from : ℕ → List Inline
  inlines_from place = inlines_behind links address_of (take place text) (drop place text) 0

  -- no mark begins from a place on and before another
  abbrev pub HasNone : ℕ → ℕ → Type 0
  HasNone from to = (place : ℕ) → from ≤ place → place < to → found_in place ≡ None

  -- the first mark from a place on, and where it begins
  pub record IsNext (from start : ℕ) (found : Found) : Type 0 where
    pub behind : from ≤ start
    pub none : HasNone from start
    pub within : start + found.len ≤ length text
    pub some : 1 ≤ found.len
    pub here : found_in start ≡ Some found
