-- Cited by public clauses. The links and the plain text that a text consists of (Go Doc Comments,
-- "Links" and "Doc links").
use Rattle.std.specs.Prelude.{◌≡◌, ℕ, ◌+◌, ◌<◌, ◌≤◌, List, [], ◌∷◌, ◌++◌, length, drop, Option}
use Rattle.comment_blocks.specs.declared.block.LinkDef.{LinkDef}
use Rattle.comment_links.specs.declared.part.Inline.{Inline}
use Rattle.comment_links.specs.declared.part.Inline.TheVariants as inlines
use Rattle.comment_links.specs.Marks.{Mark, IsMark}

-- plain text before inlines, joined with the plain text that they may begin with
abbrev pub with_plain : List ℕ → List Inline → List Inline
with_plain [] others = others
with_plain (b ∷ text) (inlines.Plain next ∷ others) = inlines.Plain ((b ∷ text) ++ next) ∷ others
with_plain (b ∷ text) others = inlines.Plain (b ∷ text) ∷ others

-- what a mark becomes, before inlines
abbrev pub with_inline : Inline → List Inline → List Inline
with_inline (inlines.Plain text) others = with_plain text others
with_inline (inlines.Link text href) others = inlines.Link text href ∷ others

-- where a mark ends
abbrev pub end_of : Mark → ℕ
end_of mark = length mark.before + length mark.written

module _ (links : List LinkDef) (address_of : List ℕ → Option (List ℕ)) (text : List ℕ) where
  -- a mark of the text
  pub record IsMarkHere (mark : Mark) : Type 0 where
    pub whole : text ≡ mark.before ++ (mark.written ++ mark.after)
    pub rule : IsMark links address_of mark

  -- the leftmost mark that begins at a place or after it
  pub record IsLeftmost (from : ℕ) (mark : Mark) : Type 0 where
    pub here : IsMarkHere mark
    pub behind : from ≤ length mark.before
    pub leftmost : (other : Mark) → IsMarkHere other → from ≤ length other.before
        → length mark.before ≤ length other.before

  -- the first mark is the leftmost from a place on, and each other the leftmost from the end of the
  -- one before it on; after the last there is none
  abbrev pub AreMarks : ℕ → List Mark → Type 0
  AreMarks from [] = (other : Mark) → IsMarkHere other → length other.before < from
  AreMarks from (mark ∷ marks) = IsLeftmost from mark × AreMarks (end_of mark) marks

  -- what marks become, and all between them as plain text
  abbrev pub inlines_with : ℕ → List Mark → List Inline
  inlines_with from [] = with_plain (drop from text) []
  inlines_with from (mark ∷ marks) = with_plain (drop from mark.before)
      (with_inline mark.inline (inlines_with (end_of mark) marks))

  -- the inlines of the text
  pub record AreInlines (inlines : List Inline) : Type 0 where
    pub marks : List Mark
    pub are_marks : AreMarks 0 marks
    pub are_all : inlines ≡ inlines_with 0 marks
