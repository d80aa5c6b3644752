-- Inlines that grow, and what is left of a text.
use Rattle.std.proofs.Common.{◌≡◌, ℕ, ◌+◌, ◌-◌, ◌≤◌, List, [], ◌∷◌, ◌++◌, length, take, drop}
use Rattle.std.proofs.Common.{Option}
use Rattle.std.proofs.Common.{refl, sym, ◌∙◌, ap, append_assoc, arith}
use Rattle.comment_links.specs.declared.part.Inline.{Inline}
use Rattle.comment_links.specs.declared.part.Inline.TheVariants as inlines
use Rattle.comment_links.specs.Inlines.{with_inline, with_plain}
use Rattle.comment_blocks.specs.declared.block.LinkDef.{LinkDef}
use Rattle.comment_links.specs.declared.found.Found.{Found}
use Rattle.comment_links.specs.InlineSteps.{Grown, HasNone, IsNext, inlines_from, whole, with_part}
use Rattle.comment_links.specs.InlineSteps.{with_text}
use Rattle.comment_links.proofs.Lists.{all_plain}
use Rattle.comment_links.proofs.Steps.{mark_step, plain_steps, with_plain-append}

-- plain text more
pub text_more : (grown : Grown) (text : List ℕ) (others : List Inline)
    → whole (with_text grown text) others ≡ whole grown (with_plain text others)
text_more grown text others =
    ap (λ is. grown.done ++ is) (sym (with_plain-append grown.plain text others))

link_behind : (plain text href : List ℕ) (others : List Inline)
    → with_plain plain [] ++ inlines.Link text href ∷ others
    ≡ with_plain plain (inlines.Link text href ∷ others)
link_behind [] text href others = refl
link_behind (b ∷ plain) text href others = refl

-- a part more
pub part_more : (grown : Grown) (part : Inline) (others : List Inline)
    → whole (with_part grown part) others ≡ whole grown (with_inline part others)
part_more grown (inlines.Plain text) others = text_more grown text others
part_more grown (inlines.Link text href) others =
    append_assoc (grown.done ++ with_plain grown.plain []) (inlines.Link text href ∷ []) others
    ∙ append_assoc grown.done (with_plain grown.plain []) (inlines.Link text href ∷ others)
    ∙ ap (λ is. grown.done ++ is) (link_behind grown.plain text href others)

module _ (links : List LinkDef) (address_of : List ℕ → Option (List ℕ)) (text : List ℕ) where
  -- plain text and a mark more
  pub mark_more : (from start : ℕ) (found : Found) (grown middle after : Grown) (piece : List ℕ)
      → IsNext links address_of text from start found
      → piece ≡ take (start - from) (drop from text) → middle ≡ with_text grown piece
      → after ≡ with_part middle found.inline
      → whole after (inlines_from links address_of text (start + found.len))
      ≡ whole grown (inlines_from links address_of text from)
  mark_more from start found grown middle after piece next piece_is middle_is after_is =
      let behind = inlines_from links address_of text (start + found.len) in
      let here = inlines_from links address_of text start in
      let count = start - from in
      let end : from + count ≡ start = omega (arith, next.behind) in
      let step = mark_step links address_of text start found next.within next.some next.here in
      let run = plain_steps links address_of text count from
      (omega (arith, next.within, next.behind))
      (λ k le lt. next.none k le (omega (arith, end))) in
      ap (λ g. whole g behind) after_is
      ∙ part_more middle found.inline behind
      ∙ ap (whole middle) (sym step)
      ∙ ap (λ g. whole g here) middle_is
      ∙ text_more grown piece here
      ∙ ap (λ t. whole grown (with_plain t here)) piece_is
      ∙ ap (λ n. whole grown (with_plain (take count (drop from text))
      (inlines_from links address_of text n))) (sym end)
      ∙ ap (whole grown) (sym run)

  -- the plain text at the end
  pub end_more : (from : ℕ) (grown after : Grown) (piece : List ℕ) → from ≤ length text
      → HasNone links address_of text from (length text) → piece ≡ drop from text
      → after ≡ with_text grown piece
      → whole after [] ≡ whole grown (inlines_from links address_of text from)
  end_more from grown after piece within none piece_is after_is =
      ap (λ g. whole g []) after_is
      ∙ text_more grown piece []
      ∙ ap (λ t. whole grown (with_plain t [])) piece_is
      ∙ ap (whole grown) (sym (all_plain links address_of text from within none))
