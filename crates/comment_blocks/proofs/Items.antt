-- The items and paragraphs of a list, from the front.
use Rattle.std.proofs.Common.{◌≡◌, ℕ, suc, ◌+◌, List, [], ◌∷◌, ◌++◌, take, drop, Option, Some, None}
use Rattle.std.proofs.Common.{refl, sym, ◌∙◌, ap, subst, cond, arith, map, max, append_assoc}
use Rattle.std.specs.Prelude.{filter}
use Rattle.std.specs.List.{onto_first, prefix_len, slice_split}
use Rattle.std.proofs.lemmas.List.{append-nil}
use Rattle.std.proofs.lemmas.List.Splits.{slice_split-cons_no, slice_split-cons_yes}
use Rattle.comment_blocks.specs.declared.block.Item.{Item}
use Rattle.comment_blocks.specs.Spans.{is_empty}
use Rattle.comment_blocks.specs.Lists.{cut_at_markers, has_lines, item_of, item_paragraph}
use Rattle.comment_blocks.specs.Lists.{item_paragraphs, items_of, Marked, marker_of, with_item_line}
use Rattle.comment_blocks.specs.LineSteps.{is_filled, is_unmarked, item_at, paragraph_at, unmarked}

abbrev Line : Type 0
Line = List ℕ

-- the lines before the first marker, and the items after them
abbrev Front : List Line → ℕ → List Line × List Item → Type 0
Front lines n cut = (cut.0 ≡ take n lines) × (cut.1 ≡ items_of (drop n lines))

front_step : (o : Option Marked) (line : Line) (lines : List Line) (n : ℕ) → marker_of line ≡ o
    → Front lines n (cut_at_markers lines)
    → Front (line ∷ lines) (cond (unmarked o) (1 + n) 0)
    (with_item_line o line (cut_at_markers lines))
front_step None line lines n is front =
    let more : suc n ≡ 1 + n = omega arith in
    subst (λ m. Front (line ∷ lines) m (with_item_line None line (cut_at_markers lines))) more
    (ap (λ ls. line ∷ ls) front.0, front.1)
front_step (Some marked) line lines n is front =
    (refl, ap (λ (o : Option Marked). (with_item_line o line (cut_at_markers lines)).1) (sym is))

pub cut_front : (lines : List Line)
    → Front lines (prefix_len is_unmarked lines) (cut_at_markers lines)
cut_front [] = (refl, refl)
cut_front (line ∷ lines) = front_step (marker_of line) line lines (prefix_len is_unmarked lines)
    refl (cut_front lines)

pub items_marked : (line : Line) (lines : List Line) (marked : Marked) → marker_of line
    ≡ Some marked
    → items_of (line ∷ lines) ≡ item_of marked
    (take (prefix_len is_unmarked lines) lines) ∷ items_of
    (drop (prefix_len is_unmarked lines) lines)
items_marked line lines marked is =
    ap (λ (o : Option Marked). (with_item_line o line (cut_at_markers lines)).1) is
    ∙ ap (λ ls. item_of marked ls ∷ (cut_at_markers lines).1) (cut_front lines).0
    ∙ ap (λ items. item_of marked (take (prefix_len is_unmarked lines) lines) ∷ items)
    (cut_front lines).1

pub items_unmarked : (line : Line) (lines : List Line) → marker_of line ≡ None
    → items_of (line ∷ lines) ≡ items_of lines
items_unmarked line lines is =
    ap (λ (o : Option Marked). (with_item_line o line (cut_at_markers lines)).1) is

-- the parts after the first
abbrev later_parts : List Line → List (List Line)
later_parts [] = []
later_parts (line ∷ lines) = slice_split is_empty lines

abbrev SplitsAt : List Line → ℕ → Type 0
SplitsAt lines n = slice_split is_empty lines ≡ take n lines ∷ later_parts (drop n lines)

split_front : (lines : List Line) → SplitsAt lines (prefix_len is_filled lines)
split_front [] = refl
split_front ([] ∷ lines) = slice_split-cons_yes is_empty [] lines refl
split_front ((b ∷ line) ∷ lines) =
    let n = prefix_len is_filled lines in
    let more : suc n ≡ 1 + n = omega arith in
    subst (SplitsAt ((b ∷ line) ∷ lines)) more
    (slice_split-cons_no is_empty (b ∷ line) lines refl
    ∙ ap (onto_first (b ∷ line)) (split_front lines))

-- the paragraphs of parts
abbrev paragraphs_in : List (List Line) → List Line
paragraphs_in parts = map item_paragraph (filter has_lines parts)

abbrev LaterIs : List Line → ℕ → Type 0
LaterIs lines n = paragraphs_in (later_parts (drop n lines)) ≡ item_paragraphs (drop n lines)

later_is : (lines : List Line) → LaterIs lines (prefix_len is_filled lines)
later_is [] = refl
later_is ([] ∷ lines) = ap paragraphs_in (sym (slice_split-cons_yes is_empty [] lines refl))
later_is ((b ∷ line) ∷ lines) =
    let more : suc (prefix_len is_filled lines) ≡ 1 + prefix_len is_filled lines = omega arith in
    subst (LaterIs ((b ∷ line) ∷ lines)) more (later_is lines)

pub paragraph_first : (b : ℕ) (line : Line) (lines : List Line)
    → item_paragraphs ((b ∷ line) ∷ lines)
    ≡ item_paragraph ((b ∷ line) ∷ take (prefix_len is_filled lines) lines) ∷ item_paragraphs
    (drop (prefix_len is_filled lines) lines)
paragraph_first b line lines =
    let n = prefix_len is_filled lines in
    ap paragraphs_in (slice_split-cons_no is_empty (b ∷ line) lines refl
    ∙ ap (onto_first (b ∷ line)) (split_front lines))
    ∙ ap (λ ls. item_paragraph ((b ∷ line) ∷ take n lines) ∷ ls) (later_is lines)

pub paragraphs_empty : (lines : List Line) → item_paragraphs ([] ∷ lines) ≡ item_paragraphs lines
paragraphs_empty lines = ap paragraphs_in (slice_split-cons_yes is_empty [] lines refl)

items_by : (done : List Item) (line : Line) (after : List Line) (o : Option Marked) → marker_of line
    ≡ o
    → (done ++ item_at o (take (prefix_len is_unmarked after) after)) ++ items_of
    (drop (prefix_len is_unmarked after) after)
    ≡ done ++ items_of (line ∷ after)
items_by done line after None is =
    ap (λ ls. ls ++ items_of (drop (prefix_len is_unmarked after) after)) (append-nil done)
    ∙ ap (λ ls. done ++ ls) (sym (items_unmarked line after is ∙ (cut_front after).1))
items_by done line after (Some marked) is =
    append_assoc done (item_of marked (take (prefix_len is_unmarked after) after) ∷ [])
    (items_of (drop (prefix_len is_unmarked after) after))
    ∙ ap (λ ls. done ++ ls) (sym (items_marked line after marked is))

-- what a line and those up to the next marker add
pub items_step : (done : List Item) (line : Line) (after : List Line)
    → (done ++ item_at (marker_of line) (take (prefix_len is_unmarked after) after)) ++ items_of
    (drop (prefix_len is_unmarked after) after)
    ≡ done ++ items_of (line ∷ after)
items_step done line after = items_by done line after (marker_of line) refl

-- what lines up to the next empty one add
pub paragraphs_step : (done : List Line) (line : Line) (after : List Line)
    → (done ++ paragraph_at line
    (take (max (prefix_len is_filled (line ∷ after)) 1) (line ∷ after)))
    ++ item_paragraphs (drop (max (prefix_len is_filled (line ∷ after)) 1) (line ∷ after))
    ≡ done ++ item_paragraphs (line ∷ after)
paragraphs_step done [] after =
    ap (λ ls. ls ++ item_paragraphs after) (append-nil done)
    ∙ ap (λ ls. done ++ ls) (sym (paragraphs_empty after))
paragraphs_step done (b ∷ line) after =
    let n = prefix_len is_filled after in
    let most : max (1 + n) 1 ≡ suc n = omega arith in
    subst (λ m. (done ++ item_paragraph (take m ((b ∷ line) ∷ after)) ∷ []) ++ item_paragraphs
    (drop m ((b ∷ line) ∷ after)) ≡ done ++ item_paragraphs ((b ∷ line) ∷ after)) (sym most)
    (append_assoc done (item_paragraph ((b ∷ line) ∷ take n after) ∷ [])
    (item_paragraphs (drop n after))
    ∙ ap (λ ls. done ++ ls) (sym (paragraph_first b line after)))
