-- The plain program from one place of a text to another.
use Rattle.std.proofs.Common.{◌≡◌, ℕ, zero, suc, ◌+◌, ◌-◌, ◌<◌, ◌≤◌, List, [], ◌∷◌, ◌++◌, length}
use Rattle.std.proofs.Common.{take, drop, get_or, Option, Some, None, refl, sym, ◌∙◌, ap, subst}
use Rattle.std.proofs.Common.{arith, append_assoc}
use Rattle.std.proofs.lemmas.List.{append-nil, drop_more, take_more, length-drop}
use Rattle.std.proofs.lemmas.List.{drop-drop, drop-take}
use Rattle.comment_blocks.specs.declared.block.LinkDef.{LinkDef}
use Rattle.comment_links.specs.declared.found.Found.{Found}
use Rattle.comment_links.specs.declared.part.Inline.{Inline}
use Rattle.comment_links.specs.declared.part.Inline.TheVariants as inlines
use Rattle.comment_links.specs.Inlines.{with_inline, with_plain}
use Rattle.comment_links.specs.InlinesOf.{found_at, inlines_behind, left_of, with_found}
use Rattle.comment_links.specs.InlineSteps.{found_in, inlines_from, HasNone}

take_two : (n m : ℕ) (xs : List ℕ) → take n xs ++ take m (drop n xs) ≡ take (n + m) xs
take_two zero m xs = let same : m ≡ 0 + m = omega arith in ap (λ k. take k xs) same
take_two (suc n) zero [] = let same : suc n ≡ suc n + 0 = omega arith in ap (λ k. take k []) same
take_two (suc n) (suc m) [] = let same : suc (n + suc m) ≡ suc n + suc m = omega arith in
    ap (λ k. take k []) same
take_two (suc n) m (x ∷ xs) = let same : suc (n + m) ≡ suc n + m = omega arith in
    ap (λ t. x ∷ t) (take_two n m xs) ∙ ap (λ k. take k (x ∷ xs)) same

-- plain text in two pieces
pub with_plain-append : (front back : List ℕ) (others : List Inline)
    → with_plain front (with_plain back others) ≡ with_plain (front ++ back) others
with_plain-append [] back others = refl
with_plain-append (b ∷ front) [] others =
    ap (λ t. with_plain t others) (sym (append-nil (b ∷ front)))
with_plain-append (b ∷ front) (c ∷ back) [] = refl
with_plain-append (b ∷ front) (c ∷ back) (inlines.Plain next ∷ others) =
    ap (λ t. inlines.Plain t ∷ others) (sym (append_assoc (b ∷ front) (c ∷ back) next))
with_plain-append (b ∷ front) (c ∷ back) (inlines.Link text href ∷ others) = refl

module _ (links : List LinkDef) (address_of : List ℕ → Option (List ℕ)) where
  -- the bytes of a mark are skipped
  passed : (before text : List ℕ) (left : ℕ) → left ≤ length text
      → inlines_behind links address_of before text left
      ≡ inlines_behind links address_of (before ++ take left text) (drop left text) 0
  passed before text zero within =
      ap (λ bs. inlines_behind links address_of bs text 0) (sym (append-nil before))
  passed before [] (suc left) within = absurd (omega arith)
  passed before (b ∷ text) (suc left) within =
      passed (before ++ b ∷ []) text left (omega arith)
      ∙ ap (λ bs. inlines_behind links address_of bs (drop left text) 0)
      (append_assoc before (b ∷ []) (take left text))

  -- a byte at which no mark begins
  plain_byte : (before : List ℕ) (b : ℕ) (text : List ℕ)
      → found_at links address_of before (b ∷ text) ≡ None
      → inlines_behind links address_of before (b ∷ text) 0
      ≡ with_plain (b ∷ []) (inlines_behind links address_of (before ++ b ∷ []) text 0)
  plain_byte before b text none =
      ap (λ o. with_found links address_of b o
      (inlines_behind links address_of (before ++ b ∷ []) text (left_of links address_of o))) none

  -- a mark
  mark_byte : (before : List ℕ) (b : ℕ) (text : List ℕ) (found : Found)
      → found_at links address_of before (b ∷ text) ≡ Some found → found.len - 1 ≤ length text
      → inlines_behind links address_of before (b ∷ text) 0
      ≡ with_inline found.inline (inlines_behind links address_of
      ((before ++ b ∷ []) ++ take (found.len - 1) text) (drop (found.len - 1) text) 0)
  mark_byte before b text found is within =
      ap (λ o. with_found links address_of b o
      (inlines_behind links address_of (before ++ b ∷ []) text (left_of links address_of o))) is
      ∙ ap (with_inline found.inline) (passed (before ++ b ∷ []) text (found.len - 1) within)

module _ (links : List LinkDef) (address_of : List ℕ → Option (List ℕ)) (text : List ℕ) where
  plain_step : (place : ℕ) → place < length text
      → found_in links address_of text place ≡ None
      → inlines_from links address_of text place
      ≡ with_plain (get_or text place 0 ∷ []) (inlines_from links address_of text (place + 1))
  plain_step place within none =
      let rest = drop_more text place 0 within in
      let here = subst (λ t. found_at links address_of (take place text) t ≡ None) rest none in
      ap (λ t. inlines_behind links address_of (take place text) t 0) rest
      ∙ plain_byte links address_of (take place text) (get_or text place 0)
      (drop (place + 1) text) here
      ∙ ap (λ bs. with_plain (get_or text place 0 ∷ [])
      (inlines_behind links address_of bs (drop (place + 1) text) 0))
      (sym (take_more text place 0 within))

  -- up to the place to which no mark begins, all is plain text
  pub plain_steps : (count from : ℕ) → from + count ≤ length text
      → HasNone links address_of text from (from + count)
      → inlines_from links address_of text from
      ≡ with_plain (take count (drop from text)) (inlines_from links address_of text (from + count))
  plain_steps zero from within none =
      let same : from ≡ from + 0 = omega arith in
      ap (inlines_from links address_of text) same
  plain_steps (suc count) from within none =
      let next : from + 1 + count ≡ from + suc count = omega arith in
      let rest = drop_more text from 0 (omega arith) in
      let others = inlines_from links address_of text (from + suc count) in
      plain_step from (omega arith) (none from (omega arith) (omega arith))
      ∙ ap (with_plain (get_or text from 0 ∷ []))
      (plain_steps count (from + 1) (omega arith)
      (λ k le lt. none k (omega arith) (omega (arith, lt, next)))
      ∙ ap (λ n. with_plain (take count (drop (from + 1) text))
      (inlines_from links address_of text n)) next)
      ∙ with_plain-append (get_or text from 0 ∷ []) (take count (drop (from + 1) text)) others
      ∙ ap (λ t. with_plain (take (suc count) t) others) (sym rest)

  -- and a mark is what it becomes
  pub mark_step : (place : ℕ) (found : Found) → place + found.len ≤ length text → 1 ≤ found.len
      → found_in links address_of text place ≡ Some found
      → inlines_from links address_of text place
      ≡ with_inline found.inline (inlines_from links address_of text (place + found.len))
  mark_step place found within some is =
      let within_here : place < length text = omega arith in
      let rest = drop_more text place 0 within_here in
      let here = subst (λ t. found_at links address_of (take place text) t ≡ Some found) rest is in
      let left = found.len - 1 in
      let fits : left ≤ length (drop (place + 1) text) =
      omega (arith, length-drop (place + 1) text) in
      let end : place + 1 + left ≡ place + found.len = omega arith in
      ap (λ t. inlines_behind links address_of (take place text) t 0) rest
      ∙ mark_byte links address_of (take place text) (get_or text place 0)
      (drop (place + 1) text) found here fits
      ∙ ap (λ bs. with_inline found.inline (inlines_behind links address_of
      (bs ++ take left (drop (place + 1) text)) (drop left (drop (place + 1) text)) 0))
      (sym (take_more text place 0 within_here))
      ∙ ap (λ bs. with_inline found.inline (inlines_behind links address_of
      bs (drop left (drop (place + 1) text)) 0)) (take_two (place + 1) left text)
      ∙ ap (λ bs. with_inline found.inline (inlines_behind links address_of
      (take (place + 1 + left) text) bs 0)) (drop-drop left (place + 1) text)
      ∙ ap (λ n. with_inline found.inline (inlines_from links address_of text n)) end

  -- the same between two places
  pub plain_between : (from to : ℕ) → from ≤ to → to ≤ length text
      → HasNone links address_of text from to
      → inlines_from links address_of text from
      ≡ with_plain (drop from (take to text)) (inlines_from links address_of text to)
  plain_between from to within fits none =
      let count = to - from in
      let end : from + count ≡ to = omega arith in
      plain_steps count from (omega arith) (λ k le lt. none k le (omega (arith, end)))
      ∙ ap (λ n. with_plain (take count (drop from text)) (inlines_from links address_of text n))
      end
      ∙ ap (λ t. with_plain t (inlines_from links address_of text to))
      (sym (drop-take from count text) ∙ ap (λ n. drop from (take n text)) end)
