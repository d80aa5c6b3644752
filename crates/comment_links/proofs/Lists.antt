-- The inlines of a text are one list, and the plain program finds it.
use Rattle.std.proofs.Common.{◌≡◌, ℕ, zero, suc, ◌+◌, ◌-◌, ◌<◌, ◌≤◌, List, [], ◌∷◌, ◌++◌, length}
use Rattle.std.proofs.Common.{take, drop, Option, Some, None, refl, sym, ◌∙◌, ap, subst, ⊎_elim}
use Rattle.std.proofs.Common.{arith}
use Rattle.std.proofs.lemmas.Bool.{cases_lt}
use Rattle.std.proofs.lemmas.List.{drop_all, drop_at, length-append, length-drop}
use Rattle.std.proofs.lemmas.List.{length-take-le, take-append-drop, take_all, take_at}
use Rattle.comment_blocks.specs.declared.block.LinkDef.{LinkDef}
use Rattle.comment_links.specs.declared.found.Found.{Found}
use Rattle.comment_links.specs.declared.part.Inline.{Inline}
use Rattle.comment_links.specs.Marks.{Mark}
use Rattle.comment_links.specs.Inlines.{AreInlines, AreMarks, IsLeftmost, IsMarkHere, end_of}
use Rattle.comment_links.specs.Inlines.{inlines_with, with_inline, with_plain}
use Rattle.comment_links.specs.InlinesOf.{found_at, inlines_behind, inlines_of}
use Rattle.comment_links.specs.InlineSteps.{HasNone, IsNext, found_in, found_of, inlines_from}
use Rattle.comment_links.specs.InlineSteps.{mark_of}
use Rattle.comment_links.proofs.AddressMarks.{some_is}
use Rattle.comment_links.proofs.Founds.{found_sound, mark_found, mark_some}
use Rattle.comment_links.proofs.Steps.{mark_step, plain_between}

module _ (links : List LinkDef) (address_of : List ℕ → Option (List ℕ)) (text : List ℕ) where
  -- what is found at a place is a mark of the text
  pub here_from : (place : ℕ) (found : Found) → found_in links address_of text place ≡ Some found
      → IsMarkHere links address_of text (mark_of (take place text) (drop place text) found)
  here_from place found is = record {
    whole =
        sym (take-append-drop place text)
        ∙ ap (λ t. take place text ++ t) (sym (take-append-drop found.len (drop place text)));
    rule = found_sound links address_of (take place text) (drop place text) found is;
  }

  -- and a mark of the text is found at its place
  pub found_from : (mark : Mark) → IsMarkHere links address_of text mark
      → found_in links address_of text (length mark.before) ≡ Some (found_of mark)
  found_from mark here =
      let rest = mark.written ++ mark.after in
      let front : take (length mark.before) text ≡ mark.before =
      ap (λ t. take (length mark.before) t) here.whole
      ∙ take_at mark.before rest (length mark.before) refl in
      let back : drop (length mark.before) text ≡ rest =
      ap (λ t. drop (length mark.before) t) here.whole
      ∙ drop_at mark.before rest (length mark.before) refl in
      ap (λ t. found_at links address_of t (drop (length mark.before) text)) front
      ∙ ap (λ t. found_at links address_of mark.before t) back
      ∙ mark_found links address_of mark here.rule

  fits : (mark : Mark) → IsMarkHere links address_of text mark → end_of mark ≤ length text
  fits mark here =
      omega (
        arith,
        ap length here.whole,
        length-append mark.before (mark.written ++ mark.after),
        length-append mark.written mark.after,
      )

  -- no mark stands where none is found
  pub none_here : (from : ℕ) → HasNone links address_of text from (length text) → (other : Mark)
      → IsMarkHere links address_of text other → length other.before < from
  none_here from none other here = ⊎_elim
      (λ (below : length other.before < from). below)
      (λ (behind : from ≤ length other.before).
      let some = mark_some links address_of other here.rule in
      let within : length other.before < length text = omega (arith, fits other here, some) in
      let nothing : ◌≡◌ {A = Option Found} None (Some (found_of other)) =
      sym (none (length other.before) behind within) ∙ found_from other here in
      cc)
      (cases_lt (length other.before) from)

  -- the length of what is found
  pub found_len : (place : ℕ) (found : Found) → place ≤ length text
      → found_in links address_of text place ≡ Some found
      → (1 ≤ found.len) × (place + found.len ≤ length text)
  found_len place found within is =
      let mark = mark_of (take place text) (drop place text) found in
      let here = here_from place found is in
      let at : length (take place text) ≡ place = length-take-le place text within in
      let again : found_in links address_of text place ≡ Some (found_of mark) =
      subst (λ n. found_in links address_of text n ≡ Some (found_of mark)) at
      (found_from mark here) in
      let both : found ≡ found_of mark = some_is found (found_of mark) (sym is ∙ again) in
      let len : found.len ≡ length mark.written = ap (λ (f : Found). f.len) both in (
        omega (arith, len, mark_some links address_of mark here.rule),
        omega (arith, len, at, fits mark here),
      )

  none_at : (from place : ℕ) (mark : Mark) → IsLeftmost links address_of text from mark
      → from ≤ place → place < length mark.before → (o : Option Found)
      → found_in links address_of text place ≡ o → found_in links address_of text place ≡ None
  none_at from place mark leftmost behind before None is = is
  none_at from place mark leftmost behind before (Some found) is =
      let other = mark_of (take place text) (drop place text) found in
      let at : length other.before ≡ place =
      length-take-le place text (omega (arith, fits mark leftmost.here)) in
      let after = leftmost.leftmost other (here_from place found is) (omega (arith, at)) in
      absurd (omega (arith, at, after))

  none_before : (from : ℕ) (mark : Mark) → IsLeftmost links address_of text from mark
      → HasNone links address_of text from (length mark.before)
  none_before from mark leftmost place behind before =
      none_at from place mark leftmost behind before (found_in links address_of text place) refl

  none_behind : (from : ℕ)
      → ((other : Mark) → IsMarkHere links address_of text other → length other.before < from)
      → (place : ℕ) → from ≤ place → place < length text → (o : Option Found)
      → found_in links address_of text place ≡ o → found_in links address_of text place ≡ None
  none_behind from none place behind within None is = is
  none_behind from none place behind within (Some found) is =
      let other = mark_of (take place text) (drop place text) found in
      let at : length other.before ≡ place = length-take-le place text (omega arith) in
      let before = none other (here_from place found is) in
      absurd (omega (arith, at, before))

  -- at the end nothing is left
  pub nothing_left : inlines_from links address_of text (length text) ≡ []
  nothing_left =
      ap (λ t. inlines_behind links address_of (take (length text) text) t 0)
      (drop_all (length text) text (omega arith))

  pub all_plain : (from : ℕ) → from ≤ length text
      → HasNone links address_of text from (length text)
      → inlines_from links address_of text from ≡ with_plain (drop from text) []
  all_plain from within none =
      plain_between links address_of text from (length text) within (omega arith) none
      ∙ ap (λ t. with_plain (drop from t) (inlines_from links address_of text (length text)))
      (take_all (length text) text (omega arith))
      ∙ ap (with_plain (drop from text)) nothing_left

  -- what the marks of the rest of a text leave are the inlines that the program gives
  pub one_list : (marks : List Mark) (from : ℕ) → from ≤ length text
      → AreMarks links address_of text from marks
      → inlines_from links address_of text from ≡ inlines_with links address_of text from marks
  one_list [] from within are =
      all_plain from within (λ place behind before.
      none_behind from are place behind before (found_in links address_of text place) refl)
  one_list (mark ∷ marks) from within are =
      let here = are.0.here in
      let start = length mark.before in
      let front : take start text ≡ mark.before =
      ap (λ t. take start t) here.whole
      ∙ take_at mark.before (mark.written ++ mark.after) start refl in
      plain_between links address_of text from start are.0.behind (omega (arith, fits mark here))
      (none_before from mark are.0)
      ∙ ap (λ t. with_plain (drop from t) (inlines_from links address_of text start)) front
      ∙ ap (with_plain (drop from mark.before))
      (mark_step links address_of text start (found_of mark) (fits mark here)
      (mark_some links address_of mark here.rule) (found_from mark here)
      ∙ ap (with_inline mark.inline)
      (one_list marks (end_of mark) (fits mark here) are.1))

  -- the first mark from a place on, or that there is none
  data First (from : ℕ) : Type 0 where
    nowhere : HasNone links address_of text from (length text) → First from
    there : (start : ℕ) (found : Found) → IsNext links address_of text from start found
        → First from

  pub none_more : (from to : ℕ) → found_in links address_of text from ≡ None
      → HasNone links address_of text (from + 1) to → HasNone links address_of text from to
  none_more from to here rest place behind before = ⊎_elim
      (λ (later : from < place). rest place (omega arith) before)
      (λ (at : place ≤ from).
      let same : from ≡ place = omega arith in
      subst (λ n. found_in links address_of text n ≡ None) same here)
      (cases_lt from place)

  with_first : (from : ℕ) → found_in links address_of text from ≡ None → First (from + 1)
      → First from
  with_first from here (nowhere none) = nowhere (none_more from (length text) here none)
  with_first from here (there start found next) = there start found (record {
    behind = omega (arith, next.behind);
    none = none_more from start here next.none;
    within = next.within;
    some = next.some;
    here = next.here;
  })

  first_at : (from : ℕ) → from < length text → First (from + 1) → (o : Option Found)
      → found_in links address_of text from ≡ o → First from
  first_at from within rest None is = with_first from is rest
  first_at from within rest (Some found) is =
      let len = found_len from found (omega arith) is in
      there from found (record {
        behind = omega arith;
        none = λ place behind before. absurd (omega arith);
        within = len.1;
        some = len.0;
        here = is;
      })

  first : (count from : ℕ) → from + count ≡ length text → First from
  first zero from all = nowhere (λ place behind before. absurd (omega arith))
  first (suc count) from all =
      first_at from (omega arith) (first count (from + 1) (omega arith))
      (found_in links address_of text from) refl

  is_leftmost : (from start : ℕ) (found : Found) → IsNext links address_of text from start found
      → IsLeftmost links address_of text from (mark_of (take start text) (drop start text) found)
  is_leftmost from start found next =
      let mark = mark_of (take start text) (drop start text) found in
      let at : length mark.before ≡ start =
      length-take-le start text (omega (arith, next.within)) in
      record {
        here = here_from start found next.here;
        behind = omega (arith, at, next.behind);
        leftmost = λ other here behind. ⊎_elim
            (λ (before : length other.before < start).
            let nothing : ◌≡◌ {A = Option Found} None (Some (found_of other)) =
            sym (next.none (length other.before) behind before) ∙ found_from other here in
            cc)
            (λ (after : start ≤ length other.before). omega (arith, at))
            (cases_lt (length other.before) start);
      }

  -- the marks from a place on
  Found_marks : ℕ → Type 0
  Found_marks from = (marks : List Mark) × AreMarks links address_of text from marks

  marks_first : (from : ℕ) → First from
      → ((to : ℕ) → from < to → to ≤ length text → Found_marks to) → Found_marks from
  unfolding Found_marks
  marks_first from (nowhere none) rest = ([], none_here from none)
  marks_first from (there start found next) rest =
      let mark = mark_of (take start text) (drop start text) found in
      let at : length mark.before ≡ start =
      length-take-le start text (omega (arith, next.within)) in
      let len : length mark.written ≡ found.len =
      length-take-le found.len (drop start text)
      (omega (arith, length-drop start text, next.within)) in
      let others = rest (end_of mark) (omega (arith, at, len, next.some, next.behind))
      (omega (arith, at, len, next.within)) in
      (mark ∷ others.0, (is_leftmost from start found next, others.1))

  marks_from : (fuel from : ℕ) → from ≤ length text → length text ≤ from + fuel
      → Found_marks from
  marks_from zero from within enough =
      marks_first from (nowhere (λ place behind before. absurd (omega arith)))
      (λ to later within. absurd (omega arith))
  marks_from (suc fuel) from within enough =
      marks_first from (first (length text - from) from (omega arith))
      (λ to later within. marks_from fuel to within (omega arith))

pub program_is_one : (links : List LinkDef) (address_of : List ℕ → Option (List ℕ))
    (text : List ℕ) → AreInlines links address_of text (inlines_of links address_of text)
unfolding Found_marks
program_is_one links address_of text =
    let found = marks_from links address_of text (length text) 0 (omega arith) (omega arith) in
    record {
      marks = found.0;
      are_marks = found.1;
      are_all = one_list links address_of text found.0 0 (omega arith) found.1;
    }

pub program_is_only : (links : List LinkDef) (address_of : List ℕ → Option (List ℕ))
    (text : List ℕ) (inlines : List Inline) → AreInlines links address_of text inlines
    → inlines ≡ inlines_of links address_of text
program_is_only links address_of text inlines are =
    are.are_all ∙ sym (one_list links address_of text are.marks 0 (omega arith) are.are_marks)
