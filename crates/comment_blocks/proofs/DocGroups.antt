-- The groups that are left to look at, from the last.
use Rattle.std.proofs.Common.{◌≡◌, ◌==◌, ℕ, ◌+◌, ◌-◌, ◌<◌, ◌≤◌, true, false, length, get_or, refl}
use Rattle.std.proofs.Common.{sym, ap, subst, ⊎_elim, arith, Option, Some, None, true≢false}
use Rattle.std.specs.Prelude.{slice_get}
use Rattle.std.proofs.lemmas.Bool.{cases_lt, ltb-true, ltb-false, eqb-true, eqb-false, both_ways}
use Rattle.std.proofs.lemmas.Option.{slice_get-get_or, slice_get_within, get_or_from_slice_get}
use Rattle.go_ast.specs.declared.token.Comment.{Comment}
use Rattle.go_ast.specs.declared.token.Scanned.{Scanned}
use Rattle.comment_blocks.specs.Groups.{IsDocGroup, begins_beside_token, ends_before, goes_on_at}
use Rattle.comment_blocks.specs.Groups.{line_at}
use Rattle.comment_blocks.specs.GroupSteps.{AreCommentsBefore, IsInOrder, IsStart}
use Rattle.comment_blocks.proofs.Halves.{line_at_never_falls}

-- no group continues at the place, the comments before it end before the line, and no group that is
-- looked for ends after it
pub record Looked (scanned : Scanned) (line place : ℕ) : Type 0 where
  pub within : place ≤ length scanned.comments
  pub before : (k : ℕ) (d : Comment) → k < place
      → line_at scanned.lines (get_or scanned.comments k d).span.end < line
  pub begin : goes_on_at scanned place ≡ false
  pub rest : (first after : ℕ) → IsDocGroup scanned line first after → after ≤ place

-- the last comment of a group that is looked for
record IsLast (scanned : Scanned) (line after : ℕ) : Type 0 where
  last : Comment
  within : after - 1 < length scanned.comments
  is : get_or scanned.comments (after - 1) last ≡ last
  line_is : line_at scanned.lines last.span.end + 1 ≡ line

last_from : (scanned : Scanned) (line after : ℕ) (o : Option Comment)
    → slice_get scanned.comments (after - 1) ≡ o
    → ends_before scanned line o ≡ true → IsLast scanned line after
last_from scanned line after None is ends = absurd (true≢false (sym ends))
last_from scanned line after (Some last) is ends = record {
  last = last;
  within = slice_get_within scanned.comments (after - 1) last is;
  is = get_or_from_slice_get scanned.comments (after - 1) last last is;
  line_is = eqb-true _ _ ends;
}

last_of : (scanned : Scanned) (line first after : ℕ) → IsDocGroup scanned line first after
    → IsLast scanned line after
last_of scanned line first after doc = last_from scanned line after _ refl doc.before

-- where no comment continues a group, there is no place after the start at which one does
not_inside : (scanned : Scanned) (place start at : ℕ) → IsStart scanned place start
    → goes_on_at scanned at ≡ false → at ≤ place → at ≤ start
not_inside scanned place start at found ends le = ⊎_elim
    (λ (behind : start < at). absurd
    (both_ways (goes_on_at scanned at) ends (found.together at behind le)))
    (λ (before : at ≤ start). before)
    (cases_lt start at)

pub begun : (scanned : Scanned) (line ended start : ℕ) → ended ≤ length scanned.comments
    → AreCommentsBefore scanned line ended
    → IsStart scanned ended start → Looked scanned line start
begun scanned line ended start within point found = record {
  within = omega (arith, found.within);
  before = λ k d lt. ltb-true _ _ (point.0 k d (omega arith) (omega (arith, found.within)));
  begin = found.begin;
  rest = λ first after doc.
      let last = last_of scanned line first after doc in
      let some = doc.group.some in
      let ends : after ≤ ended = ⊎_elim
      (λ (low : after - 1 < ended). omega arith)
      (λ (high : ended ≤ after - 1).
      let low = ltb-false _ _ (point.1 (after - 1) last.last high last.within) in
      let same : line_at scanned.lines (get_or scanned.comments (after - 1) last.last).span.end
      ≡ line_at scanned.lines last.last.span.end
      = ap (λ (c : Comment). line_at scanned.lines c.span.end) last.is in
      absurd (omega (arith, low, same, last.line_is)))
      (cases_lt (after - 1) ended) in
      not_inside scanned ended start after found doc.group.end ends;
}

-- where the last comment before the place doesn't end on the line before, there is no such group
pub none_left : (scanned : Scanned) (line place : ℕ) → IsInOrder scanned → Looked scanned line place
    → 0 < place
    → ends_before scanned line (slice_get scanned.comments (place - 1)) ≡ false
    → (first after : ℕ) → IsDocGroup scanned line first after → ⊥
none_left scanned line place ordered looked some other first after doc =
    let found = last_of scanned line first after doc in
    let le = looked.rest first after doc in
    let last = get_or scanned.comments (place - 1) found.last in
    let within : place - 1 < length scanned.comments = omega (arith, looked.within) in
    let rises : (get_or scanned.comments (after - 1) found.last).span.end ≤ last.span.end
    = ordered.comment_ends (after - 1) (place - 1) found.last (omega (arith, doc.group.some)) within
    in
    let low : line_at scanned.lines found.last.span.end ≤ line_at scanned.lines last.span.end
    = line_at_never_falls scanned.lines _ _
    (subst (λ (c : Comment). c.span.end ≤ last.span.end) found.is rises) in
    let high : line_at scanned.lines last.span.end < line =
    looked.before (place - 1) found.last (omega arith) in
    let differs : (line_at scanned.lines last.span.end + 1 == line) ≡ false
    = subst (λ o. ends_before scanned line o ≡ false)
    (slice_get-get_or scanned.comments (place - 1) found.last within) other in
    eqb-false _ _ differs (omega (arith, low, high, found.line_is))

-- a group that begins next to a token is skipped
pub passed : (scanned : Scanned) (line place start : ℕ) → Looked scanned line place → 0 < place
    → IsStart scanned (place - 1) start
    → begins_beside_token scanned (slice_get scanned.comments start) ≡ true
    → Looked scanned line start
passed scanned line place start looked some found beside = record {
  within = omega (arith, looked.within, found.within);
  before = λ k d lt. looked.before k d (omega (arith, found.within));
  begin = found.begin;
  rest = λ first after doc.
      let le = looked.rest first after doc in
      ⊎_elim
      (λ (low : after < place).
      not_inside scanned (place - 1) start after found doc.group.end (omega arith))
      (λ (high : place ≤ after).
      let same : after ≡ place = omega arith in
      let front : first ≤ start =
      not_inside scanned (place - 1) start first found doc.group.begin
      (omega (arith, doc.group.some)) in
      let not_behind : start ≤ first = ⊎_elim
      (λ (behind : first < start). absurd (both_ways (goes_on_at scanned start) found.begin
      (doc.group.together start behind (omega (arith, found.within)))))
      (λ (is : start ≤ first). is)
      (cases_lt first start) in
      let there : first ≡ start = omega arith in
      absurd (both_ways (begins_beside_token scanned (slice_get scanned.comments start))
      (subst (λ k. begins_beside_token scanned (slice_get scanned.comments k) ≡ false) there
      doc.alone) beside))
      (cases_lt after place);
}

pub is_doc : (scanned : Scanned) (line place start : ℕ) → Looked scanned line place → 0 < place
    → IsStart scanned (place - 1) start
    → ends_before scanned line (slice_get scanned.comments (place - 1)) ≡ true
    → begins_beside_token scanned (slice_get scanned.comments start) ≡ false
    → IsDocGroup scanned line start place
is_doc scanned line place start looked some found before alone = record {
  group = record {
    some = omega (arith, found.within);
    within = looked.within;
    together = λ k from below. found.together k from (omega arith);
    begin = found.begin;
    end = looked.begin;
  };
  before = before;
  alone = alone;
}
