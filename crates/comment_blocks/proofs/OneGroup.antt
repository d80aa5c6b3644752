-- At most one group documents a line: of two groups that end on the line before, the second begins
-- on a line where a token ends, or the first does.
use Rattle.std.proofs.Common.{◌≡◌, ◌==◌, ℕ, zero, suc, ◌+◌, ◌-◌, ◌<◌, ◌≤◌, Bool, true, false}
use Rattle.std.proofs.Common.{length}
use Rattle.std.proofs.Common.{get_or, sym, ◌∙◌, subst, inl, inr, ⊎_elim, arith, leb, Some}
use Rattle.std.specs.Prelude.{slice_get, not, ◌&&◌, ◌||◌, ◌⊎◌}
use Rattle.std.proofs.lemmas.Bool.{cases_lt, cases_order, both_ways, and_parts, and_from, and_cases}
use Rattle.std.proofs.lemmas.Bool.{or_parts, not-true, not-false, leb-true, leb-false, le-leb}
use Rattle.std.proofs.lemmas.Bool.{eqb-true, eqb-false, eq-eqb}
use Rattle.std.proofs.lemmas.Option.{slice_get-get_or}
use Rattle.std.proofs.lemmas.List.Folds.{Any-from_list_any, list_any_at}
use Rattle.go_ast.specs.declared.token.Token.{Token}
use Rattle.go_ast.specs.declared.token.Comment.{Comment}
use Rattle.go_ast.specs.declared.token.Scanned.{Scanned}
use Rattle.comment_blocks.specs.Groups.{IsScan, IsDocGroup, are_joined, begins_beside_token}
use Rattle.comment_blocks.specs.Groups.{ends_before, goes_on_at, line_at, some_are_joined}
use Rattle.comment_blocks.specs.Groups.{token_between, token_ends_on}
use Rattle.comment_blocks.specs.GroupSteps.{IsInOrder}
use Rattle.comment_blocks.proofs.Halves.{line_at_never_falls}
use Rattle.comment_blocks.proofs.LaidOut.{Apart, IsLaidOut, laid_out}
use Rattle.comment_blocks.proofs.Scans.{in_order}

abbrev ends_on : Scanned → ℕ → Token → Bool
ends_on scanned line token = line_at scanned.lines token.span.end == line

abbrev is_between : ℕ → ℕ → Token → Bool
is_between from to token = leb from token.span.start && leb token.span.end to

-- a token of the scan
record IsToken (scanned : Scanned) (token : Token) : Type 0 where
  place : ℕ
  within : place < length scanned.tokens
  is : get_or scanned.tokens place token ≡ token

apart_from : (scanned : Scanned) (token : Token) (k : ℕ) (d : Comment) → IsLaidOut scanned
    → IsToken scanned token → k < length scanned.comments
    → Apart token (get_or scanned.comments k d)
apart_from scanned token k d laid one lt =
    subst (λ t. Apart t (get_or scanned.comments k d)) one.is
    (laid.apart one.place token one.within k d lt)

span_of : (scanned : Scanned) (token : Token) → IsLaidOut scanned → IsToken scanned token
    → token.span.start ≤ token.span.end
span_of scanned token laid one =
    subst (λ (t : Token). t.span.start ≤ t.span.end) one.is
    (laid.token_spans one.place token one.within)

-- where a token ends on the line on which a comment begins
beside : (scanned : Scanned) (k : ℕ) (d : Comment) (token : Token) → k < length scanned.comments
    → IsToken scanned token
    → line_at scanned.lines token.span.end
    ≡ line_at scanned.lines (get_or scanned.comments k d).span.start
    → begins_beside_token scanned (slice_get scanned.comments k) ≡ true
beside scanned k d token lt one same =
    let line = line_at scanned.lines (get_or scanned.comments k d).span.start in
    let found : ends_on scanned line (get_or scanned.tokens one.place token) ≡ true
    = subst (λ t. ends_on scanned line t ≡ true) (sym one.is) (eq-eqb _ _ same) in
    subst (λ o. begins_beside_token scanned o ≡ true)
    (sym (slice_get-get_or scanned.comments k d lt))
    (list_any_at (ends_on scanned line) scanned.tokens one.place token one.within found)

-- the comment at the next place continues a group exactly where the two are joined
pair_at : (scanned : Scanned) (k : ℕ) (d : Comment) (t : Bool) → suc k < length scanned.comments
    → goes_on_at scanned (suc k) ≡ t
    → are_joined scanned (get_or scanned.comments k d) (get_or scanned.comments (suc k) d) ≡ t
pair_at scanned k d t lt goes =
    subst (λ o. some_are_joined scanned o (Some (get_or scanned.comments (suc k) d)) ≡ t)
    (slice_get-get_or scanned.comments k d (omega arith))
    (subst (λ o. some_are_joined scanned (slice_get scanned.comments k) o ≡ t)
    (slice_get-get_or scanned.comments (suc k) d lt) goes)

-- what joins two comments
record IsJoin (scanned : Scanned) (comment next : Comment) : Type 0 where
  free : token_between scanned.tokens comment.span.end next.span.start ≡ false

join_from : (scanned : Scanned) (comment next : Comment) → are_joined scanned comment next ≡ true
    → IsJoin scanned comment next
join_from scanned comment next joined =
    let first_line = line_at scanned.lines comment.span.start in
    let next_line = line_at scanned.lines next.span.start in
    let free = not (token_between scanned.tokens comment.span.end next.span.start) in
    let near = leb next_line (line_at scanned.lines comment.span.end + 1) in
    let both = and_parts (free && near)
    (not (token_ends_on scanned first_line) || next_line == first_line) joined in
    record { free = not-true _ ((and_parts free near both.0).0) }

-- a token in front of a comment that continues a group is in front of the comment before it
in_front : (scanned : Scanned) (k : ℕ) (d : Comment) (token : Token) → IsLaidOut scanned
    → IsToken scanned token → suc k < length scanned.comments
    → goes_on_at scanned (suc k) ≡ true
    → token.span.end ≤ (get_or scanned.comments (suc k) d).span.start
    → token.span.end ≤ (get_or scanned.comments k d).span.start
in_front scanned k d token laid one lt goes front =
    let comment = get_or scanned.comments k d in
    let next = get_or scanned.comments (suc k) d in
    let join = join_from scanned comment next (pair_at scanned k d true lt goes) in
    ⊎_elim
    (λ (before : token.span.end ≤ comment.span.start). before)
    (λ (behind : comment.span.end ≤ token.span.start).
    let test : is_between comment.span.end next.span.start token ≡ true
    = and_from _ _ (le-leb _ _ behind) (le-leb _ _ front) in
    let found : is_between comment.span.end next.span.start
    (get_or scanned.tokens one.place token) ≡ true
    = subst (λ t. is_between comment.span.end next.span.start t ≡ true) (sym one.is) test in
    absurd (both_ways _ join.free
    (list_any_at (is_between comment.span.end next.span.start) scanned.tokens one.place token
    one.within found)))
    (apart_from scanned token k d laid one (omega arith))

-- where a token in front of a comment ends on the line on which the comment begins, it does so for
-- the first comment of the group too
first_beside : (scanned : Scanned) (first k : ℕ) (d : Comment) (token : Token) → IsLaidOut scanned
    → IsToken scanned token → first ≤ k → k < length scanned.comments
    → ((place : ℕ) → first < place → place ≤ k → goes_on_at scanned place ≡ true)
    → token.span.end ≤ (get_or scanned.comments k d).span.start
    → line_at scanned.lines token.span.end
    ≡ line_at scanned.lines (get_or scanned.comments k d).span.start
    → begins_beside_token scanned (slice_get scanned.comments first) ≡ true
first_beside scanned first zero d token laid one le lt together front same =
    let here : 0 ≡ first = omega arith in
    subst (λ n. begins_beside_token scanned (slice_get scanned.comments n) ≡ true) here
    (beside scanned 0 d token lt one same)
first_beside scanned first (suc k) d token laid one le lt together front same = ⊎_elim
    (λ (last : k < first).
    let here : suc k ≡ first = omega arith in
    subst (λ n. begins_beside_token scanned (slice_get scanned.comments n) ≡ true) here
    (beside scanned (suc k) d token lt one same))
    (λ (inside : first ≤ k).
    let before = in_front scanned k d token laid one lt
    (together (suc k) (omega arith) (omega arith)) front in
    let low = line_at_never_falls scanned.lines _ _ before in
    let high = line_at_never_falls scanned.lines (get_or scanned.comments k d).span.start
    (get_or scanned.comments (suc k) d).span.start
    (omega (arith, laid.comment_spans k d (omega arith), laid.follow k (suc k) d (omega arith) lt))
    in
    first_beside scanned first k d token laid one inside (omega arith)
    (λ place from to. together place from (omega arith)) before (omega (arith, low, high, same)))
    (cases_lt k first)

-- the line of a group's last comment
last_line : (scanned : Scanned) (line k : ℕ) (d : Comment) → k < length scanned.comments
    → ends_before scanned line (slice_get scanned.comments k) ≡ true
    → line_at scanned.lines (get_or scanned.comments k d).span.end + 1 ≡ line
last_line scanned line k d lt ends = eqb-true _ _
    (subst (λ o. ends_before scanned line o ≡ true) (slice_get-get_or scanned.comments k d lt) ends)

-- a comment that lies after one and not after another, where both end on one line
record IsOnLine (scanned : Scanned) (on : ℕ) (comment : Comment) : Type 0 where
  start : line_at scanned.lines comment.span.start ≡ on
  end : line_at scanned.lines comment.span.end ≡ on

on_line : (scanned : Scanned) (from k to : ℕ) (d : Comment) (on : ℕ) → IsInOrder scanned
    → IsLaidOut scanned → from < k → k ≤ to → to < length scanned.comments
    → line_at scanned.lines (get_or scanned.comments from d).span.end ≡ on
    → line_at scanned.lines (get_or scanned.comments to d).span.end ≡ on
    → IsOnLine scanned on (get_or scanned.comments k d)
on_line scanned from k to d on ordered laid behind le lt low high =
    let comment = get_or scanned.comments k d in
    let starts = line_at_never_falls scanned.lines _ _
    (laid.follow from k d behind (omega arith)) in
    let spans = line_at_never_falls scanned.lines _ _ (laid.comment_spans k d (omega arith)) in
    let ends = line_at_never_falls scanned.lines _ _ (ordered.comment_ends k to d le lt) in
    record {
      start = omega (arith, starts, spans, ends, low, high);
      end = omega (arith, starts, spans, ends, low, high);
    }

-- what parts two comments of which the second begins on the line where the first ends
parted : (scanned : Scanned) (comment next : Comment)
    → line_at scanned.lines next.span.start ≡ line_at scanned.lines comment.span.end
    → are_joined scanned comment next ≡ false
    → (token_between scanned.tokens comment.span.end next.span.start ≡ true)
    ⊎ ((token_ends_on scanned (line_at scanned.lines comment.span.start) ≡ true)
    × (line_at scanned.lines next.span.start ≡ line_at scanned.lines comment.span.start → ⊥))
parted scanned comment next same apart =
    let first_line = line_at scanned.lines comment.span.start in
    let next_line = line_at scanned.lines next.span.start in
    let free = not (token_between scanned.tokens comment.span.end next.span.start) in
    let near = leb next_line (line_at scanned.lines comment.span.end + 1) in
    let alike = not (token_ends_on scanned first_line) || next_line == first_line in
    ⊎_elim
    (λ (far : (free && near) ≡ false). ⊎_elim
    (λ (shut : free ≡ false). inl (not-false _ shut))
    (λ (off : near ≡ false). absurd (omega (arith, leb-false _ _ off)))
    (and_cases free near far))
    (λ (differ : alike ≡ false).
    let parts = or_parts (not (token_ends_on scanned first_line)) (next_line == first_line) differ
    in
    inr (not-false _ parts.0, eqb-false _ _ parts.1))
    (and_cases (free && near) alike apart)

any_comment : Comment
any_comment = record { span = record { start = 0; end = 0 }; general = false }

-- a token after the last comment of a group that ends on its line ends on no earlier line
ends_behind : (scanned : Scanned) (comment : Comment) (token : Token) → IsLaidOut scanned
    → IsToken scanned token → comment.span.end ≤ token.span.start
    → line_at scanned.lines comment.span.end ≤ line_at scanned.lines token.span.end
ends_behind scanned comment token laid one behind =
    line_at_never_falls scanned.lines _ _ (omega (arith, span_of scanned token laid one))

-- a group that ends before another, on the same line
record AreTwo (scanned : Scanned) (first last later_first later_last : ℕ) : Type 0 where
  ordered : IsInOrder scanned
  laid : IsLaidOut scanned
  starts : first ≤ last
  follows : last < later_first
  later_starts : later_first ≤ later_last
  within : later_last < length scanned.comments
  together : (place : ℕ) → first < place → place ≤ last → goes_on_at scanned place ≡ true
  parted : goes_on_at scanned (suc last) ≡ false
  alone : begins_beside_token scanned (slice_get scanned.comments first) ≡ false
  later_alone : begins_beside_token scanned (slice_get scanned.comments later_first) ≡ false
  on : ℕ
  ends : (d : Comment) → line_at scanned.lines (get_or scanned.comments last d).span.end ≡ on
  later_ends : (d : Comment)
      → line_at scanned.lines (get_or scanned.comments later_last d).span.end ≡ on

-- no token stands between the last comment of the first group and the comment after it
none_between : (scanned : Scanned) (first last later_first later_last : ℕ) (d : Comment)
    → AreTwo scanned first last later_first later_last
    → token_between scanned.tokens (get_or scanned.comments last d).span.end
    (get_or scanned.comments (suc last) d).span.start ≡ true → ⊥
none_between scanned first last later_first later_last d two found =
    let comment = get_or scanned.comments last d in
    let next = get_or scanned.comments (suc last) d in
    let some = Any-from_list_any (is_between comment.span.end next.span.start) scanned.tokens found
    in
    let token = some.1 in
    let one : IsToken scanned token = record { place = some.0; within = some.2; is = some.3 } in
    let test = and_parts (leb comment.span.end token.span.start)
    (leb token.span.end next.span.start)
    some.4 in
    let low = ends_behind scanned comment token two.laid one (leb-true _ _ test.0) in
    let high = line_at_never_falls scanned.lines _ _ (leb-true _ _ test.1) in
    let near = on_line scanned last (suc last) later_last d two.on two.ordered two.laid
    (omega arith) (omega (arith, two.follows, two.later_starts)) two.within (two.ends d)
    (two.later_ends d) in
    let far = on_line scanned last later_first later_last d two.on two.ordered two.laid
    two.follows two.later_starts two.within (two.ends d) (two.later_ends d) in
    let same : line_at scanned.lines token.span.end
    ≡ line_at scanned.lines (get_or scanned.comments later_first d).span.start
    = omega (arith, low, high, near.start, far.start, two.ends d) in
    both_ways _ two.later_alone
    (beside scanned later_first d token (omega (arith, two.later_starts, two.within)) one same)

-- nor does a token end on an earlier line where the last comment of the first group begins
none_in_front : (scanned : Scanned) (first last later_first later_last : ℕ) (d : Comment)
    → AreTwo scanned first last later_first later_last
    → token_ends_on scanned
    (line_at scanned.lines (get_or scanned.comments last d).span.start) ≡ true
    → (line_at scanned.lines (get_or scanned.comments (suc last) d).span.start
    ≡ line_at scanned.lines (get_or scanned.comments last d).span.start → ⊥)
    → ⊥
none_in_front scanned first last later_first later_last d two found differ =
    let comment = get_or scanned.comments last d in
    let begin = line_at scanned.lines comment.span.start in
    let within : last < length scanned.comments
    = omega (arith, two.follows, two.later_starts, two.within) in
    let some = Any-from_list_any (ends_on scanned begin) scanned.tokens found in
    let token = some.1 in
    let one : IsToken scanned token = record { place = some.0; within = some.2; is = some.3 } in
    let same : line_at scanned.lines token.span.end ≡ begin = eqb-true _ _ some.4 in
    let near = on_line scanned last (suc last) later_last d two.on two.ordered two.laid
    (omega arith) (omega (arith, two.follows, two.later_starts)) two.within (two.ends d)
    (two.later_ends d) in
    let span = line_at_never_falls scanned.lines _ _ (two.laid.comment_spans last d within) in
    ⊎_elim
    (λ (front : token.span.end ≤ comment.span.start). both_ways _ two.alone
    (first_beside scanned first last d token two.laid one two.starts within two.together front
    same))
    (λ (behind : comment.span.end ≤ token.span.start).
    let low = ends_behind scanned comment token two.laid one behind in
    differ (omega (arith, low, same, span, near.start, two.ends d)))
    (apart_from scanned token last d two.laid one within)

never_two : (scanned : Scanned) (first last later_first later_last : ℕ)
    → AreTwo scanned first last later_first later_last → ⊥
never_two scanned first last later_first later_last two =
    let d = any_comment in
    let near = on_line scanned last (suc last) later_last d two.on two.ordered two.laid
    (omega arith) (omega (arith, two.follows, two.later_starts)) two.within (two.ends d)
    (two.later_ends d) in
    ⊎_elim
    (λ found. none_between scanned first last later_first later_last d two found)
    (λ both. none_in_front scanned first last later_first later_last d two both.0 both.1)
    (parted scanned (get_or scanned.comments last d) (get_or scanned.comments (suc last) d)
    (near.start ∙ sym (two.ends d))
    (pair_at scanned last d false (omega (arith, two.follows, two.later_starts, two.within))
    two.parted))

-- a group that ends later begins where the first has ended, or later
begins_later : (scanned : Scanned) (line first after other_first other_after : ℕ)
    → IsDocGroup scanned line first after → IsDocGroup scanned line other_first other_after
    → after < other_after → after ≤ other_first
begins_later scanned line first after other_first other_after doc other later = ⊎_elim
    (λ (inside : other_first < after). absurd (both_ways (goes_on_at scanned after) doc.group.end
    (other.group.together after inside later)))
    (λ (behind : after ≤ other_first). behind)
    (cases_lt other_first after)

none_later : (scanned : Scanned) (line first after other_first other_after : ℕ) → IsScan scanned
    → IsDocGroup scanned line first after → IsDocGroup scanned line other_first other_after
    → after < other_after → ⊥
none_later scanned line first after other_first other_after scan doc other later =
    let behind = begins_later scanned line first after other_first other_after doc other later in
    let some = doc.group.some in
    let within = other.group.within in
    let next : after ≡ suc (after - 1) = omega arith in
    let two : AreTwo scanned first (after - 1) other_first (other_after - 1) = record {
      ordered = in_order scanned scan;
      laid = laid_out scanned scan;
      starts = omega arith;
      follows = omega arith;
      later_starts = omega (arith, other.group.some);
      within = omega arith;
      together = λ place from to. doc.group.together place from (omega arith);
      parted = subst (λ n. goes_on_at scanned n ≡ false) next doc.group.end;
      alone = doc.alone;
      later_alone = other.alone;
      on = line - 1;
      ends = λ d. omega (arith, last_line scanned line (after - 1) d (omega arith) doc.before);
      later_ends = λ d. omega (
        arith,
        last_line scanned line (other_after - 1) d (omega arith) other.before,
      );
    } in
    never_two scanned first (after - 1) other_first (other_after - 1) two

-- of two groups that end at one place, neither begins later
not_behind : (scanned : Scanned) (line first other_first after : ℕ)
    → IsDocGroup scanned line first after → IsDocGroup scanned line other_first after
    → first < other_first → ⊥
not_behind scanned line first other_first after doc other later =
    both_ways (goes_on_at scanned other_first) other.group.begin
    (doc.group.together other_first later other.group.some)

one_end : (scanned : Scanned) (line first after other_first other_after : ℕ) → IsScan scanned
    → IsDocGroup scanned line first after → IsDocGroup scanned line other_first other_after
    → after ≡ other_after
one_end scanned line first after other_first other_after scan doc other = ⊎_elim
    (λ (same : after ≡ other_after). same)
    (λ rest. ⊎_elim
    (λ (later : after < other_after). absurd
    (none_later scanned line first after other_first other_after scan doc other later))
    (λ (sooner : other_after < after). absurd
    (none_later scanned line other_first other_after first after scan other doc sooner))
    rest)
    (cases_order after other_after)

one_begin : (scanned : Scanned) (line first other_first after : ℕ)
    → IsDocGroup scanned line first after → IsDocGroup scanned line other_first after
    → first ≡ other_first
one_begin scanned line first other_first after doc other = ⊎_elim
    (λ (same : first ≡ other_first). same)
    (λ rest. ⊎_elim
    (λ (later : first < other_first). absurd
    (not_behind scanned line first other_first after doc other later))
    (λ (sooner : other_first < first). absurd
    (not_behind scanned line other_first first after other doc sooner))
    rest)
    (cases_order first other_first)

pub one_doc_group : (scanned : Scanned) (line first after other_first other_after : ℕ)
    → IsScan scanned → IsDocGroup scanned line first after
    → IsDocGroup scanned line other_first other_after
    → (first ≡ other_first) × (after ≡ other_after)
one_doc_group scanned line first after other_first other_after scan doc other =
    let end = one_end scanned line first after other_first other_after scan doc other in
    let there : IsDocGroup scanned line first other_after
    = subst (λ n. IsDocGroup scanned line first n) end doc in
    (one_begin scanned line first other_first other_after there other, end)
