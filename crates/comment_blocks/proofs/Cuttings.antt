-- Lines have one cutting into spans, which is `pieces_of`.
use Rattle.std.proofs.Common.{◌≡◌, ◌==◌, ℕ, zero, suc, ◌+◌, Bool, true, false, List, [], ◌∷◌, ◌++◌}
use Rattle.std.proofs.Common.{take, drop, Option, Some, None, refl, sym, ◌∙◌, ap, subst, true≢false}
use Rattle.std.proofs.Common.{arith, ⊎_elim}
use Rattle.std.specs.Prelude.{◌&&◌, not}
use Rattle.std.specs.List.{flat_map, list_all, prefix_len}
use Rattle.std.proofs.lemmas.Bool.{and_parts, and_from, cases_Bool, cond-true, cond-false, ne_eqb}
use Rattle.std.proofs.lemmas.Bool.{not-true, not_from_false}
use Rattle.comment_blocks.specs.Texts.{is_blank}
use Rattle.comment_blocks.specs.Spans.{are_apart, begins_plain, behind_gap, gap, goes_on, indented}
use Rattle.comment_blocks.specs.Spans.{indented_beyond, is_indented, is_piece, is_plain, IsCutting}
use Rattle.comment_blocks.specs.Spans.{joined_to, lines_in, Piece, pieces_of, plain, reached}
use Rattle.comment_blocks.specs.Spans.{with_line, with_plain}
use Rattle.comment_blocks.specs.LineSteps.{reach}
use Rattle.comment_blocks.specs.Spans.{one_further}

abbrev pub Reach : Type 0
Reach = List (List ℕ) × List Piece

with_plain_apart : (line : List ℕ) (pieces : List Piece) → begins_plain pieces ≡ false
    → with_plain line pieces ≡ plain (line ∷ []) ∷ pieces
with_plain_apart line [] apart = refl
with_plain_apart line (gap ∷ pieces) apart = refl
with_plain_apart line (plain lines ∷ pieces) apart = absurd (true≢false apart)
with_plain_apart line (indented lines ∷ pieces) apart = refl

pub plain_line : (line : List ℕ) (pieces : List Piece) → is_plain line ≡ true
    → with_line line pieces ≡ with_plain line pieces
plain_line [] pieces is = absurd (true≢false (sym is))
plain_line (b ∷ line) pieces is =
    cond-false (is_blank b) (joined_to (b ∷ line) pieces (reached pieces))
    (with_plain (b ∷ line) pieces) (not-true (is_blank b) is)

pub indented_line : (line : List ℕ) (pieces : List Piece) → is_indented line ≡ true
    → with_line line pieces ≡ joined_to line pieces (reached pieces)
indented_line [] pieces is = absurd (true≢false (sym is))
indented_line (b ∷ line) pieces is =
    cond-true (is_blank b) (joined_to (b ∷ line) pieces (reached pieces))
    (with_plain (b ∷ line) pieces) is

plain_run : (line : List ℕ) (lines rest : List (List ℕ)) → is_plain line ≡ true
    → list_all is_plain lines ≡ true
    → begins_plain (pieces_of rest) ≡ false → pieces_of (line ∷ (lines ++ rest))
    ≡ plain (line ∷ lines) ∷ pieces_of rest
plain_run line [] rest is all apart = plain_line line (pieces_of rest) is
    ∙ with_plain_apart line (pieces_of rest) apart
plain_run line (next ∷ lines) rest is all apart =
    let parts = and_parts (is_plain next) (list_all is_plain lines) all in
    plain_line line (pieces_of (next ∷ (lines ++ rest))) is
    ∙ ap (with_plain line) (plain_run next lines rest parts.0 parts.1 apart)

not_reached : (pieces : List Piece) → indented_beyond pieces ≡ false → reached pieces ≡ None
not_reached [] beyond = refl
not_reached (gap ∷ pieces) beyond = ap behind_gap (not_reached pieces beyond)
not_reached (plain lines ∷ pieces) beyond = refl
not_reached (indented lines ∷ pieces) beyond = absurd (true≢false beyond)

-- what is reached from lines that go on a span
abbrev run_reached : List (List ℕ) → List Piece → Option Reach
run_reached [] pieces = None
run_reached (line ∷ lines) pieces = Some (line ∷ lines, pieces)

gap_run : (lines : List (List ℕ)) (pieces : List Piece) → goes_on true lines ≡ true
    → behind_gap (run_reached lines pieces) ≡ Some ([] ∷ lines, pieces)
gap_run [] pieces on = absurd (true≢false (sym on))
gap_run (line ∷ lines) pieces on = refl

joined_run : (line : List ℕ) (lines rest : List (List ℕ))
    → joined_to line (pieces_of (lines ++ rest)) (run_reached lines (pieces_of rest))
    ≡ indented (line ∷ lines) ∷ pieces_of rest
joined_run line [] rest = refl
joined_run line (next ∷ lines) rest = refl

run : (gapped : Bool) (lines rest : List (List ℕ)) → goes_on gapped lines ≡ true
    → indented_beyond (pieces_of rest) ≡ false
    → reached (pieces_of (lines ++ rest)) ≡ run_reached lines (pieces_of rest)
run gapped [] rest on beyond = not_reached (pieces_of rest) beyond
run gapped ([] ∷ lines) rest on beyond = ap behind_gap (run true lines rest on beyond)
    ∙ gap_run lines (pieces_of rest) on
run gapped ((b ∷ line) ∷ lines) rest on beyond =
    let parts = and_parts (is_blank b) (goes_on false lines) on in
    ap reached (indented_line (b ∷ line) (pieces_of (lines ++ rest)) parts.0
    ∙ ap (joined_to (b ∷ line) (pieces_of (lines ++ rest))) (run false lines rest parts.1 beyond)
    ∙ joined_run (b ∷ line) lines rest)

indented_run : (line : List ℕ) (lines rest : List (List ℕ)) → is_indented line ≡ true
    → goes_on false lines ≡ true
    → indented_beyond (pieces_of rest) ≡ false → pieces_of (line ∷ (lines ++ rest))
    ≡ indented (line ∷ lines) ∷ pieces_of rest
indented_run line lines rest is on beyond =
    indented_line line (pieces_of (lines ++ rest)) is
    ∙ ap (joined_to line (pieces_of (lines ++ rest))) (run false lines rest on beyond)
    ∙ joined_run line lines rest

cut_alone : (pieces : List Piece) → list_all is_piece pieces ≡ true → are_apart pieces ≡ true
    → pieces_of (flat_map lines_in pieces) ≡ pieces
cut_alone [] valid apart = refl
cut_alone (gap ∷ pieces) valid apart = ap (λ ps. gap ∷ ps) (cut_alone pieces valid apart)
cut_alone (plain [] ∷ pieces) valid apart = absurd (true≢false (sym valid))
cut_alone (plain (line ∷ lines) ∷ pieces) valid apart =
    let each = and_parts (is_piece (plain (line ∷ lines))) (list_all is_piece pieces) valid in
    let kinds = and_parts (is_plain line) (list_all is_plain lines) each.0 in
    let sides = and_parts (not (begins_plain pieces)) (are_apart pieces) apart in
    let rest = cut_alone pieces each.1 sides.1 in
    plain_run line lines (flat_map lines_in pieces) kinds.0 kinds.1
    (ap begins_plain rest ∙ not-true (begins_plain pieces) sides.0)
    ∙ ap (λ ps. plain (line ∷ lines) ∷ ps) rest
cut_alone (indented [] ∷ pieces) valid apart = absurd (true≢false (sym valid))
cut_alone (indented (line ∷ lines) ∷ pieces) valid apart =
    let each = and_parts (is_piece (indented (line ∷ lines))) (list_all is_piece pieces) valid in
    let kinds = and_parts (is_indented line) (goes_on false lines) each.0 in
    let sides = and_parts (not (indented_beyond pieces)) (are_apart pieces) apart in
    let rest = cut_alone pieces each.1 sides.1 in
    indented_run line lines (flat_map lines_in pieces) kinds.0 kinds.1
    (ap indented_beyond rest ∙ not-true (indented_beyond pieces) sides.0)
    ∙ ap (λ ps. indented (line ∷ lines) ∷ ps) rest

pub only_cutting : (pieces : List Piece) (lines : List (List ℕ)) → IsCutting pieces lines → pieces
    ≡ pieces_of lines
only_cutting pieces lines cut =
    sym (subst (λ ls. pieces_of ls ≡ pieces) cut.whole (cut_alone pieces cut.valid cut.apart))

-- what holds of the pieces after a span that is reached
record Behind (pieces : List Piece) (reach : Reach) : Type 0 where
  whole : reach.0 ++ flat_map lines_in reach.1 ≡ flat_map lines_in pieces
  on : (gapped : Bool) → goes_on gapped reach.0 ≡ true
  valid : list_all is_piece reach.1 ≡ true
  beyond : indented_beyond reach.1 ≡ false
  apart : are_apart reach.1 ≡ true

-- the same, or that no indented span is next
abbrev BehindIf : List Piece → Option Reach → Type 0
BehindIf pieces None = indented_beyond pieces ≡ false
BehindIf pieces (Some reach) = Behind pieces reach

behind_gap_if : (pieces : List Piece) (o : Option Reach) → BehindIf pieces o
    → BehindIf (gap ∷ pieces) (behind_gap o)
behind_gap_if pieces None h = h
behind_gap_if pieces (Some reach) h = record {
  whole = ap (λ ls. [] ∷ ls) h.whole;
  on = λ gapped. h.on true;
  valid = h.valid;
  beyond = h.beyond;
  apart = h.apart;
}

goes_on_indented : (line : List ℕ) (lines : List (List ℕ)) → is_indented line ≡ true
    → goes_on false lines ≡ true
    → (gapped : Bool) → goes_on gapped (line ∷ lines) ≡ true
goes_on_indented [] lines is on gapped = absurd (true≢false (sym is))
goes_on_indented (b ∷ line) lines is on gapped = and_from (is_blank b) (goes_on false lines) is on

reached_is : (pieces : List Piece) → list_all is_piece pieces ≡ true → are_apart pieces ≡ true
    → BehindIf pieces (reached pieces)
reached_is [] valid apart = refl
reached_is (gap ∷ pieces) valid apart =
    behind_gap_if pieces (reached pieces) (reached_is pieces valid apart)
reached_is (plain lines ∷ pieces) valid apart = refl
reached_is (indented [] ∷ pieces) valid apart = absurd (true≢false (sym valid))
reached_is (indented (line ∷ lines) ∷ pieces) valid apart =
    let each = and_parts (is_piece (indented (line ∷ lines))) (list_all is_piece pieces) valid in
    let kinds = and_parts (is_indented line) (goes_on false lines) each.0 in
    let sides = and_parts (not (indented_beyond pieces)) (are_apart pieces) apart in
    record {
      whole = refl;
      on = goes_on_indented line lines kinds.0 kinds.1;
      valid = each.1;
      beyond = not-true (indented_beyond pieces) sides.0;
      apart = sides.1;
    }

plain_first : (line : List ℕ) (pieces : List Piece) (lines : List (List ℕ)) → is_plain line ≡ true
    → IsCutting pieces lines
    → IsCutting (with_plain line pieces) (line ∷ lines)
plain_first line [] lines is cut = record {
  whole = ap (λ ls. line ∷ ls) cut.whole;
  valid = and_from (is_plain line && true) true (and_from (is_plain line) true is refl) refl;
  apart = refl;
}
plain_first line (gap ∷ pieces) lines is cut = record {
  whole = ap (λ ls. line ∷ ls) cut.whole;
  valid = and_from (is_plain line && true) (list_all is_piece pieces)
      (and_from (is_plain line) true is refl) cut.valid;
  apart = cut.apart;
}
plain_first line (plain [] ∷ pieces) lines is cut = absurd (true≢false (sym cut.valid))
plain_first line (plain (next ∷ more) ∷ pieces) lines is cut =
    let each = and_parts (is_piece (plain (next ∷ more))) (list_all is_piece pieces) cut.valid in
    record {
      whole = ap (λ ls. line ∷ ls) cut.whole;
      valid = and_from (is_plain line && (is_plain next && list_all is_plain more))
          (list_all is_piece pieces)
          (and_from (is_plain line) (is_plain next && list_all is_plain more) is each.0) each.1;
      apart = cut.apart;
    }
plain_first line (indented more ∷ pieces) lines is cut = record {
  whole = ap (λ ls. line ∷ ls) cut.whole;
  valid = and_from (is_plain line && true) (list_all is_piece (indented more ∷ pieces))
      (and_from (is_plain line) true is refl) cut.valid;
  apart = cut.apart;
}

indented_first : (line : List ℕ) (pieces : List Piece) (lines : List (List ℕ)) (o : Option Reach)
    → is_indented line ≡ true → IsCutting pieces lines
    → BehindIf pieces o → IsCutting (joined_to line pieces o) (line ∷ lines)
indented_first line pieces lines None is cut h = record {
  whole = ap (λ ls. line ∷ ls) cut.whole;
  valid = and_from (is_indented line && true) (list_all is_piece pieces)
      (and_from (is_indented line) true is refl) cut.valid;
  apart = and_from (not (indented_beyond pieces)) (are_apart pieces)
      (not_from_false (indented_beyond pieces) h) cut.apart;
}
indented_first line pieces lines (Some reach) is cut h = record {
  whole = ap (λ ls. line ∷ ls) (h.whole ∙ cut.whole);
  valid = and_from (is_indented line && goes_on false reach.0) (list_all is_piece reach.1)
      (and_from (is_indented line) (goes_on false reach.0) is (h.on false)) h.valid;
  apart = and_from (not (indented_beyond reach.1)) (are_apart reach.1)
      (not_from_false (indented_beyond reach.1) h.beyond) h.apart;
}

line_first : (line : List ℕ) (pieces : List Piece) (lines : List (List ℕ)) → IsCutting pieces lines
    → IsCutting (with_line line pieces) (line ∷ lines)
line_first [] pieces lines cut =
    record { whole = ap (λ ls. [] ∷ ls) cut.whole; valid = cut.valid; apart = cut.apart }
line_first (b ∷ line) pieces lines cut = ⊎_elim
    (λ (blank : is_blank b ≡ true).
    subst (λ ps. IsCutting ps ((b ∷ line) ∷ lines)) (sym (indented_line (b ∷ line) pieces blank))
    (indented_first (b ∷ line) pieces lines (reached pieces) blank cut
    (reached_is pieces cut.valid cut.apart)))
    (λ (other : is_blank b ≡ false).
    subst (λ ps. IsCutting ps ((b ∷ line) ∷ lines))
    (sym (plain_line (b ∷ line) pieces (not_from_false (is_blank b) other)))
    (plain_first (b ∷ line) pieces lines (not_from_false (is_blank b) other) cut))
    (cases_Bool (is_blank b))

pub a_cutting : (lines : List (List ℕ)) → IsCutting (pieces_of lines) lines
a_cutting [] = record { whole = refl; valid = refl; apart = refl }
a_cutting (line ∷ lines) = line_first line (pieces_of lines) lines (a_cutting lines)

-- whether the pieces of lines begin with a plain span
begins_joined : (line : List ℕ) (pieces : List Piece) (o : Option Reach)
    → begins_plain (joined_to line pieces o) ≡ false
begins_joined line pieces None = refl
begins_joined line pieces (Some reach) = refl

not_plain_first : (line : List ℕ) (pieces : List Piece) → is_plain line ≡ false
    → begins_plain (with_line line pieces) ≡ false
not_plain_first [] pieces other = refl
not_plain_first (b ∷ line) pieces other = ⊎_elim
    (λ (blank : is_blank b ≡ true).
    ap begins_plain (indented_line (b ∷ line) pieces blank)
    ∙ begins_joined (b ∷ line) pieces (reached pieces))
    (λ (no : is_blank b ≡ false).
    absurd (true≢false (sym (not_from_false (is_blank b) no) ∙ other)))
    (cases_Bool (is_blank b))

-- the span at the front
abbrev plain_at_front : List ℕ → List (List ℕ) → ℕ → Type 0
plain_at_front line lines n = pieces_of (line ∷ lines)
    ≡ plain (line ∷ take n lines) ∷ pieces_of (drop n lines)

pub plain_front : (line : List ℕ) (lines : List (List ℕ)) → is_plain line ≡ true
    → plain_at_front line lines (prefix_len is_plain lines)
plain_front line [] is = plain_line line [] is
plain_front line (next ∷ more) is = ⊎_elim
    (λ (yes : is_plain next ≡ true).
    let n = prefix_len is_plain more in
    let len : prefix_len is_plain (next ∷ more) ≡ suc n = cond-true (is_plain next) (1 + n) 0 yes
    ∙ omega arith in
    subst (plain_at_front line (next ∷ more)) (sym len)
    (plain_line line (pieces_of (next ∷ more)) is
    ∙ ap (with_plain line) (plain_front next more yes)))
    (λ (no : is_plain next ≡ false).
    let len : prefix_len is_plain (next ∷ more)
    ≡ 0 = cond-false (is_plain next) (1 + prefix_len is_plain more) 0 no in
    subst (plain_at_front line (next ∷ more)) (sym len)
    (plain_line line (pieces_of (next ∷ more)) is
    ∙ with_plain_apart line (pieces_of (next ∷ more))
    (not_plain_first next (pieces_of more) no)))
    (cases_Bool (is_plain next))

-- what is reached from lines, by how many go on
abbrev front_reached : ℕ → List (List ℕ) → Option Reach
front_reached zero lines = None
front_reached (suc n) lines = Some (take (suc n) lines, pieces_of (drop (suc n) lines))

gap_further : (n : ℕ) (lines : List (List ℕ)) → behind_gap (front_reached n lines)
    ≡ front_reached (one_further n) ([] ∷ lines)
gap_further zero lines = refl
gap_further (suc n) lines =
    let further : one_further (suc n) ≡ suc (suc n) =
    cond-false (suc n == 0) 0 (1 + suc n) (ne_eqb (suc n) 0 (λ e. absurd (omega (arith, e))))
    ∙ omega arith in
    sym (ap (λ m. front_reached m ([] ∷ lines)) further)

joined_further : (line : List ℕ) (n : ℕ) (lines : List (List ℕ))
    → joined_to line (pieces_of lines) (front_reached n lines)
    ≡ indented (line ∷ take n lines) ∷ pieces_of (drop n lines)
joined_further line zero lines = refl
joined_further line (suc n) lines = refl

plain_not_reached : (line : List ℕ) (pieces : List Piece) → reached (with_plain line pieces) ≡ None
plain_not_reached line [] = refl
plain_not_reached line (gap ∷ pieces) = refl
plain_not_reached line (plain lines ∷ pieces) = refl
plain_not_reached line (indented lines ∷ pieces) = refl

reached_front : (lines : List (List ℕ)) → reached (pieces_of lines)
    ≡ front_reached (reach lines) lines
reached_front [] = refl
reached_front ([] ∷ lines) = ap behind_gap (reached_front lines) ∙ gap_further (reach lines) lines
reached_front ((b ∷ line) ∷ lines) = ⊎_elim
    (λ (blank : is_blank b ≡ true).
    let n = reach lines in
    let len : reach ((b ∷ line) ∷ lines) ≡ suc n = cond-true (is_blank b) (1 + n) 0 blank
    ∙ omega arith in
    ap reached (indented_line (b ∷ line) (pieces_of lines) blank
    ∙ ap (joined_to (b ∷ line) (pieces_of lines)) (reached_front lines)
    ∙ joined_further (b ∷ line) n lines)
    ∙ sym (ap (λ m. front_reached m ((b ∷ line) ∷ lines)) len))
    (λ (no : is_blank b ≡ false).
    let len : reach ((b ∷ line) ∷ lines) ≡ 0 = cond-false (is_blank b) (1 + reach lines) 0 no in
    ap reached (plain_line (b ∷ line) (pieces_of lines) (not_from_false (is_blank b) no))
    ∙ plain_not_reached (b ∷ line) (pieces_of lines)
    ∙ sym (ap (λ m. front_reached m ((b ∷ line) ∷ lines)) len))
    (cases_Bool (is_blank b))

pub indented_front : (line : List ℕ) (lines : List (List ℕ)) → is_indented line ≡ true
    → pieces_of (line ∷ lines)
    ≡ indented (line ∷ take (reach lines) lines) ∷ pieces_of (drop (reach lines) lines)
indented_front line lines is =
    indented_line line (pieces_of lines) is
    ∙ ap (joined_to line (pieces_of lines)) (reached_front lines)
    ∙ joined_further line (reach lines) lines
