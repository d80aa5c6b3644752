-- The offsets where the lines of a source begin, and the line and column that they give.
use Rattle.std.proofs.Common.{◌≡◌, ℕ, zero, suc, ◌+◌, ◌<◌, ◌≤◌, Bool, true, false, List, [], ◌∷◌}
use Rattle.std.proofs.Common.{length, get_or, take, refl, sym, ap, ◌∙◌, ⊎_elim, arith, cond}
use Rattle.std.proofs.Common.{add-one}
use Rattle.std.specs.Prelude.{count_by, ◌==◌, if◌then◌else◌}
use Rattle.std.proofs.lemmas.Bool.{cases_lt}
use Rattle.std.proofs.lemmas.List.Sums.{sum_by-cons}
use Rattle.go_ast.specs.Characters.{newline}
use Rattle.go_ast.specs.Position.{offsets_after_newlines, line_starts, line_of, column_of}
use Rattle.go_ast.specs.Position.{column_after}
use Rattle.go_scanner.specs.LineIndex.{AreLineStarts, IsPosition}

-- numbers that rise strictly never fall
pub not_falling : (xs : List ℕ)
    → ((i j : ℕ) → i < j → j < length xs → get_or xs i 0 < get_or xs j 0)
    → (i j : ℕ) → i ≤ j → j < length xs → get_or xs i 0 ≤ get_or xs j 0
not_falling xs rising i j le lt = ⊎_elim
    (λ below. omega (arith, rising i j below lt))
    (λ above. let same : i ≡ j = omega arith in omega (arith, ap (λ k. get_or xs k 0) same))
    (cases_lt i j)

-- where a number is below the first of these only if the place is the first, it is past it
pub some_before : (n first x : ℕ) → first ≡ 0 → (n ≡ 0 → x < first) → 0 < n
some_before zero first x e h = absurd (omega (arith, h refl))
some_before (suc n) first x e h = omega arith

above_cons : (o : ℕ) (xs : List ℕ) (k : ℕ) → ((j : ℕ) → j < length xs → o < get_or xs j 0)
    → k < length ((o + 1) ∷ xs) → o < get_or ((o + 1) ∷ xs) k 0
above_cons o xs zero each h = omega arith
above_cons o xs (suc k) each h = each k (omega arith)

-- each line but the first begins past the offset where the bytes begin
pub above : (bytes : List ℕ) (o k : ℕ) → k < length (offsets_after_newlines o bytes)
    → o < get_or (offsets_after_newlines o bytes) k 0
above [] o k h = absurd (omega arith)
above (b ∷ bytes) o k h =
    let later : (j : ℕ) → j < length (offsets_after_newlines (o + 1) bytes)
    → o < get_or (offsets_after_newlines (o + 1) bytes) j 0
    = λ j lt. omega (arith, above bytes (o + 1) j lt) in
    (elim (b == newline) as
    (λ t. k < length (if t then (o + 1) ∷ offsets_after_newlines (o + 1) bytes
    else offsets_after_newlines (o + 1) bytes)
    → o < get_or (if t then (o + 1) ∷ offsets_after_newlines (o + 1) bytes
    else offsets_after_newlines (o + 1) bytes) k 0)
    [ true ↦ above_cons o _ k later | false ↦ later k ]) h

-- a number before numbers that rise, all of them above it
pub rising_cons : (x : ℕ) (xs : List ℕ) → ((j : ℕ) → j < length xs → x < get_or xs j 0)
    → ((i j : ℕ) → i < j → j < length xs → get_or xs i 0 < get_or xs j 0)
    → (i j : ℕ) → i < j → j < length (x ∷ xs) → get_or (x ∷ xs) i 0 < get_or (x ∷ xs) j 0
rising_cons x xs each rising zero zero lt h = absurd (omega arith)
rising_cons x xs each rising (suc i) zero lt h = absurd (omega arith)
rising_cons x xs each rising zero (suc j) lt h = each j (omega arith)
rising_cons x xs each rising (suc i) (suc j) lt h = rising i j (omega arith) (omega arith)

pub rising : (bytes : List ℕ) (o i j : ℕ) → i < j → j < length (offsets_after_newlines o bytes)
    → get_or (offsets_after_newlines o bytes) i 0 < get_or (offsets_after_newlines o bytes) j 0
rising [] o i j lt h = absurd (omega arith)
rising (b ∷ bytes) o i j lt h =
    (elim (b == newline) as
    (λ t. j < length (if t then (o + 1) ∷ offsets_after_newlines (o + 1) bytes
    else offsets_after_newlines (o + 1) bytes)
    → get_or (if t then (o + 1) ∷ offsets_after_newlines (o + 1) bytes
    else offsets_after_newlines (o + 1) bytes) i 0
    < get_or (if t then (o + 1) ∷ offsets_after_newlines (o + 1) bytes
    else offsets_after_newlines (o + 1) bytes) j 0) [
      | true ↦ rising_cons (o + 1) _ (above bytes (o + 1)) (rising bytes (o + 1)) i j lt
      | false ↦ rising bytes (o + 1) i j lt
    ]) h

pub AreLineStarts-line_starts : (bytes : List ℕ) → AreLineStarts (line_starts bytes)
AreLineStarts-line_starts bytes = record {
  some = omega arith;
  first = refl;
  rising = rising_cons 0 _ (above bytes 0) (rising bytes 0);
}

-- what the line with index n says, d bytes on from the offset o in a line that began at start and
-- stands at the column c
record IsCounted (bytes : List ℕ) (o start c d n : ℕ) : Type 0 where
  count : n ≡ count_by (λ b. b == newline) (take d bytes)
  column : column_after c (take d bytes) + get_or (start ∷ offsets_after_newlines o bytes) n 0 ≡ o
      + d + 1

abbrev HasIndex : List ℕ → ℕ → ℕ → Type 0
HasIndex starts x n = (n < length starts) × (get_or starts n 0 ≤ x)
    × (suc n < length starts → x < get_or starts (suc n) 0)

-- what `counted` says of the bytes after the first
abbrev Counted : List ℕ → Type 0
Counted bytes = (o start c d n : ℕ) → start ≤ o → d ≤ length bytes → c + start ≡ o + 1
    → HasIndex (start ∷ offsets_after_newlines o bytes) (o + d) n → IsCounted bytes o start c d n

abbrev Says : Bool → List ℕ → ℕ → ℕ → ℕ → ℕ → ℕ → Type 0
Says t bytes o start c d n =
    (n ≡ cond t 1 0 + count_by (λ b. b == newline) (take d bytes))
    × (column_after (if t then 1 else c + 1) (take d bytes)
    + get_or
    (start ∷ (if t then (o + 1) ∷ offsets_after_newlines (o + 1) bytes
    else offsets_after_newlines (o + 1) bytes)) n 0 ≡ o + suc d + 1)

past_newline : (bytes : List ℕ) (o start c d n : ℕ) → Counted bytes → start ≤ o → d ≤ length bytes
    → c + start ≡ o + 1
    → HasIndex (start ∷ (o + 1) ∷ offsets_after_newlines (o + 1) bytes) (o + suc d) n
    → Says true bytes o start c d n
past_newline bytes o start c d zero ih le within at h = absurd (omega (arith, h.2 (omega arith)))
past_newline bytes o start c d (suc n) ih le within at h =
    let found = ih (o + 1) (o + 1) 1 d n (omega arith) within (omega arith)
    (omega (arith, h.0), omega (arith, h.1), λ lt. omega (arith, h.2 (omega (arith, lt)))) in
    (omega (arith, found.count), omega (arith, found.column))

past_other : (bytes : List ℕ) (o start c d n : ℕ) → Counted bytes → start ≤ o → d ≤ length bytes
    → c + start ≡ o + 1
    → HasIndex (start ∷ offsets_after_newlines (o + 1) bytes) (o + suc d) n
    → Says false bytes o start c d n
past_other bytes o start c d n ih le within at h =
    let found = ih (o + 1) start (c + 1) d n (omega arith) within (omega arith)
    (h.0, omega (arith, h.1), λ lt. omega (arith, h.2 lt)) in
    (omega (arith, found.count), omega (arith, found.column))

past : (t : Bool) (bytes : List ℕ) (o start c d n : ℕ) → Counted bytes → start ≤ o
    → d ≤ length bytes → c + start ≡ o + 1
    → HasIndex
    (start ∷ (if t then (o + 1) ∷ offsets_after_newlines (o + 1) bytes
    else offsets_after_newlines (o + 1) bytes)) (o + suc d) n
    → Says t bytes o start c d n
past true = past_newline
past false = past_other

-- no byte on: the line is the one that the bytes begin in
here : (xs : List ℕ) (o start c n : ℕ) → ((j : ℕ) → j < length xs → o < get_or xs j 0)
    → c + start ≡ o + 1 → HasIndex (start ∷ xs) (o + 0) n
    → (n ≡ 0) × (c + get_or (start ∷ xs) n 0 ≡ o + 0 + 1)
here xs o start c zero each at h = (refl, omega arith)
here xs o start c (suc n) each at h = absurd (omega (arith, each n (omega (arith, h.0)), h.1))

counted_cons : (b : ℕ) (bytes : List ℕ) → Counted bytes → Counted (b ∷ bytes)
counted_cons b bytes ih o start c zero n le within at h =
    let found = here _ o start c n (above (b ∷ bytes) o) at h in
    record { count = found.0; column = found.1 }
counted_cons b bytes ih o start c (suc d) n le within at h =
    let found = past (b == newline) bytes o start c d n ih le (omega arith) at h in
    record {
      count = found.0 ∙ sym (sum_by-cons (λ e. cond (e == newline) 1 0) b (take d bytes));
      column = found.1;
    }

counted_nil : Counted []
counted_nil o start c d n le within at h =
    let e : d ≡ 0 = omega arith in
    let z : n ≡ 0 = omega (arith, h.0) in
    rw e (rw z (record { count = refl; column = omega arith }))

counted : (bytes : List ℕ) → Counted bytes
counted [] = counted_nil
counted (b ∷ bytes) = counted_cons b bytes (counted bytes)

-- the line and the column of an offset are those that the offsets of the lines give
pub position_is : (bytes : List ℕ) (offset line column : ℕ) → offset ≤ length bytes
    → IsPosition (line_starts bytes) offset line column → (line ≡ line_of bytes offset)
    × (column ≡ column_of bytes offset)
position_is bytes offset line column within p =
    let found = counted bytes 0 0 1 offset p.index (omega arith) within (omega arith) (
      p.in_line.within,
      omega (arith, p.in_line.in_line),
      λ lt. omega (arith, (rw add-one at p.in_line.before_next) lt),
    ) in
    (omega (arith, found.count, p.line_is), omega (arith, found.column, p.column_is))
