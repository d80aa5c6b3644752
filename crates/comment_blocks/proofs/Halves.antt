-- What halving finds.
use Rattle.std.proofs.Common.{◌≡◌, ◌==◌, ℕ, zero, suc, ◌+◌, ◌<◌, ◌≤◌, Bool, true, false, List, []}
use Rattle.std.proofs.Common.{◌∷◌, length, get_or, refl, sym, ◌∙◌, ap, ⊎_elim, arith, cond, leb}
use Rattle.std.proofs.Common.{ltb, Option, Some, None, true≢false}
use Rattle.std.specs.Prelude.{count_by, slice_get, ◌||◌, ◌&&◌}
use Rattle.std.specs.List.{list_any}
use Rattle.std.specs.List.Sorted.{IsPartitionPoint}
use Rattle.std.proofs.lemmas.Bool.{cases_Bool, or_left, or_from, false_from_ne_true, leb-true}
use Rattle.std.proofs.lemmas.Bool.{le-leb, lt-leb, ltb-true, ltb-false, eqb-true, eq-eqb, ne_eqb}
use Rattle.std.proofs.lemmas.Bool.{and_parts, and_from, and_left}
use Rattle.std.proofs.lemmas.List.Sums.{sum_by-cons}
use Rattle.std.proofs.lemmas.List.Folds.{list_any_none}
use Rattle.go_ast.specs.declared.token.Token.{Token}
use Rattle.go_ast.specs.declared.token.Scanned.{Scanned}
use Rattle.comment_blocks.specs.Groups.{line_at, token_ends_on, token_between}
use Rattle.comment_blocks.specs.GroupSteps.{IsInOrder}

-- where all before a place pass and none after it does, the place is their number
pub count_point : {X : Type 0} (p : X → Bool) (xs : List X) (n : ℕ) → n ≤ length xs
    → ((k : ℕ) (d : X) → k < n → p (get_or xs k d) ≡ true)
    → ((k : ℕ) (d : X) → n ≤ k → k < length xs → p (get_or xs k d) ≡ false)
    → n ≡ count_by p xs
count_point p [] n within pass fail = omega arith
count_point p (x ∷ xs) zero within pass fail =
    let here : cond {A = ℕ} (p x) 1 0
    ≡ 0 = ap (λ b. cond {A = ℕ} b 1 0) (fail 0 x (omega arith) (omega arith)) in
    let rest : 0 ≡ count_by p xs = count_point p xs 0 (omega arith) (λ k d h. absurd (omega arith))
    (λ k d a b. fail (suc k) d (omega arith) (omega arith)) in
    let whole : count_by p (x ∷ xs)
    ≡ cond {A = ℕ} (p x) 1 0 + count_by p xs = sum_by-cons (λ y. cond (p y) 1 0) x xs in
    omega arith
count_point p (x ∷ xs) (suc n) within pass fail =
    let here : cond {A = ℕ} (p x) 1 0 ≡ 1 = ap (λ b. cond {A = ℕ} b 1 0) (pass 0 x (omega arith)) in
    let rest : n ≡ count_by p xs =
    count_point p xs n (omega arith) (λ k d h. pass (suc k) d (omega arith))
    (λ k d a b. fail (suc k) d (omega arith) (omega arith)) in
    let whole : count_by p (x ∷ xs)
    ≡ cond {A = ℕ} (p x) 1 0 + count_by p xs = sum_by-cons (λ y. cond (p y) 1 0) x xs in
    omega arith

-- whether there is an element, and it passes
abbrev pub at_place : {X : Type 0} → (X → Bool) → Option X → Bool
at_place q None = false
at_place q (Some x) = q x

-- where none before a place passes, and one after it only if the one at the place does
pub any_at : {X : Type 0} (q : X → Bool) (xs : List X) (n : ℕ)
    → ((k : ℕ) (d : X) → k < n → k < length xs → q (get_or xs k d) ≡ false)
    → ((k : ℕ) (d : X) → n ≤ k → k < length xs → q (get_or xs k d) ≡ true → q (get_or xs n d)
    ≡ true)
    → list_any q xs ≡ at_place q (slice_get xs n)
any_at q [] n below above = refl
any_at q (x ∷ xs) zero below above = ⊎_elim
    (λ (yes : q x ≡ true). or_left (q x) (list_any q xs) yes ∙ sym yes)
    (λ (no : q x ≡ false).
    or_from (q x) (list_any q xs) no
    (list_any_none q xs (λ k d h. false_from_ne_true _ (λ yes.
    true≢false (sym (above (suc k) d (omega arith) (omega arith) yes) ∙ no))))
    ∙ sym no)
    (cases_Bool (q x))
any_at q (x ∷ xs) (suc n) below above =
    ap (λ b. b || list_any q xs) (below 0 x (omega arith) (omega arith))
    ∙ any_at q xs n (λ k d h w. below (suc k) d (omega arith) (omega arith))
    (λ k d a b yes. above (suc k) d (omega arith) (omega arith) yes)

one_below : (s t : Bool) → (s ≡ true → t ≡ true) → cond s 1 0 ≤ cond t 1 0
one_below false t h = omega arith
one_below true true h = omega arith
one_below true false h = absurd (true≢false (sym (h refl)))

-- a later offset is in no earlier line
pub line_at_never_falls : (starts : List ℕ) (a b : ℕ) → a ≤ b → line_at starts a ≤ line_at starts b
line_at_never_falls [] a b le = omega arith
line_at_never_falls (x ∷ xs) a b le =
    let rest = line_at_never_falls xs a b le in
    let here = one_below (leb x a) (leb x b) (λ yes. le-leb x b (omega (arith, leb-true x a yes)))
    in
    let whole_a : line_at (x ∷ xs) a
    ≡ cond (leb x a) 1 0 + line_at xs a = sum_by-cons (λ y. cond (leb y a) 1 0) x xs in
    let whole_b : line_at (x ∷ xs) b
    ≡ cond (leb x b) 1 0 + line_at xs b = sum_by-cons (λ y. cond (leb y b) 1 0) x xs in
    omega arith

-- whether a token ends on a line, by the first that ends on it or on a later one
pub ends_found : (scanned : Scanned) (line place : ℕ) → IsInOrder scanned
    → IsPartitionPoint (λ (t : Token). ltb (line_at scanned.lines t.span.end) line ≡ true)
    (λ (t : Token). ltb (line_at scanned.lines t.span.end) line ≡ false) scanned.tokens place
    → token_ends_on scanned line
    ≡ at_place (λ (t : Token). line_at scanned.lines t.span.end == line)
    (slice_get scanned.tokens place)
ends_found scanned line place ordered point =
    any_at (λ (t : Token). line_at scanned.lines t.span.end == line) scanned.tokens place
    (λ k d below within. ne_eqb _ _
    (λ same. absurd (omega (arith, ltb-true _ _ (point.0 k d (omega arith) below)))))
    (λ k d above within yes.
    let low = ltb-false _ _ (point.1 place d (omega arith) (omega arith)) in
    let high = line_at_never_falls scanned.lines _ _ (ordered.token_ends place k d above within) in
    eq-eqb _ _ (omega (arith, eqb-true _ _ yes)))

-- whether a token stands between two offsets, by the first that begins at the first or later
pub between_found : (scanned : Scanned) (from to place : ℕ) → IsInOrder scanned
    → IsPartitionPoint (λ (t : Token). ltb t.span.start from ≡ true)
    (λ (t : Token). ltb t.span.start from ≡ false) scanned.tokens place
    → token_between scanned.tokens from to
    ≡ at_place (λ (t : Token). leb from t.span.start && leb t.span.end to)
    (slice_get scanned.tokens place)
between_found scanned from to place ordered point =
    any_at (λ (t : Token). leb from t.span.start && leb t.span.end to) scanned.tokens place
    (λ k d below within. and_left _ _ (lt-leb _ _ (ltb-true _ _ (point.0 k d (omega arith) below))))
    (λ k d above within yes.
    let parts = and_parts (leb from (get_or scanned.tokens k d).span.start)
    (leb (get_or scanned.tokens k d).span.end to) yes in
    let low = ltb-false _ _ (point.1 place d (omega arith) (omega arith)) in
    let high = ordered.token_ends place k d above within in
    and_from _ _ (le-leb _ _ low) (le-leb _ _ (omega (arith, leb-true _ _ parts.1))))
