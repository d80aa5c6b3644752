-- What is read where a test of the code holds.
use Rattle.std.proofs.Common.{◌≡◌, sym, refl, ℕ, Bool, true, false, ◌&&◌, ◌==◌}
use Rattle.std.proofs.Common.{List, [], ◌∷◌, ◌++◌, length, Some, None, arith}
use Rattle.std.proofs.lemmas.Bool.Decides.{nat_tests}
use Rattle.go_ast.specs.declared.word.Word.{Word}
use Rattle.go_ast.specs.declared.word.Mark.{Mark}
use Rattle.go_ast.specs.declared.word.Mark.TheVariants as m
use Rattle.go_ast.specs.Cutting.{depth_after, pieces, pieces_from, range_of_all, split_once}
use Rattle.go_ast.specs.Marks.{same_mark}
use Rattle.go_parser.specs.Reading.{only_receiver, read_assigned, read_receiver, read_value_spec}

pub value-split : (constant : Bool) (ws front run : List Word) → (length ws == 0) ≡ false
    → Some (front, run) ≡ split_once m.Equal ws
    → read_value_spec constant ws ≡ read_assigned (range_of_all ws) front run
unfolding read_value_spec
value-split constant [] front run some is = absurd (cc)
value-split constant (w ∷ ws) front run some is = rw (sym is) refl

some-word : {A : Type 0} (x : A) (xs : List A) → (length (x ∷ xs) == 0) ≡ true → ⊥
some-word x xs e = let none : length (x ∷ xs) ≡ 0 = grind (arith, nat_tests, e) in
    absurd (omega (arith, none))

-- words have a piece
piece-from : (mark : Mark) (depth : ℕ) (front : List Word) (w : Word) (ws : List Word)
    → (p : List Word) × (ps : List (List Word)) × (pieces_from mark depth front (w ∷ ws) ≡ p ∷ ps)
piece-from mark depth front w [] = go (depth == 0 && same_mark w.mark mark) refl
  where
    one : (us : List Word) → (p : List Word) × (ps : List (List Word))
        × (pieces_from mark (depth_after depth w.mark) (us ++ w ∷ []) [] ≡ p ∷ ps)
    one [] = (w ∷ [], [], refl)
    one (u ∷ us) = (u ∷ us ++ w ∷ [], [], refl)

    go : (t : Bool) → (depth == 0 && same_mark w.mark mark) ≡ t
        → (p : List Word) × (ps : List (List Word))
        × (pieces_from mark depth front (w ∷ []) ≡ p ∷ ps)
    go true h = (front, [], rw h refl)
    go false h = let last = one front in (last.0, last.1, rw h last.2)
piece-from mark depth front w (v ∷ vs) =
    go (depth == 0 && same_mark w.mark mark) refl
    (piece-from mark (depth_after depth w.mark) (front ++ w ∷ []) v vs)
  where
    go : (t : Bool) → (depth == 0 && same_mark w.mark mark) ≡ t
        → ((p : List Word) × (ps : List (List Word))
        × (pieces_from mark (depth_after depth w.mark) (front ++ w ∷ []) (v ∷ vs) ≡ p ∷ ps))
        → (p : List Word) × (ps : List (List Word))
        × (pieces_from mark depth front (w ∷ v ∷ vs) ≡ p ∷ ps)
    go true h more = (front, pieces_from mark 0 [] (v ∷ vs), rw h refl)
    go false h more = (more.0, more.1, rw h more.2)

pub no-receiver : (ws : List Word) → (length ws == 0) ≡ true
    → only_receiver (pieces m.Comma ws) ≡ None
unfolding pieces
no-receiver [] e = refl
no-receiver (w ∷ ws) e = absurd (some-word w ws e)

pub one-receiver : (ws entry rest : List Word) → (length rest == 0) ≡ true
    → pieces m.Comma ws ≡ entry ∷ pieces m.Comma rest
    → only_receiver (pieces m.Comma ws) ≡ read_receiver entry
unfolding pieces
one-receiver ws entry [] e is = rw is refl
one-receiver ws entry (v ∷ vs) e is = absurd (some-word v vs e)

pub two-receivers : (ws entry rest : List Word) → (length rest == 0) ≡ false
    → pieces m.Comma ws ≡ entry ∷ pieces m.Comma rest → only_receiver (pieces m.Comma ws) ≡ None
unfolding pieces
two-receivers ws entry [] e is = absurd (cc)
two-receivers ws entry (v ∷ vs) e is =
    let more = piece-from m.Comma 0 [] v vs in rw (is, more.2) refl
