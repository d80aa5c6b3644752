-- Lists that are cut at separators.
use Rattle.std.proofs.Common.{◌≡◌, ◌∙◌, ap, sym, refl, ℕ, suc, Bool, true}
use Rattle.std.proofs.lemmas.Bool.Decides.{nat_tests}
use Rattle.std.proofs.Common.{false, ◌&&◌, ◌==◌, List, [], ◌∷◌, ◌++◌, append_assoc}
use Rattle.std.proofs.Common.{Option, Some, None, append-nil, length, take, drop, arith, ◌-◌, ◌≤◌}
use Rattle.std.proofs.Common.{◌<◌, take_all}
use Rattle.go_ast.specs.declared.word.Word.{Word}
use Rattle.go_ast.specs.declared.word.Mark.{Mark}
use Rattle.go_ast.specs.declared.word.Mark.TheVariants as m
use Rattle.go_ast.specs.Cutting.{depth_after, in_front, pieces_from, pieces, split_from, split_once}
use Rattle.go_ast.specs.Marks.{same_mark}
use Rattle.go_ast.specs.TypeParameters.{ends_with_comma, is_one_piece}
use Rattle.type_parser.specs.Cut.{before}

-- a separator outside brackets
abbrev pub cuts : Mark → ℕ → Word → Bool
cuts mark depth w = depth == 0 && same_mark w.mark mark

-- up to the first separator there is one piece
pieces_from-more : (mark : Mark) (depth : ℕ) (front ws : List Word) (s : Word) (rest : List Word)
    → drop (before mark depth ws) ws ≡ s ∷ rest
    → pieces_from mark depth front ws ≡ (front ++ take (before mark depth ws) ws)
    ∷ pieces_from mark 0 [] rest
pieces_from-more mark depth front [] s rest e = absurd (cc)
pieces_from-more mark depth front (w ∷ ws) s rest e =
    go (cuts mark depth w) refl
    (pieces_from-more mark (depth_after depth w.mark) (front ++ w ∷ []) ws s rest)
  where
    go : (t : Bool) → cuts mark depth w ≡ t
        → (drop (before mark (depth_after depth w.mark) ws) ws ≡ s ∷ rest
        → pieces_from mark (depth_after depth w.mark) (front ++ w ∷ []) ws
        ≡ ((front ++ w ∷ []) ++ take (before mark (depth_after depth w.mark) ws) ws)
        ∷ pieces_from mark 0 [] rest)
        → pieces_from mark depth front (w ∷ ws)
        ≡ (front ++ take (before mark depth (w ∷ ws)) (w ∷ ws)) ∷ pieces_from mark 0 [] rest
    go true h ih = let same : ws ≡ rest = cc (rw h at e) in rw (h, append-nil, same) refl
    go false h ih = rw (h, ih (rw h at e), append_assoc) refl

-- without one there is one piece in all
pieces_from-last : (mark : Mark) (depth : ℕ) (front : List Word) (w : Word) (ws : List Word)
    → drop (before mark depth (w ∷ ws)) (w ∷ ws) ≡ []
    → pieces_from mark depth front (w ∷ ws) ≡ (front ++ w ∷ ws) ∷ []
pieces_from-last mark depth front w [] e = go (cuts mark depth w) refl
  where
    one : (us : List Word) → pieces_from mark (depth_after depth w.mark) (us ++ w ∷ []) []
        ≡ (us ++ w ∷ []) ∷ []
    one [] = refl
    one (u ∷ us) = refl

    go : (t : Bool) → cuts mark depth w ≡ t
        → pieces_from mark depth front (w ∷ []) ≡ (front ++ w ∷ []) ∷ []
    go true h = absurd (cc (rw h at e))
    go false h = rw h (one front)
pieces_from-last mark depth front w (v ∷ vs) e =
    go (cuts mark depth w) refl
    (pieces_from-last mark (depth_after depth w.mark) (front ++ w ∷ []) v vs)
  where
    go : (t : Bool) → cuts mark depth w ≡ t
        → (drop (before mark (depth_after depth w.mark) (v ∷ vs)) (v ∷ vs) ≡ []
        → pieces_from mark (depth_after depth w.mark) (front ++ w ∷ []) (v ∷ vs)
        ≡ ((front ++ w ∷ []) ++ v ∷ vs) ∷ [])
        → pieces_from mark depth front (w ∷ v ∷ vs) ≡ (front ++ w ∷ v ∷ vs) ∷ []
    go true h ih = absurd (cc (rw h at e))
    go false h ih = rw h (ih (rw h at e)
        ∙ ap (λ us. us ∷ []) (append_assoc front (w ∷ []) (v ∷ vs)))

pub pieces-more : (mark : Mark) (ws : List Word) (s : Word) (rest : List Word)
    → drop (before mark 0 ws) ws ≡ s ∷ rest
    → pieces mark ws ≡ take (before mark 0 ws) ws ∷ pieces mark rest
unfolding pieces
pieces-more mark ws s rest e = pieces_from-more mark 0 [] ws s rest e

pub pieces-last : (mark : Mark) (w : Word) (ws : List Word)
    → drop (before mark 0 (w ∷ ws)) (w ∷ ws) ≡ [] → pieces mark (w ∷ ws) ≡ (w ∷ ws) ∷ pieces mark []
unfolding pieces
pieces-last mark w ws e = pieces_from-last mark 0 [] w ws e

-- as the code cuts: a part before a separator, and the part from it on
pub piece-then : (mark : Mark) (ws front back : List Word) (n : ℕ) → n ≡ before mark 0 ws
    → front ≡ take n ws → back ≡ drop n ws → 1 ≤ length back
    → pieces mark ws ≡ front ∷ pieces mark (take (length back - 1) (drop 1 back))
piece-then mark ws front [] n is f b some = absurd (omega arith)
piece-then mark ws front (s ∷ rest) n is f b some =
    let at : drop (before mark 0 ws) ws ≡ s ∷ rest = rw is at (sym b) in
    let whole : take (length (s ∷ rest) - 1) rest ≡ rest =
    take_all (length (s ∷ rest) - 1) rest (omega arith) in
    rw (whole, f, is) (pieces-more mark ws s rest at)

pub piece-all : (mark : Mark) (ws back : List Word) (n : ℕ) → 0 < length ws → n ≡ before mark 0 ws
    → back ≡ drop n ws → length back < 1
    → pieces mark ws ≡ ws ∷ pieces mark []
piece-all mark [] back n some is b none = absurd (omega arith)
piece-all mark (w ∷ ws) [] n some is b none = pieces-last mark w ws (rw is at (sym b))
piece-all mark (w ∷ ws) (v ∷ vs) n some is b none = absurd (omega arith)

pub no-pieces : (mark : Mark) (ws : List Word) → length ws ≡ 0 → pieces mark ws ≡ []
unfolding pieces
no-pieces mark [] e = refl
no-pieces mark (w ∷ ws) e = absurd (omega arith)

-- the cut at the first separator, as the code makes it
abbrev at_separator : List Word → List Word → Option (List Word × List Word)
at_separator front [] = None
at_separator front (s ∷ rest) = Some (front, rest)

split_from-is : (mark : Mark) (depth : ℕ) (ws : List Word) → split_from mark depth ws
    ≡ at_separator (take (before mark depth ws) ws) (drop (before mark depth ws) ws)
split_from-is mark depth [] = refl
split_from-is mark depth (w ∷ ws) = go (cuts mark depth w) refl
    (split_from-is mark (depth_after depth w.mark) ws)
  where
    moved : (front back : List Word)
        → in_front w (at_separator front back) ≡ at_separator (w ∷ front) back
    moved front [] = refl
    moved front (s ∷ rest) = refl

    go : (t : Bool) → cuts mark depth w ≡ t
        → split_from mark (depth_after depth w.mark) ws
        ≡ at_separator (take (before mark (depth_after depth w.mark) ws) ws)
        (drop (before mark (depth_after depth w.mark) ws) ws)
        → split_from mark depth (w ∷ ws)
        ≡ at_separator (take (before mark depth (w ∷ ws)) (w ∷ ws))
        (drop (before mark depth (w ∷ ws)) (w ∷ ws))
    go true h ih = rw h refl
    go false h ih = rw (h, ih) (moved (take (before mark (depth_after depth w.mark) ws) ws)
        (drop (before mark (depth_after depth w.mark) ws) ws))

pub split-then : (mark : Mark) (ws front back : List Word) (n : ℕ) → n ≡ before mark 0 ws
    → front ≡ take n ws → back ≡ drop n ws → 1 ≤ length back
    → split_once mark ws ≡ Some (front, take (length back - 1) (drop 1 back))
unfolding split_once
split-then mark ws front [] n is f b some = absurd (omega arith)
split-then mark ws front (s ∷ rest) n is f b some =
    let whole : take (length (s ∷ rest) - 1) rest ≡ rest =
    take_all (length (s ∷ rest) - 1) rest (omega arith) in
    split_from-is mark 0 ws ∙ (rw (whole, ← is, ← b, ← f) refl)

pub split-none : (mark : Mark) (ws back : List Word) (n : ℕ) → n ≡ before mark 0 ws
    → back ≡ drop n ws → length back < 1 → split_once mark ws ≡ None
unfolding split_once
split-none mark ws [] n is b none = split_from-is mark 0 ws ∙ (rw (← is, ← b) refl)
split-none mark ws (s ∷ rest) n is b none = absurd (omega arith)

-- some words make some piece
some-piece : (mark : Mark) (w : Word) (ws : List Word)
    → (p : List Word) × (ps : List (List Word)) × (pieces mark (w ∷ ws) ≡ p ∷ ps)
some-piece mark w ws = go (drop (before mark 0 (w ∷ ws)) (w ∷ ws)) refl
  where
    go : (back : List Word) → drop (before mark 0 (w ∷ ws)) (w ∷ ws) ≡ back
        → (p : List Word) × (ps : List (List Word)) × (pieces mark (w ∷ ws) ≡ p ∷ ps)
    go [] e = (w ∷ ws, pieces mark [], pieces-last mark w ws e)
    go (s ∷ rest) e = (
      take (before mark 0 (w ∷ ws)) (w ∷ ws),
      pieces mark rest,
      pieces-more mark (w ∷ ws) s rest e,
    )

some-words : (n : ℕ) → (suc n == 0) ≡ false
some-words n = grind (arith, nat_tests)

pub one-piece : (mark : Mark) (ws p rest : List Word) → pieces mark ws ≡ p ∷ pieces mark rest
    → (length rest == 0) ≡ is_one_piece (pieces mark ws)
unfolding pieces
one-piece mark ws p [] e = rw e refl
one-piece mark ws p (r ∷ rest) e = let more = some-piece mark r rest in
    rw (e, more.2, some-words (length rest)) refl

pub no-one-piece : (mark : Mark) (ws : List Word) → length ws ≡ 0
    → false ≡ is_one_piece (pieces mark ws)
no-one-piece mark ws none = rw (no-pieces mark ws none) refl

comma-at : (front : List Word) (last : Word)
    → ends_with_comma (front ++ last ∷ []) ≡ same_mark last.mark m.Comma
comma-at [] last = refl
comma-at (w ∷ []) last = refl
comma-at (w ∷ v ∷ front) last = comma-at (v ∷ front) last

-- whether the last word is a comma
pub comma_is : (ws front : List Word) (last : Word) → ws ≡ front ++ last ∷ []
    → same_mark last.mark m.Comma ≡ ends_with_comma ws
comma_is ws front last e = rw e (sym (comma-at front last))
