-- Cited by public clauses. Brackets, and lists that are cut at separators outside brackets.
use Rattle.std.specs.Prelude.{◌≡◌, ℕ, suc, ◌-◌, Bool, true, false, ◌&&◌, not, List, [], ◌∷◌, ◌++◌}
use Rattle.std.specs.Prelude.{Option, Some, None, length, if◌then◌else◌, ◌==◌, unwrap_or, slice_get}
use Rattle.std.specs.Prelude.{⊤}
use Rattle.go_ast.specs.declared.token.TokenRange.{TokenRange}
use Rattle.go_ast.specs.declared.word.Word.{Word}
use Rattle.go_ast.specs.declared.word.Mark.{Mark}
use Rattle.go_ast.specs.declared.word.Mark.TheVariants as m
use Rattle.go_ast.specs.Marks.{opens, closes, same_mark}

-- how many brackets are open after a mark, where so many are open before it
abbrev pub depth_after : ℕ → Mark → ℕ
depth_after depth mark =
    if opens mark then suc depth else (if closes mark then depth - 1 else depth)

-- each bracket that these words open is closed among them, and no other is
abbrev pub Nests : ℕ → List Word → Type 0
Nests depth [] = depth ≡ 0
Nests depth (w ∷ ws) = (depth ≡ 0 → closes w.mark ≡ false) × Nests (depth_after depth w.mark) ws

-- the first words are an opening bracket, what it encloses, and the closing bracket; then others
-- follow
pub data Encloses (opening closing : Mark) : List Word → List Word → List Word → Type 0 where
  encloses : (o c : Word) (inner rest : List Word) → o.mark ≡ opening → c.mark ≡ closing
      → Nests 0 inner
      → Encloses opening closing (o ∷ inner ++ c ∷ rest) inner rest

-- the words, cut at the separators outside brackets, with the words before them that are in no
-- piece yet; where nothing follows the last separator, no piece does
abbrev pub pieces_from : Mark → ℕ → List Word → List Word → List (List Word)
pieces_from mark depth [] [] = []
pieces_from mark depth (v ∷ vs) [] = (v ∷ vs) ∷ []
pieces_from mark depth front (w ∷ ws) =
    if depth == 0 && same_mark w.mark mark then front ∷ pieces_from mark 0 [] ws
    else pieces_from mark (depth_after depth w.mark) (front ++ w ∷ []) ws

unfoldable pub pieces : Mark → List Word → List (List Word)
pieces mark ws = pieces_from mark 0 [] ws

abbrev pub in_front : Word → Option (List Word × List Word) → Option (List Word × List Word)
in_front w None = None
in_front w (Some (front, back)) = Some (w ∷ front, back)

-- the words before the first separator outside brackets and those after it, or nothing where none
-- stands there; with so many brackets open
abbrev pub split_from : Mark → ℕ → List Word → Option (List Word × List Word)
split_from mark depth [] = None
split_from mark depth (w ∷ ws) =
    if depth == 0 && same_mark w.mark mark then Some ([], ws)
    else in_front w (split_from mark (depth_after depth w.mark) ws)

unfoldable pub split_once : Mark → List Word → Option (List Word × List Word)
split_once mark ws = split_from mark 0 ws

-- each piece is one of the things, in order
abbrev pub Each : {A : Type 0} → (List Word → A → Type 0) → List (List Word) → List A → Type 0
Each S [] [] = ⊤
Each S (p ∷ ps) (x ∷ xs) = S p x × Each S ps xs
Each S [] (x ∷ xs) = ⊥
Each S (p ∷ ps) [] = ⊥

-- the last of some words
abbrev pub last_of : Word → List Word → Word
last_of w ws = unwrap_or (slice_get ws (length ws - 1)) w

-- the tokens from the first word to the last
abbrev pub range_of : Word → List Word → TokenRange
range_of w ws = record { first = w.tokens.first; after = (last_of w ws).tokens.after }

-- the tokens from the first word to the last, or none
abbrev pub range_of_all : List Word → TokenRange
range_of_all [] = record { first = 0; after = 0 }
range_of_all (w ∷ ws) = range_of w ws

-- the bracket that closes an opening one
abbrev pub closing_of : Mark → Mark
closing_of m.OpenParen = m.CloseParen
closing_of m.OpenBracket = m.CloseBracket
closing_of _ = m.CloseBrace

-- the words close the brackets that are open, whose closing marks are these from the innermost on,
-- and each that they open, each by its own kind; no semicolon stands outside brackets
abbrev pub balanced : List Mark → List Word → Bool
balanced [] [] = true
balanced (mark ∷ others) [] = false
balanced [] (w ∷ ws) = if opens w.mark then balanced (closing_of w.mark ∷ []) ws
    else not (closes w.mark) && not (same_mark w.mark m.Semi) && balanced [] ws
balanced (mark ∷ others) (w ∷ ws) =
    if opens w.mark then balanced (closing_of w.mark ∷ mark ∷ others) ws
    else if closes w.mark then same_mark w.mark mark && balanced others ws
    else balanced (mark ∷ others) ws

-- the words are three dots alone
abbrev pub is_ellipsis_alone : List Word → Bool
is_ellipsis_alone [] = false
is_ellipsis_alone (w ∷ []) = same_mark w.mark m.Ellipsis
is_ellipsis_alone (w ∷ v ∷ vs) = false

-- a length between brackets: balanced, with no semicolon outside its own brackets, and not three
-- dots
unfoldable pub is_run : List Word → Bool
is_run ws = balanced [] ws && not (is_ellipsis_alone ws)
