-- Cited by public clauses. Where brackets end and lists are cut, as the parser finds it: the public
-- clauses are those of `Words`.
use Rattle.std.specs.Prelude.{ℕ, suc, ◌&&◌, List, [], ◌∷◌, take, drop, if◌then◌else◌, ◌==◌}
use Rattle.std.specs.Prelude.{Option, Some, None}
use Rattle.go_ast.specs.declared.word.Word.{Word}
use Rattle.go_ast.specs.declared.word.Mark.{Mark}
use Rattle.go_ast.specs.Cutting.{depth_after}
use Rattle.go_ast.specs.Marks.{closes, same_mark}

-- how many words stand before the bracket that closes them, with so many brackets open, or all of
-- them
abbrev pub inside : ℕ → List Word → ℕ
inside depth [] = 0
inside depth (w ∷ ws) = if depth == 0 && closes w.mark then 0
    else suc (inside (depth_after depth w.mark) ws)

-- how many words stand before the separator that is outside brackets, or all of them
abbrev pub before : Mark → ℕ → List Word → ℕ
before mark depth [] = 0
before mark depth (w ∷ ws) = if depth == 0 && same_mark w.mark mark then 0
    else suc (before mark (depth_after depth w.mark) ws)

-- the words after an opening bracket, cut at the bracket that closes it, where that is this mark
abbrev pub at_close : Mark → List Word → List Word → Option (List Word × List Word)
at_close close front [] = None
at_close close front (w ∷ rest) = if same_mark w.mark close then Some (front, rest) else None

unfoldable pub enclosed : Mark → List Word → Option (List Word × List Word)
enclosed close ws = at_close close (take (inside 0 ws) ws) (drop (inside 0 ws) ws)
