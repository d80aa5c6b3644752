-- Cited by private clauses and proofs. Words with how far the bracket that closes them is.
use Rattle.std.specs.Prelude.{◌≡◌, ℕ, suc, min, List, []}
use Rattle.std.specs.Prelude.{◌∷◌, length, drop, if◌then◌else◌}
use Rattle.std.specs.Prelude.{⊤}
use Rattle.go_ast.specs.declared.word.Word.{Word}
use Rattle.go_ast.specs.Marks.{opens, closes}
use Rattle.type_parser.specs.declared.matching.Matched.{Matched}
use Rattle.type_parser.specs.Cut.{inside}

-- the words alone
abbrev pub plain : List Matched → List Word
plain [] = []
plain (w ∷ ws) = w.word ∷ plain ws

-- with each word stands how many words there are before the bracket that closes one opened here; it
-- may lie past the last of these words
abbrev pub AreMatched : List Matched → Type 0
AreMatched [] = ⊤
AreMatched (w ∷ ws) = (min w.inside (length ws) ≡ inside 0 (plain ws)) × AreMatched ws

-- where the brackets stand that close none of the words before them, the first of these brackets
-- first: how many words there are from each on
abbrev pub unmatched : List Word → List ℕ
unmatched [] = []
unmatched (w ∷ ws) = if opens w.mark then drop 1 (unmatched ws)
    else (if closes w.mark then suc (length ws) ∷ unmatched ws else unmatched ws)

-- how many words the first one has with what it opens
abbrev pub stride : List Word → ℕ
stride [] = 0
stride (w ∷ ws) = if opens w.mark then suc (min (suc (inside 0 ws)) (length ws)) else 1
