-- Cited by private clauses and proofs. What a line adds to the text before it, and what a comment
-- holds in its source.
use Rattle.std.specs.Prelude.{ℕ, ◌+◌, ◌≤◌, Bool, true, false, List, [], ◌∷◌, ◌++◌, length, IsUtf8}
use Rattle.std.specs.List.{fold}
use Rattle.go_ast.specs.declared.token.Comment.{Comment}
use Rattle.comment_blocks.specs.Texts.{content_end, content_of, trimmed}

-- the content of a comment stands in the source, and is UTF-8
pub record HasContent (source : List ℕ) (comment : Comment) : Type 0 where
  pub begin : comment.span.start + 2 ≤ content_end comment
  pub within : content_end comment ≤ length source
  pub utf8 : IsUtf8 (content_of source comment)

-- a text so far, and whether an empty line stands after its last line
pub record Begun : Type 0 where
  pub text : List ℕ
  pub gap : Bool

abbrev pub nothing : Begun
nothing = record { text = []; gap = false }

-- what stands between a text and its next line
abbrev pub line_break : List ℕ → Bool → List ℕ
line_break [] gap = []
line_break (b ∷ text) true = 10 ∷ 10 ∷ []
line_break (b ∷ text) false = 10 ∷ []

-- the same with one line more, which is trimmed already
abbrev pub after_trimmed : Begun → List ℕ → Begun
after_trimmed begun [] = record { text = begun.text; gap = true }
after_trimmed begun (b ∷ line) =
    record { text = (begun.text ++ line_break begun.text begun.gap) ++ (b ∷ line); gap = false }

abbrev pub after_line : Begun → List ℕ → Begun
after_line begun line = after_trimmed begun (trimmed line)

abbrev pub after_lines : Begun → List (List ℕ) → Begun
after_lines begun lines = fold after_line begun lines
