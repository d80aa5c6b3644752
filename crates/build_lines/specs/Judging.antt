-- Cited by private clauses and proofs. What is known of a build line while a file is judged by it,
-- and what its expression gives.
use Rattle.std.specs.Prelude.{◌≡◌, ℕ, ◌≤◌, Bool, List, Option, Some, None, IsTrue}
use Rattle.go_ast.specs.declared.token.Comment.{Comment}
use Rattle.build_lines.specs.BuildLines.{begins_build, text_of_comment}
use Rattle.build_lines.specs.Expressions.{Expression, IsMalformed, Spells, value}

-- the comment lies within so many bytes
abbrev pub IsInside : ℕ → Comment → Type 0
IsInside size comment = (comment.span.start ≤ comment.span.end) × (comment.span.end ≤ size)

-- the text of the comment begins as that of a build line
abbrev pub BeginsBuild : List ℕ → Comment → Type 0
BeginsBuild bytes comment = IsTrue (begins_build (text_of_comment bytes comment))

-- the value of the expression that the bytes spell, or nothing where they spell none
abbrev pub IsValue : (List ℕ → Bool) → List ℕ → Option Bool → Type 0
IsValue holds bytes None = IsMalformed bytes
IsValue holds bytes (Some truth) =
    (expression : Expression) × Spells bytes expression × (truth ≡ value holds expression)
