-- Cited by private clauses and proofs. What a scan's lists keep to, and where a group begins.
use Rattle.std.specs.Prelude.{◌≡◌, ℕ, ◌<◌, ◌≤◌, true, false, List, length, slice_index_or, nat_lt}
use Rattle.std.specs.List.Sorted.{IsNonDecreasingBy, IsPartitionPoint}
use Rattle.go_ast.specs.declared.token.Token.{Token}
use Rattle.go_ast.specs.declared.token.Comment.{Comment}
use Rattle.go_ast.specs.declared.token.Scanned.{Scanned}
use Rattle.comment_blocks.specs.Groups.{goes_on_at, line_at}

-- offsets that never fall
abbrev pub NeverFall : List ℕ → Type 0
NeverFall offsets = IsNonDecreasingBy (λ offset. offset) offsets

-- lines, tokens and comments stand in their order
pub record IsInOrder (scanned : Scanned) : Type 0 where
  pub lines : NeverFall scanned.lines
  pub token_starts : IsNonDecreasingBy (λ (token : Token). token.span.start) scanned.tokens
  pub token_ends : IsNonDecreasingBy (λ (token : Token). token.span.end) scanned.tokens
  pub comment_ends : IsNonDecreasingBy (λ (comment : Comment). comment.span.end) scanned.comments
  pub places : (place : ℕ) (d : Comment) → place < length scanned.comments
      → place < (slice_index_or scanned.comments place d).span.end

-- the last place at or before a place at which no comment continues a group
pub record IsStart (scanned : Scanned) (place start : ℕ) : Type 0 where
  pub within : start ≤ place
  pub begin : goes_on_at scanned start ≡ false
  pub together : (k : ℕ) → start < k → k ≤ place → goes_on_at scanned k ≡ true

-- so many tokens end on a line before this line
abbrev pub AreTokensBefore : Scanned → ℕ → ℕ → Type 0
AreTokensBefore scanned line count = IsPartitionPoint
    (λ (token : Token). nat_lt (line_at scanned.lines token.span.end) line ≡ true)
    (λ (token : Token). nat_lt (line_at scanned.lines token.span.end) line ≡ false)
    scanned.tokens count

-- so many comments do
abbrev pub AreCommentsBefore : Scanned → ℕ → ℕ → Type 0
AreCommentsBefore scanned line count = IsPartitionPoint
    (λ (comment : Comment). nat_lt (line_at scanned.lines comment.span.end) line ≡ true)
    (λ (comment : Comment). nat_lt (line_at scanned.lines comment.span.end) line ≡ false)
    scanned.comments count
