-- Cited by public clauses. Groups of comments, and the group that documents a declaration (Go Doc
-- Comments; The Go Programming Language Specification, "Comments").
use Rattle.std.specs.Prelude.{◌≡◌, ℕ, zero, suc, ◌+◌, ◌-◌, ◌<◌, ◌≤◌, Bool, true, false, ◌&&◌, ◌||◌}
use Rattle.std.specs.Prelude.{not, List, length, ◌==◌, nat_le, count_by, slice_get, Option, Some}
use Rattle.std.specs.Prelude.{None}
use Rattle.std.specs.List.{list_any}
use Rattle.go_ast.specs.declared.token.Token.{Token}
use Rattle.go_ast.specs.declared.token.Comment.{Comment}
use Rattle.go_ast.specs.declared.token.Scanned.{Scanned}
use Rattle.go_ast.specs.Position.{line_starts}
use Rattle.go_ast.specs.Reading.{Reads}

-- the tokens, the comments and the lines are those of one source
pub record IsScan (scanned : Scanned) : Type 0 where
  pub source : List ℕ
  pub read : Reads source scanned.tokens scanned.comments
  pub lines : scanned.lines ≡ line_starts source

-- the line that an offset is in, counted from 1: the number of lines that begin there or before it
abbrev pub line_at : List ℕ → ℕ → ℕ
line_at starts offset = count_by (λ start. nat_le start offset) starts

-- a token ends on the line
abbrev pub token_ends_on : Scanned → ℕ → Bool
token_ends_on scanned line =
    list_any (λ (token : Token). line_at scanned.lines token.span.end == line) scanned.tokens

-- a token stands between two offsets
abbrev pub token_between : List Token → ℕ → ℕ → Bool
token_between tokens from to =
    list_any (λ (token : Token). nat_le from token.span.start && nat_le token.span.end to) tokens

-- a comment and the next are of one group: no token and no blank line stands between them, and
-- where the first begins on a line where a token ends, the next begins on that line too
abbrev pub are_joined : Scanned → Comment → Comment → Bool
are_joined scanned comment next =
    let first_line = line_at scanned.lines comment.span.start in
    let next_line = line_at scanned.lines next.span.start in
    not (token_between scanned.tokens comment.span.end next.span.start)
    && nat_le next_line (line_at scanned.lines comment.span.end + 1)
    && (not (token_ends_on scanned first_line) || next_line == first_line)

abbrev pub some_are_joined : Scanned → Option Comment → Option Comment → Bool
some_are_joined scanned (Some comment) (Some next) = are_joined scanned comment next
some_are_joined scanned _ _ = false

-- the comment at a place is there, and of the group of the one before it
abbrev pub goes_on_at : Scanned → ℕ → Bool
goes_on_at scanned zero = false
goes_on_at scanned (suc place) =
    some_are_joined scanned
    (slice_get scanned.comments place) (slice_get scanned.comments (suc place))

-- the comments from one place to before another are a group: as many as belong together
pub record IsGroup (scanned : Scanned) (first after : ℕ) : Type 0 where
  pub some : first < after
  pub within : after ≤ length scanned.comments
  pub together : (place : ℕ) → first < place → place < after → goes_on_at scanned place ≡ true
  pub begin : goes_on_at scanned first ≡ false
  pub end : goes_on_at scanned after ≡ false

-- there is a comment, and it ends on the line before this line
abbrev pub ends_before : Scanned → ℕ → Option Comment → Bool
ends_before scanned line None = false
ends_before scanned line (Some comment) = line_at scanned.lines comment.span.end + 1 == line

-- there is a comment, and it begins on a line where a token ends
abbrev pub begins_beside_token : Scanned → Option Comment → Bool
begins_beside_token scanned None = false
begins_beside_token scanned (Some comment) =
    token_ends_on scanned (line_at scanned.lines comment.span.start)

-- a group ends on the line before this line, and doesn't begin on a line where a token ends
pub record IsDocGroup (scanned : Scanned) (line first after : ℕ) : Type 0 where
  pub group : IsGroup scanned first after
  pub before : ends_before scanned line (slice_get scanned.comments (after - 1)) ≡ true
  pub alone : begins_beside_token scanned (slice_get scanned.comments first) ≡ false
