-- Cited by public clauses. The text of a comment group (Go Doc Comments, "Syntax"; go/ast,
-- "CommentGroup.Text"): a filter on lines, a map and a join.
use Rattle.std.specs.Prelude.{◌≡◌, ℕ, ◌+◌, ◌-◌, Bool, false, ◌&&◌, ◌||◌, List, [], ◌∷◌, length}
use Rattle.std.specs.Prelude.{take, map, if◌then◌else◌, ◌==◌, nat_eq, codes, slice_range, Option}
use Rattle.std.specs.Prelude.{Some, None}
use Rattle.std.specs.List.{flat_map, join_with_byte, slice_split, starts_with, suffix_len}
use Rattle.std.specs.Option.{option_to_list}
use Rattle.std.specs.Char.{is_ascii_digit, is_ascii_lowercase}
use Rattle.go_ast.specs.declared.token.Token.{Token}
use Rattle.go_ast.specs.declared.token.Comment.{Comment}
use Rattle.go_ast.specs.Characters.{tab, newline, carriage_return, space}
use Rattle.go_ast.specs.Reading.{Reads}

-- comments that stand one after another in the reading of a source
pub record AreCommentsOf (source : List ℕ) (comments : List Comment) : Type 0 where
  pub tokens : List Token
  pub all : List Comment
  pub read : Reads source tokens all
  pub first : ℕ
  pub after : ℕ
  pub same : comments ≡ slice_range all first after

abbrev pub is_blank : ℕ → Bool
is_blank b = b == space || b == tab

-- what goes at the end of a line: blanks and carriage returns
abbrev pub is_trailing : ℕ → Bool
is_trailing b = is_blank b || b == carriage_return

abbrev pub is_newline : ℕ → Bool
is_newline b = b == newline

-- the lines of a text: the parts between its newlines
abbrev pub lines_of : List ℕ → List (List ℕ)
lines_of text = slice_split is_newline text

-- a line without the blanks and carriage returns at its end
abbrev pub trimmed : List ℕ → List ℕ
trimmed line = take (length line - suffix_len is_trailing line) line

-- a byte of the words of a directive
abbrev pub is_word_byte : ℕ → Bool
is_word_byte b = is_ascii_lowercase b || is_ascii_digit b

abbrev pub begins_word : List ℕ → Bool
begins_word [] = false
begins_word (b ∷ bytes) = is_word_byte b

-- further bytes of a word, a colon, and the first byte of another word
abbrev pub word_then_colon : List ℕ → Bool
word_then_colon [] = false
word_then_colon (b ∷ bytes) =
    if is_word_byte b then word_then_colon bytes else (b == 58 && begins_word bytes)

-- a line for tools, such as `go:build`
abbrev pub is_tool_line : List ℕ → Bool
is_tool_line [] = false
is_tool_line (b ∷ bytes) = is_word_byte b && word_then_colon bytes

-- what stands after `//` is no text
abbrev pub is_directive : List ℕ → Bool
is_directive content =
    starts_with nat_eq content (codes "line ") || starts_with nat_eq content (codes "extern ")
    || starts_with nat_eq content (codes "export ") || is_tool_line content

-- the line that stands after `//`: a space at its beginning goes, and a directive is dropped
abbrev pub kept_line : List ℕ → Option (List ℕ)
kept_line [] = Some []
kept_line (b ∷ bytes) =
    if b == space then Some bytes else (if is_directive (b ∷ bytes) then None else Some (b ∷ bytes))

-- where the content of a comment ends: before the closing mark of a general comment
abbrev pub content_end : Comment → ℕ
content_end comment = if comment.general then comment.span.end - 2 else comment.span.end

-- what stands between the marks of a comment
abbrev pub content_of : List ℕ → Comment → List ℕ
content_of source comment = slice_range source (comment.span.start + 2) (content_end comment)

abbrev pub lines_of_comment : List ℕ → Comment → List (List ℕ)
lines_of_comment source comment =
    if comment.general then lines_of (content_of source comment)
    else option_to_list (kept_line (content_of source comment))

-- an empty line before lines, unless they begin with one or there are none
abbrev pub gap_before : List (List ℕ) → List (List ℕ)
gap_before [] = []
gap_before ([] ∷ lines) = [] ∷ lines
gap_before ((b ∷ line) ∷ lines) = [] ∷ (b ∷ line) ∷ lines

-- each run of empty lines is made one, and those at the end go
abbrev pub squeezed : List (List ℕ) → List (List ℕ)
squeezed [] = []
squeezed ([] ∷ lines) = gap_before (squeezed lines)
squeezed ((b ∷ line) ∷ lines) = (b ∷ line) ∷ squeezed lines

-- lines without an empty one at the front
abbrev pub without_first_gap : List (List ℕ) → List (List ℕ)
without_first_gap [] = []
without_first_gap ([] ∷ lines) = lines
without_first_gap ((b ∷ line) ∷ lines) = (b ∷ line) ∷ lines

-- the text of lines: without what is blank at their ends, and without needless empty lines
abbrev pub text_of_lines : List (List ℕ) → List ℕ
text_of_lines lines = join_with_byte newline (without_first_gap (squeezed (map trimmed lines)))

-- the text of a group of comments
abbrev pub comment_text_of : List ℕ → List Comment → List ℕ
comment_text_of source comments = text_of_lines (flat_map (lines_of_comment source) comments)
