-- Cited by public clauses. Where build lines stand in a source (The go command, "Build
-- constraints").
use Rattle.std.specs.Prelude.{ℕ, Bool, true, false, ◌&&◌, not, List, [], ◌∷◌, Option, Some}
use Rattle.std.specs.Prelude.{None, take, drop, if◌then◌else◌, ◌==◌, nat_eq, nat_lt, slice_range}
use Rattle.std.specs.Prelude.{filter, codes}
use Rattle.std.specs.List.{after_last, find, list_all, starts_with}
use Rattle.go_ast.specs.declared.token.Comment.{Comment}
use Rattle.go_ast.specs.declared.token.Token.{Token}
use Rattle.go_ast.specs.declared.token.TokenKind.{TokenKind}
use Rattle.go_ast.specs.declared.token.TokenKind.TheVariants.{Semi, AutoSemi}
use Rattle.go_ast.specs.Characters.{byte_order_mark_bytes, is_white_space, newline}
use Rattle.build_lines.specs.Expressions.{is_blank}

abbrev pub is_semicolon : TokenKind → Bool
is_semicolon Semi = true
is_semicolon AutoSemi = true
is_semicolon _ = false

-- the first token that is no semicolon
abbrev pub first_token : List Token → Option Token
first_token tokens = find (λ token. not (is_semicolon token.kind)) tokens

-- the comment begins before the token, if there is one
abbrev pub stands_before : Option Token → Comment → Bool
stands_before None comment = true
stands_before (Some token) comment = nat_lt comment.span.start token.span.start

abbrev pub text_of_comment : List ℕ → Comment → List ℕ
text_of_comment bytes comment = slice_range bytes comment.span.start comment.span.end

-- the bytes without a byte order mark at their front
abbrev pub without_mark : List ℕ → List ℕ
without_mark bytes = if starts_with nat_eq bytes byte_order_mark_bytes then drop 3 bytes else bytes

-- only white space stands on the line before the offset
unfoldable pub is_alone : List ℕ → ℕ → Bool
is_alone bytes offset = list_all is_white_space
    (after_last (λ b. b == newline) (without_mark (take offset bytes)))

-- the bytes end, or go on with a blank
abbrev pub ends_word : List ℕ → Bool
ends_word [] = true
ends_word (b ∷ bytes) = is_blank b

-- a text that begins "//go:build", and ends there or continues with a blank
unfoldable pub begins_build : List ℕ → Bool
begins_build text = starts_with nat_eq text (codes "//go:build") && ends_word (drop 10 text)

-- a build line, where the first token that is no semicolon is this one
abbrev pub is_build_line : List ℕ → Option Token → Comment → Bool
is_build_line bytes first comment = not comment.general && stands_before first comment
    && begins_build (text_of_comment bytes comment) && is_alone bytes comment.span.start

-- the build lines of a source
unfoldable pub build_lines : List ℕ → List Token → List Comment → List Comment
build_lines bytes tokens comments = filter (is_build_line bytes (first_token tokens)) comments

-- what stands after "//go:build" in a build line
abbrev pub expression_text : List ℕ → Comment → List ℕ
expression_text bytes comment = drop 10 (text_of_comment bytes comment)
