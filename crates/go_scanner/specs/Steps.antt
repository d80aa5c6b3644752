-- Cited by private clauses and proofs. What an item of a shape adds to what was found before it.
use Rattle.std.specs.Prelude.{ℕ, ◌+◌, Bool, true, false, List, [], ◌∷◌, if◌then◌else◌, nat_eq}
use Rattle.std.specs.Prelude.{Option, Some, None}
use Rattle.std.specs.List.{starts_with}
use Rattle.go_ast.specs.declared.token.Token.{Token}
use Rattle.go_ast.specs.declared.token.TokenKind.TheVariants as kinds
use Rattle.go_ast.specs.declared.token.Comment as comment
use Rattle.go_ast.specs.Characters.{byte_order_mark_bytes}
use Rattle.go_ast.specs.Reading.{span, token_of}
use Rattle.go_scanner.specs.declared.shape.Shape.{Shape}
use Rattle.go_scanner.specs.declared.shape.Shape.TheVariants.{Blank, LineEnd, Comment, General}
use Rattle.go_scanner.specs.declared.shape.Shape.TheVariants.{Token as TokenShape}

-- the semicolon that is put where the last token ends, if it takes one
abbrev pub semicolon_of : Option ℕ → List Token
semicolon_of None = []
semicolon_of (Some end) = token_of kinds.AutoSemi end end ∷ []

-- the same where a line ends, and what is pending then
abbrev pub semicolon_at : Bool → Option ℕ → List Token
semicolon_at ends pending = if ends then semicolon_of pending else []

abbrev pub pending_at : Bool → Option ℕ → Option ℕ
pending_at ends pending = if ends then None else pending

-- where a token ends, if it takes a semicolon
abbrev pub pending_of : Bool → ℕ → Option ℕ
pending_of takes end = if takes then Some end else None

-- the tokens that an item adds at an offset
abbrev pub added_tokens : Shape → ℕ → Option ℕ → List Token
added_tokens (Blank n) offset pending = []
added_tokens LineEnd offset pending = semicolon_of pending
added_tokens (Comment n) offset pending = semicolon_of pending
added_tokens (General n lines) offset pending = semicolon_at lines pending
added_tokens (TokenShape kind takes n) offset pending = token_of kind offset (offset + n) ∷ []

abbrev pub comment_of : Bool → ℕ → ℕ → comment.Comment
comment_of general start end = record { span = span start end; general = general }

-- the comments that it adds
abbrev pub added_comments : Shape → ℕ → List comment.Comment
added_comments (Blank n) offset = []
added_comments LineEnd offset = []
added_comments (Comment n) offset = comment_of false offset (offset + n) ∷ []
added_comments (General n lines) offset = comment_of true offset (offset + n) ∷ []
added_comments (TokenShape kind takes n) offset = []

-- where the last token ends after the item, if it takes a semicolon and no line has ended since
abbrev pub pending_after : Shape → ℕ → Option ℕ → Option ℕ
pending_after (Blank n) offset pending = pending
pending_after LineEnd offset pending = None
pending_after (Comment n) offset pending = None
pending_after (General n lines) offset pending = pending_at lines pending
pending_after (TokenShape kind takes n) offset pending = pending_of takes (offset + n)

-- how many bytes the byte order mark at the start has
abbrev pub mark_length : List ℕ → ℕ
mark_length bytes = if starts_with nat_eq bytes byte_order_mark_bytes then 3 else 0
