-- Cited by public clauses. The reading of a source: its items from the first byte to the last, and
-- the tokens and comments that they are (The Go Programming Language Specification, "Lexical
-- elements" and "Semicolons"), or its fault.
use Rattle.std.specs.Prelude.{◌≡◌, ℕ, ◌+◌, ◌<◌, Bool, true, false, ◌&&◌, ◌||◌, List, [], ◌∷◌, ◌++◌}
use Rattle.std.specs.Prelude.{length, drop, if◌then◌else◌, ◌==◌, codes, IsUtf8}
use Rattle.std.specs.List.{list_any}
use Rattle.std.specs.Str.{IsValidUpTo}
use Rattle.go_chars.specs.Identifiers.{is_among}
use Rattle.go_ast.specs.declared.token.Span.{Span}
use Rattle.go_ast.specs.declared.token.Token.{Token}
use Rattle.go_ast.specs.declared.token.TokenKind.{TokenKind}
use Rattle.go_ast.specs.declared.token.TokenKind.TheVariants.{Ident, Keyword, Int, Float, Imaginary}
use Rattle.go_ast.specs.declared.token.TokenKind.TheVariants.{Rune, Text, Operator, Semi, AutoSemi}
use Rattle.go_ast.specs.declared.token.Comment.{Comment}
use Rattle.go_ast.specs.declared.fault.Fault.{Fault}
use Rattle.go_ast.specs.declared.fault.Fault.TheVariants as faults
use Rattle.go_ast.specs.Characters.{newline}
use Rattle.go_ast.specs.Texts.{IsOpenString}
use Rattle.go_ast.specs.Lexical.{Spelling, identifier, keyword, operator, integer, float, imaginary}
use Rattle.go_ast.specs.Lexical.{rune, text, raw_text, semicolon, Item, white_space}
use Rattle.go_ast.specs.Lexical.{byte_order_mark, line_comment, general_comment, spelled}
use Rattle.go_ast.specs.Lexical.{print_item, Stands, IsOpenComment}

abbrev pub span : ℕ → ℕ → Span
span start end = record { start = start; end = end }

-- the items stand one after another from the offset on, and lead from the bytes to the rest
abbrev pub Leads : ℕ → List Item → List ℕ → List ℕ → Type 0
Leads offset [] bytes rest = bytes ≡ rest
Leads offset (item ∷ items) bytes rest =
    (after : List ℕ) × (bytes ≡ print_item item ++ after) × Stands offset item after
    × Leads (offset + length (print_item item)) items after rest

-- what kind of token a spelling is
abbrev pub kind_of : Spelling → TokenKind
kind_of (identifier characters) = Ident
kind_of (keyword word) = Keyword
kind_of (operator mark) = Operator
kind_of (integer literal) = Int
kind_of (float literal) = Float
kind_of (imaginary literal) = Imaginary
kind_of (rune element) = Rune
kind_of (text elements) = Text
kind_of (raw_text content) = Text
kind_of semicolon = Semi

-- whether a line's last token takes a semicolon after it
abbrev pub takes_semicolon : Spelling → Bool
takes_semicolon (keyword word) =
    is_among (codes "break" ∷ codes "continue" ∷ codes "fallthrough" ∷ codes "return" ∷ []) word
takes_semicolon (operator mark) =
    is_among (codes "++" ∷ codes "--" ∷ codes ")" ∷ codes "]" ∷ codes "}" ∷ []) mark
takes_semicolon semicolon = false
takes_semicolon _ = true

abbrev pub has_newline : List ℕ → Bool
has_newline bytes = list_any (λ b. b == newline) bytes

-- whether a line, or the source, ends before the next token; a line comment acts like a newline,
-- and so does a general comment that holds one
abbrev pub line_ends : List Item → Bool
line_ends [] = true
line_ends (white_space b ∷ items) = b == newline || line_ends items
line_ends (byte_order_mark ∷ items) = line_ends items
line_ends (line_comment content ∷ items) = true
line_ends (general_comment content ∷ items) = has_newline content || line_ends items
line_ends (spelled spelling ∷ items) = false

abbrev pub token_of : TokenKind → ℕ → ℕ → Token
token_of kind start end = record { kind = kind; span = span start end }

-- the semicolon that is put at the offset where a spelling ends, before these items
abbrev pub semicolon_after : Spelling → ℕ → List Item → List Token
semicolon_after spelling end items =
    if takes_semicolon spelling && line_ends items then token_of AutoSemi end end ∷ [] else []

-- the tokens that an item from one offset to another is, before these items
abbrev pub tokens_at : ℕ → ℕ → Item → List Item → List Token
tokens_at start end (spelled spelling) items =
    token_of (kind_of spelling) start end ∷ semicolon_after spelling end items
tokens_at start end _ items = []

-- the tokens of the items from an offset on
abbrev pub tokens_of : ℕ → List Item → List Token
tokens_of offset [] = []
tokens_of offset (item ∷ items) =
    let end = offset + length (print_item item) in
    tokens_at offset end item items ++ tokens_of end items

-- the comment that an item from one offset to another is
abbrev pub comments_at : ℕ → ℕ → Item → List Comment
comments_at start end (line_comment content) =
    record { span = span start end; general = false } ∷ []
comments_at start end (general_comment content) =
    record { span = span start end; general = true } ∷ []
comments_at start end _ = []

-- the comments of the items from an offset on
abbrev pub comments_of : ℕ → List Item → List Comment
comments_of offset [] = []
comments_of offset (item ∷ items) =
    let end = offset + length (print_item item) in
    comments_at offset end item ++ comments_of end items

-- the bytes are UTF-8, items lead from the first byte to the end, and these are their tokens and
-- comments
pub record Reads (bytes : List ℕ) (tokens : List Token) (comments : List Comment) : Type 0 where
  pub utf8 : IsUtf8 bytes
  pub items : List Item
  pub leads : Leads 0 items bytes []
  pub all_tokens : tokens ≡ tokens_of 0 items
  pub all_comments : comments ≡ comments_of 0 items

-- items lead from the first byte to the byte at this offset, and no item stands there
pub record IsStuckAt (bytes : List ℕ) (offset : ℕ) : Type 0 where
  pub items : List Item
  pub rest : List ℕ
  pub leads : Leads 0 items bytes rest
  pub within : 0 < length rest
  pub place : offset + length rest ≡ length bytes
  pub none : (item : Item) (after : List ℕ) → rest ≡ print_item item ++ after
      → Stands offset item after → ⊥

-- the fault of a source that has no reading: that it isn't UTF-8 comes first; else it is told what
-- begins where the items stop
abbrev pub ScanFault : List ℕ → Fault → Type 0
ScanFault bytes (faults.NotUtf8 offset) = IsValidUpTo bytes offset
ScanFault bytes (faults.OpenComment offset) = IsUtf8 bytes × IsStuckAt bytes offset
    × IsOpenComment (drop offset bytes)
ScanFault bytes (faults.OpenString offset) = IsUtf8 bytes × IsStuckAt bytes offset
    × IsOpenString (drop offset bytes)
ScanFault bytes (faults.BadToken offset) =
    IsUtf8 bytes × IsStuckAt bytes offset × ¬ (IsOpenComment (drop offset bytes))
    × ¬ (IsOpenString (drop offset bytes))
ScanFault bytes _ = ⊥
