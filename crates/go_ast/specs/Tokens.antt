-- Cited by public clauses. What tokens are and what they read in their source.
use Rattle.std.specs.Prelude.{◌≡◌, ℕ, ◌≤◌, ◌⊎◌, Bool, true, false, List, All, slice_range}
use Rattle.go_ast.specs.declared.token.Token.{Token}
use Rattle.go_ast.specs.declared.token.TokenKind.{TokenKind}
use Rattle.go_ast.specs.declared.token.TokenKind.TheVariants.{Ident, AutoSemi}
use Rattle.go_ast.specs.Lexical.{Spelling, print_spelling, IsSpelling}
use Rattle.go_ast.specs.Reading.{kind_of}

abbrev pub is_ident : TokenKind → Bool
is_ident Ident = true
is_ident _ = false

-- the text of a token in its source
abbrev pub text_of : List ℕ → Token → List ℕ
text_of bytes token = slice_range bytes token.span.start token.span.end

-- the span of a token is in order, and within so many bytes
abbrev pub IsWithin : ℕ → Token → Type 0
IsWithin size token = (token.span.start ≤ token.span.end) × (token.span.end ≤ size)

-- the text of a token is this spelling, and its kind that of the spelling
pub record IsSpelledAs (bytes : List ℕ) (token : Token) (spelling : Spelling) : Type 0 where
  pub valid : IsSpelling spelling
  pub same_kind : kind_of spelling ≡ token.kind
  pub same_text : print_spelling spelling ≡ text_of bytes token

-- a token has a spelling, or is an automatic semicolon, whose span is empty
abbrev pub HasSpelling : List ℕ → Token → Type 0
HasSpelling bytes token =
    ((token.kind ≡ AutoSemi) × (token.span.start ≡ token.span.end))
    ⊎ ((spelling : Spelling) × IsSpelledAs bytes token spelling)

abbrev pub AreSpelled : List ℕ → List Token → Type 0
AreSpelled bytes tokens = All (HasSpelling bytes) tokens
