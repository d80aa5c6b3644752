-- Cited by public clauses. What tokens are to the grammar of types and declarations: keywords,
-- operators and brackets by their spellings.
use Rattle.std.specs.Prelude.{ℕ, ◌+◌, ◌-◌, Bool, true, false, List, [], ◌∷◌, take, drop}
use Rattle.std.specs.Prelude.{if◌then◌else◌, codes}
use Rattle.std.specs.Str.{bytes_eq}
use Rattle.go_ast.specs.declared.token.Span.{Span}
use Rattle.go_ast.specs.declared.token.Token.{Token}
use Rattle.go_ast.specs.declared.token.TokenRange.{TokenRange}
use Rattle.go_ast.specs.declared.token.TokenKind.{TokenKind}
use Rattle.go_ast.specs.declared.token.TokenKind.TheVariants as kinds
use Rattle.go_ast.specs.declared.word.Word.{Word}
use Rattle.go_ast.specs.declared.word.Mark.{Mark}
use Rattle.go_ast.specs.declared.word.Mark.TheVariants as m
use Rattle.go_ast.specs.contracts.word.Mark.{the_type}
use denote.Enum.Bare.{sameb}

abbrev pub opens : Mark → Bool
opens m.OpenParen = true
opens m.OpenBracket = true
opens m.OpenBrace = true
opens _ = false

abbrev pub closes : Mark → Bool
closes m.CloseParen = true
closes m.CloseBracket = true
closes m.CloseBrace = true
closes _ = false

-- `==` on marks
unfoldable pub same_mark : Mark → Mark → Bool
same_mark = sameb the_type

-- the mark next to the first of the spellings that is this text
abbrev pub mark_among : List (List ℕ × Mark) → List ℕ → Mark
mark_among [] text = m.Other
mark_among (spelling ∷ spellings) text = if bytes_eq text spelling.0 then spelling.1
    else mark_among spellings text

unfoldable pub keyword_marks : List (List ℕ × Mark)
keyword_marks =
    (codes "chan", m.Chan) ∷ (codes "const", m.Const) ∷ (codes "func", m.Func)
    ∷ (codes "import", m.Import)
    ∷ (codes "interface", m.Interface) ∷ (codes "map", m.Map) ∷ (codes "package", m.Package)
    ∷ (codes "struct", m.Struct)
    ∷ (codes "type", m.Type) ∷ (codes "var", m.Var) ∷ []

unfoldable pub operator_marks : List (List ℕ × Mark)
operator_marks =
    (codes "*", m.Star) ∷ (codes "<-", m.Arrow) ∷ (codes ".", m.Dot) ∷ (codes ",", m.Comma)
    ∷ (codes "|", m.Bar)
    ∷ (codes "~", m.Tilde) ∷ (codes "...", m.Ellipsis) ∷ (codes "=", m.Equal)
    ∷ (codes "(", m.OpenParen) ∷ (codes ")", m.CloseParen) ∷ (codes "[", m.OpenBracket)
    ∷ (codes "]", m.CloseBracket)
    ∷ (codes "{", m.OpenBrace) ∷ (codes "}", m.CloseBrace) ∷ []

-- what a token of this kind and text is
unfoldable pub mark_of : TokenKind → List ℕ → Mark
mark_of kinds.Ident text = m.Ident
mark_of kinds.Text text = m.Text
mark_of kinds.Semi text = m.Semi
mark_of kinds.AutoSemi text = m.Semi
mark_of kinds.Keyword text = mark_among keyword_marks text
mark_of kinds.Operator text = mark_among operator_marks text
mark_of _ text = m.Other

-- the bytes of a span
abbrev pub text_of : List ℕ → Span → List ℕ
text_of source span = take (span.end - span.start) (drop span.start source)

-- a token with what it is, at a place in the list of tokens
abbrev pub word_of : List ℕ → ℕ → Token → Word
word_of source place token = record {
  mark = mark_of token.kind (text_of source token.span);
  span = token.span;
  tokens = record { first = place; after = place + 1 };
}

-- tokens as words, the first of them at a place in the list
abbrev pub words_from : List ℕ → ℕ → List Token → List Word
words_from source place [] = []
words_from source place (token ∷ tokens) =
    word_of source place token ∷ words_from source (place + 1) tokens

-- the words of a range of a source's tokens
unfoldable pub words_of : List ℕ → List Token → TokenRange → List Word
words_of source tokens range =
    words_from source range.first (take (range.after - range.first) (drop range.first tokens))
