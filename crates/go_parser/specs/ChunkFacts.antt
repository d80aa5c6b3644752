-- Cited by public clauses. What is known of the chunks of a file, and of a bracket that doesn't
-- match.
use Rattle.std.specs.Prelude.{◌≡◌, ℕ, ◌<◌, ◌≤◌, true, false, List, [], ◌∷◌, ◌++◌, length, map, All}
use Rattle.std.specs.Prelude.{Option, Some, None}
use Rattle.go_ast.specs.declared.token.Token.{Token}
use Rattle.go_ast.specs.declared.token.TokenRange.{TokenRange}
use Rattle.go_ast.specs.declared.word.Word.{Word}
use Rattle.go_ast.specs.Chunks.{AreNested, IsUnbalancedAt, chunks}
use Rattle.go_ast.specs.Cutting.{Nests, closing_of}
use Rattle.go_ast.specs.Marks.{opens, closes, words_from, words_of}
use Rattle.go_parser.specs.declared.chunk.Chunk.{Chunk}
use Rattle.go_parser.specs.declared.chunk.Cut.{Cut}
use Rattle.go_parser.specs.declared.chunk.Cut.TheVariants as cuts

-- the place of the bracket that the last token of a range closes, where it closes one in the range
pub data IsOpened (source : List ℕ) (tokens : List Token) (range : TokenRange) : Option ℕ → Type 0
  where
    nothing : (front : List Word) (last : Word)
        → words_of source tokens range ≡ front ++ last ∷ [] → closes last.mark ≡ false
        → IsOpened source tokens range None
    bracket : (place : ℕ) (o c : Word) (inner : List Word) → range.first ≤ place
        → place < range.after
        → words_of source tokens (record { first = place; after = range.after })
        ≡ o ∷ inner ++ c ∷ []
        → opens o.mark ≡ true → c.mark ≡ closing_of o.mark → Nests 0 inner
        → IsOpened source tokens range (Some place)

-- a chunk has a token, and knows which bracket its last one closes
pub record IsChunk (source : List ℕ) (tokens : List Token) (chunk : Chunk) : Type 0 where
  pub some : chunk.tokens.first < chunk.tokens.after
  pub within : chunk.tokens.after ≤ length tokens
  pub last : IsOpened source tokens chunk.tokens chunk.opened

-- the chunks of a file whose brackets nest
pub record AreChunks (source : List ℕ) (tokens : List Token) (found : List Chunk) : Type 0 where
  pub nested : AreNested (words_from source 0 tokens)
  pub same_words : map (λ c. words_of source tokens c.tokens) found
      ≡ chunks (words_from source 0 tokens)
  pub each : All (IsChunk source tokens) found

-- the brackets of a file don't nest at a token with this offset
pub record IsFaultAt (source : List ℕ) (tokens : List Token) (offset : ℕ) : Type 0 where
  pub word : Word
  pub unbalanced : IsUnbalancedAt (words_from source 0 tokens) word
  pub begins : word.span.start ≡ offset

abbrev pub IsCut : List ℕ → List Token → Cut → Type 0
IsCut source tokens (cuts.Chunks found) = AreChunks source tokens found.items
IsCut source tokens (cuts.Unbalanced offset) = IsFaultAt source tokens offset
