-- Cited by public clauses. The identifiers of a file, each with its place and what it is there.
use Rattle.std.specs.Prelude.{◌≡◌, ◌<◌, ◌⊎◌, ℕ, List, ◌==◌, ◌&&◌, filter, map}
use Rattle.std.specs.List.{find}
use Rattle.std.specs.Option.{option_map_or}
use Rattle.std.specs.Str.{bytes_eq}
use Rattle.go_ast.specs.declared.declaration.File.{File}
use Rattle.go_ast.specs.declared.token.Comment.{Comment}
use Rattle.go_ast.specs.declared.token.Token.{Token}
use Rattle.go_ast.specs.Position.{line_of}
use Rattle.go_ast.specs.Reading.{Reads}
use Rattle.go_ast.specs.Tokens.{is_ident, text_of}
use Rattle.ident_index.specs.declared.hit.Hit.{Hit}
use Rattle.ident_index.specs.declared.hit.HitKind.{HitKind}
use Rattle.ident_index.specs.declared.hit.HitKind.TheVariants.{Usage}
use Rattle.ident_index.specs.Naming.{Name, names_of_file}

-- what the identifier at an offset is, where these names are declared: what the first that begins
-- there is, and a use where none does
abbrev pub kind_at : List Name → ℕ → HitKind
kind_at names offset = option_map_or (λ name. name.1) (find (λ name. name.0 == offset) names) Usage

-- the hit of an identifier of a file with a number
abbrev pub hit_of : List ℕ → File → ℕ → Token → Hit
hit_of source file number token =
    record {
      file = number;
      offset = token.span.start;
      line = line_of source token.span.start;
      kind = kind_at (names_of_file file) token.span.start;
    }

-- the identifiers among tokens
abbrev pub identifiers : List Token → List Token
identifiers tokens = filter (λ token. is_ident token.kind) tokens

-- a hit for each identifier among the tokens, in their order
abbrev pub hits_of : List ℕ → List Token → File → ℕ → List Hit
hits_of source tokens file number = map (hit_of source file number) (identifiers tokens)

-- the identifiers whose text in the source is the name
abbrev pub identifiers_named : List ℕ → List ℕ → List Token → List Token
identifiers_named name source tokens =
    filter (λ token. is_ident token.kind && bytes_eq name (text_of source token)) tokens

-- a file with its source, its tokens and its number
pub record ReadFile : Type 0 where
  pub source : List ℕ
  pub tokens : List Token
  pub file : File
  pub number : ℕ

-- the hits of the identifiers of a file whose text is the name
abbrev pub hits_with_text : List ℕ → ReadFile → List Hit
hits_with_text name read =
    map (hit_of read.source read.file read.number) (identifiers_named name read.source read.tokens)

-- its source has a reading with these tokens
abbrev pub IsReadFile : ReadFile → Type 0
IsReadFile read = (comments : List Comment) × Reads read.source read.tokens comments

-- the source of a file next to its hits
abbrev pub source_and_hits_of : ReadFile → List ℕ × List Hit
source_and_hits_of read =
    (read.source, hits_of read.source read.tokens read.file read.number)

-- the one hit stands before the other: in an earlier file, or earlier in the same one
abbrev pub IsHitBelow : Hit → Hit → Type 0
IsHitBelow a b = (a.file < b.file) ⊎ ((a.file ≡ b.file) × (a.offset < b.offset))
