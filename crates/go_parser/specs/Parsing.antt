-- Cited by private clauses and proofs. What has been read of a file's chunks.
use Rattle.std.specs.Prelude.{◌≡◌, ℕ, suc, ◌<◌, Bool, true, false, ◌&&◌, not, List, [], ◌∷◌, length}
use Rattle.std.specs.Prelude.{map}
use Rattle.std.specs.Prelude.{take, Option, Some, None, if◌then◌else◌, codes}
use Rattle.std.specs.Str.{bytes_eq}
use Rattle.go_ast.specs.declared.declaration.Decl.{Decl}
use Rattle.go_ast.specs.declared.token.Span.{Span}
use Rattle.go_ast.specs.declared.token.Token.{Token}
use Rattle.go_ast.specs.declared.word.Mark.TheVariants as m
use Rattle.go_ast.specs.declared.word.Word.{Word}
use Rattle.go_ast.specs.Declarations.{IsDecl}
use Rattle.go_ast.specs.Files.{AreDecls, IsFile, IsPackageClause, LacksClause, is_import}
use Rattle.go_ast.specs.Marks.{same_mark, text_of, words_of}
use Rattle.go_parser.specs.declared.chunk.Chunk.{Chunk}
use Rattle.go_parser.specs.declared.declarations.Declared.{Declared}
use Rattle.go_parser.specs.declared.declarations.Declared.TheVariants as declared
use Rattle.go_parser.specs.declared.parse.Parsed.{Parsed}
use Rattle.go_parser.specs.declared.parse.Parsed.TheVariants as parsed

-- the words of chunks
abbrev pub words_in : List ℕ → List Token → List Chunk → List (List Word)
words_in source tokens chunks = map (λ c. words_of source tokens c.tokens) chunks

-- a chunk is a declaration, and no import where another declaration stands before
abbrev pub IsInPlace : Bool → List Word → Decl → Type 0
IsInPlace others ws d = IsDecl ws d × (others ≡ true → is_import d ≡ false)

-- the chunks are these declarations, or the first of them that is none in its place has this place
abbrev pub IsDeclared : List (List Word) → Declared → Type 0
IsDeclared cs (declared.All ds) = AreDecls cs ds
IsDeclared cs (declared.Bad at) = (at < length cs) × ((ds : List Decl) × AreDecls (take at cs) ds)
    × ((ds : List Decl) → AreDecls (take (suc at) cs) ds → ⊥)

-- the name in a package clause
abbrev pub read_clause : List ℕ → List Word → Option Span
read_clause source [] = None
read_clause source (w ∷ []) = None
read_clause source (w ∷ v ∷ []) =
    if same_mark w.mark m.Package && same_mark v.mark m.Ident
    && not (bytes_eq (text_of source v.span) (codes "_")) then Some v.span else None
read_clause source (w ∷ v ∷ u ∷ us) = None

-- after the package clause and so many declarations there is a chunk that is none in its place
abbrev pub IsBadAt : List ℕ → List (List Word) → ℕ → Type 0
IsBadAt source [] at = ⊥
IsBadAt source (clause ∷ cs) at =
    ((name : Span) × IsPackageClause source clause name) × IsDeclared cs (declared.Bad at)

-- what the chunks of a file are
abbrev pub IsParsed : List ℕ → List (List Word) → Parsed → Type 0
IsParsed source cs (parsed.File f) = IsFile source cs f
IsParsed source cs parsed.NoClause = LacksClause source cs
IsParsed source cs (parsed.Bad at) = IsBadAt source cs at
