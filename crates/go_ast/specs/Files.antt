-- Cited by public clauses. What the tokens of a file spell, and the fault of a file that they don't
-- spell (The Go Programming Language Specification, "Source file organization", "Package clause").
use Rattle.std.specs.Prelude.{◌≡◌, ℕ, ◌+◌, Bool, true, false, not, List, [], ◌∷◌, ◌++◌, length}
use Rattle.std.specs.Prelude.{if◌then◌else◌, codes, ⊤}
use Rattle.std.specs.List.{list_any}
use Rattle.std.specs.Str.{bytes_eq}
use Rattle.go_ast.specs.declared.declaration.Decl.{Decl}
use Rattle.go_ast.specs.declared.declaration.Decl.TheVariants as decls
use Rattle.go_ast.specs.declared.declaration.File.{File}
use Rattle.go_ast.specs.declared.fault.Fault.{Fault}
use Rattle.go_ast.specs.declared.fault.Fault.TheVariants as faults
use Rattle.go_ast.specs.declared.token.Span.{Span}
use Rattle.go_ast.specs.declared.token.Token.{Token}
use Rattle.go_ast.specs.declared.word.Mark.TheVariants as m
use Rattle.go_ast.specs.declared.word.Word.{Word}
use Rattle.go_ast.specs.Chunks.{AreNested, IsUnbalancedAt, chunks}
use Rattle.go_ast.specs.Cutting.{Each}
use Rattle.go_ast.specs.Declarations.{IsDecl}
use Rattle.go_ast.specs.Marks.{text_of, words_from}
use Rattle.go_ast.specs.Position.{line_of}

abbrev pub file_of : Span → List Decl → File
file_of name declared = record { «package» = name; decls = declared }

-- a package clause, whose name isn't the blank identifier
pub data IsPackageClause (source : List ℕ) : List Word → Span → Type 0 where
  names_package : (word name : Word) → word.mark ≡ m.Package → name.mark ≡ m.Ident
      → bytes_eq (text_of source name.span) (codes "_") ≡ false
      → IsPackageClause source (word ∷ name ∷ []) name.span

abbrev pub is_import : Decl → Bool
is_import (decls.Import specs) = true
is_import _ = false

-- no import stands after another declaration
abbrev pub imports_come_first : List Decl → Bool
imports_come_first [] = true
imports_come_first (d ∷ ds) = if is_import d then imports_come_first ds
    else not (list_any is_import ds)

-- the chunks are these declarations, each in its place
abbrev pub AreDecls : List (List Word) → List Decl → Type 0
AreDecls cs ds = Each IsDecl cs ds × (imports_come_first ds ≡ true)

-- the chunks are a package clause and declarations
pub data IsFile (source : List ℕ) : List (List Word) → File → Type 0 where
  file : {clause : List Word} {cs : List (List Word)} {name : Span} {ds : List Decl}
      → IsPackageClause source clause name → AreDecls cs ds
      → IsFile source (clause ∷ cs) (file_of name ds)

-- the tokens as words
abbrev pub all_words : List ℕ → List Token → List Word
all_words source tokens = words_from source 0 tokens

-- the tokens spell the file: brackets nest, and the chunks are a package clause and declarations
abbrev pub SpellsFile : List ℕ → List Token → File → Type 0
SpellsFile source tokens f =
    AreNested (all_words source tokens) × IsFile source (chunks (all_words source tokens)) f

-- the first chunk is no package clause, or there is none
abbrev pub LacksClause : List ℕ → List (List Word) → Type 0
LacksClause source [] = ⊤
LacksClause source (c ∷ cs) = (name : Span) → IsPackageClause source c name → ⊥

-- the least chunk that is no declaration in its place, by its number from 1 and its first word
pub data IsBadChunk (source : List ℕ) : List (List Word) → ℕ → Word → Type 0 where
  bad : {clause : List Word} (front : List (List Word)) (w : Word) (ws : List Word)
      (rest : List (List Word)) {name : Span} (ds : List Decl)
      → IsPackageClause source clause name → AreDecls front ds
      → ((more : List Decl) → AreDecls (front ++ (w ∷ ws) ∷ []) more → ⊥)
      → IsBadChunk source (clause ∷ front ++ (w ∷ ws) ∷ rest) (2 + length front) w

-- the fault of tokens that spell no file: brackets that don't nest come first, then a missing
-- package clause
abbrev pub FileFault : List ℕ → List Token → Fault → Type 0
FileFault source tokens (faults.Unbalanced offset) =
    (w : Word) × IsUnbalancedAt (all_words source tokens) w × (w.span.start ≡ offset)
FileFault source tokens faults.NoPackageClause =
    AreNested (all_words source tokens) × LacksClause source (chunks (all_words source tokens))
FileFault source tokens (faults.BadDeclaration number line) =
    (w : Word) × AreNested (all_words source tokens)
    × IsBadChunk source (chunks (all_words source tokens)) number w
    × (line_of source w.span.start ≡ line)
FileFault source tokens _ = ⊥
