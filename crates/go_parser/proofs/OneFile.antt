-- A file's chunks spell at most one file.
use Rattle.std.proofs.Common.{◌≡◌, refl, ℕ, List, [], ◌∷◌}
use Rattle.go_ast.specs.declared.declaration.Decl.{Decl}
use Rattle.go_ast.specs.declared.declaration.File.{File}
use Rattle.go_ast.specs.declared.token.Span.{Span}
use Rattle.go_ast.specs.declared.token.Token.{Token}
use Rattle.go_ast.specs.declared.word.Word.{Word}
use Rattle.go_ast.specs.Cutting.{Each}
use Rattle.go_ast.specs.Chunks.{chunks}
use Rattle.go_ast.specs.Declarations.{IsDecl}
use Rattle.go_ast.specs.Files as f
use Rattle.go_ast.specs.Files.{all_words, IsFile, IsPackageClause, SpellsFile, file_of}
use Rattle.go_parser.proofs.DeclLaws.{one-decl}

pub decls-one : (cs : List (List Word)) (ds es : List Decl) → Each IsDecl cs ds → Each IsDecl cs es
    → ds ≡ es
decls-one [] [] [] a b = refl
decls-one [] [] (e ∷ es) a b = absurd b
decls-one [] (d ∷ ds) es a b = absurd a
decls-one (c ∷ cs) [] es a b = absurd a
decls-one (c ∷ cs) (d ∷ ds) [] a b = absurd b
decls-one (c ∷ cs) (d ∷ ds) (e ∷ es) a b =
    cc (one-decl c d e a.0 b.0, decls-one cs ds es a.1 b.1)

pub clause-one : (source : List ℕ) (ws : List Word) (x y : Span) → IsPackageClause source ws x
    → IsPackageClause source ws y → x ≡ y
clause-one source _ _ _ (f.names_package word name is is_name some) (f.names_package _ _ _ _ _) =
    refl

file-one : (source : List ℕ) (cs : List (List Word)) (x y : File) → IsFile source cs x
    → IsFile source cs y → x ≡ y
file-one source _ _ _ (f.file {clause} {cs} {name = name1} {ds = ds1} c1 d1)
    (f.file {name = name2} {ds = ds2} c2 d2) =
    cc (clause-one source clause name1 name2 c1 c2, decls-one cs ds1 ds2 d1.0 d2.0)

pub one-file : (source : List ℕ) (tokens : List Token) (x y : File) → SpellsFile source tokens x
    → SpellsFile source tokens y → x ≡ y
one-file source tokens x y a b = file-one source (chunks (all_words source tokens)) x y a.1 b.1
