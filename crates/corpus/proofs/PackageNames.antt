-- The name in the package clause of an accepted file.
use Rattle.std.proofs.Common.{ℕ, ◌+◌, true, false, cond, List, [], ◌∷◌, ◌++◌, All}
use Rattle.std.specs.Prelude.{◌&&◌, ◌==◌}
use Rattle.std.proofs.lemmas.List.Elements.{All-append, All-cons, All-filter, All-head, All-nil}
use Rattle.std.proofs.lemmas.List.Elements.{All-tail}
use Rattle.go_ast.specs.declared.declaration.File.{File}
use Rattle.go_ast.specs.declared.token.Comment.{Comment}
use Rattle.go_ast.specs.declared.token.Token.{Token}
use Rattle.go_ast.specs.declared.word.Mark.{Mark}
use Rattle.go_ast.specs.declared.word.Mark.TheVariants as m
use Rattle.go_ast.specs.declared.word.Word.{Word}
use Rattle.go_ast.specs.Chunks.{chunks, has_words}
use Rattle.go_ast.specs.Cutting.{depth_after, pieces, pieces_from}
use Rattle.go_ast.specs.Files as files
use Rattle.go_ast.specs.Files.{IsFile, IsPackageClause, SpellsFile, all_words}
use Rattle.go_ast.specs.Marks.{same_mark, word_of, words_from}
use Rattle.go_ast.specs.Reading.{Reads}
use Rattle.corpus.proofs.TokenTexts.{IsText, IsTextOf, reading_texts}

abbrev IsTextWord : List ℕ → Word → Type 0
IsTextWord bytes w = IsText bytes w.span

words_texts : (bytes : List ℕ) (place : ℕ) (tokens : List Token) → All (IsTextOf bytes) tokens
    → All (IsTextWord bytes) (words_from bytes place tokens)
words_texts bytes place [] all = All-nil (IsTextWord bytes)
words_texts bytes place (token ∷ tokens) all =
    All-cons (IsTextWord bytes) (word_of bytes place token) (words_from bytes (place + 1) tokens)
    (All-head (IsTextOf bytes) token tokens all)
    (words_texts bytes (place + 1) tokens (All-tail (IsTextOf bytes) token tokens all))

module _ (P : Word → Type 0) where
  -- the words of each piece are among those that are cut
  pieces_hold : (mark : Mark) (depth : ℕ) (front ws : List Word) → All P front → All P ws
      → All (All P) (pieces_from mark depth front ws)
  pieces_hold mark depth [] [] before all = All-nil (All P)
  pieces_hold mark depth (v ∷ vs) [] before all = All-cons (All P) (v ∷ vs) [] before
      (All-nil (All P))
  pieces_hold mark depth front (w ∷ ws) before all =
      let later = All-tail P w ws all in
      elim (depth == 0 && same_mark w.mark mark) as
      (λ b. All (All P) (cond b (front ∷ pieces_from mark 0 [] ws)
      (pieces_from mark (depth_after depth w.mark) (front ++ w ∷ []) ws))) [
        | true ↦ All-cons (All P) front (pieces_from mark 0 [] ws) before
            (pieces_hold mark 0 [] ws (All-nil P) later)
        | false ↦ pieces_hold mark (depth_after depth w.mark) (front ++ w ∷ []) ws
            (All-append P front (w ∷ []) before (All-cons P w [] (All-head P w ws all) (All-nil P)))
            later
      ]

  chunks_hold : (ws : List Word) → All P ws → All (All P) (chunks ws)
  unfolding chunks pieces
  chunks_hold ws all = All-filter has_words (All P) (pieces_from m.Semi 0 [] ws)
      (pieces_hold m.Semi 0 [] ws (All-nil P) all)

named : (bytes : List ℕ) (cs : List (List Word)) (file : File) → IsFile bytes cs file
    → All (All (IsTextWord bytes)) cs → IsText bytes file.package
named bytes _ _ (files.file {clause} {cs} (files.names_package word name mark ident blank) decls)
    all =
    All-head (IsTextWord bytes) name [] (All-tail (IsTextWord bytes) word (name ∷ [])
    (All-head (All (IsTextWord bytes)) (word ∷ name ∷ []) cs all))

-- the name is a text of the source
pub name_text : (bytes : List ℕ) (tokens : List Token) (comments : List Comment) (file : File)
    → Reads bytes tokens comments → SpellsFile bytes tokens file
    → IsText bytes file.package
name_text bytes tokens comments file read spells =
    named bytes (chunks (all_words bytes tokens)) file spells.1
    (chunks_hold (IsTextWord bytes) (all_words bytes tokens)
    (words_texts bytes 0 tokens (reading_texts bytes tokens comments read)))
