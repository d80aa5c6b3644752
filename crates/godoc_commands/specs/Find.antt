-- Cited by public clauses. The text of `find`, a line for each identifier with a name. The
-- project's own.
use Rattle.std.specs.Prelude.{◌≡◌, ℕ, List, ◌++◌, All, decimal, codes}
use Rattle.std.specs.List.{flat_map}
use Rattle.corpus.specs.Corpora.{AreFilesOf, kept}
use Rattle.corpus.specs.Snapshots.{SourceSet}
use Rattle.corpus_piece.specs.Pieces.{IsJudged, JudgedFile}
use Rattle.go_ast.specs.declared.token.Token.{Token}
use Rattle.go_ast.specs.Position.{line_of, column_of}
use Rattle.ident_index.specs.Hits.{identifiers_named}

-- PATH:LINE:COL and a newline
unfoldable pub position_line : List ℕ → ℕ → ℕ → List ℕ
position_line path line column =
    path ++ codes ":" ++ decimal line ++ codes ":" ++ decimal column ++ codes "\n"

-- the line for an offset in a file with this path and these bytes
abbrev pub place_line : List ℕ → List ℕ → ℕ → List ℕ
place_line path bytes offset = position_line path (line_of bytes offset) (column_of bytes offset)

-- the lines of a file with these tokens: one for each identifier with the name, where it begins
abbrev pub hit_lines : List ℕ → List ℕ → List ℕ → List Token → List ℕ
hit_lines name path bytes tokens =
    flat_map (λ token. place_line path bytes token.span.start) (identifiers_named name bytes tokens)

-- the text of `find` over a set of sources: the lines of each of its files that is kept, in their
-- order
abbrev pub IsFindText : List ℕ → SourceSet → List ℕ → Type 0
IsFindText name sources text = (files : List JudgedFile)
    × AreFilesOf sources files × All IsJudged files
    × (text ≡ flat_map (λ a. hit_lines name a.path a.bytes a.parsed.scanned.tokens) (kept files))
