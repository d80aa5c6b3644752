-- Cited by private clauses and proofs. What is known of an accepted file.
use Rattle.std.specs.Prelude.{◌≡◌, ℕ, ◌≤◌, List, length}
use Rattle.tree_io.specs.Sources.{file_limit}
use Rattle.go_ast.specs.Files.{SpellsFile}
use Rattle.go_ast.specs.Position.{line_starts}
use Rattle.go_ast.specs.Reading.{Reads}
use Rattle.ident_index.specs.Hits.{hits_of}
use Rattle.tree_io.specs.declared.tree.Entry.{Entry}
use Rattle.tree_io.specs.declared.tree.Entry.TheVariants as entries
use Rattle.corpus_piece.specs.declared.outcome.Parsed.{Parsed}

-- the entry is bytes of which this was read, under a number
pub record IsAccepted (entry : Entry) (number : ℕ) (parsed : Parsed) : Type 0 where
  pub bytes : List ℕ
  pub entry_is : entry ≡ entries.Bytes bytes
  pub small : length bytes ≤ file_limit
  pub reads : Reads bytes parsed.scanned.tokens parsed.scanned.comments
  pub lines_are : parsed.scanned.lines ≡ line_starts bytes
  pub spells : SpellsFile bytes parsed.scanned.tokens parsed.file
  pub hits_are : parsed.hits ≡ hits_of bytes parsed.scanned.tokens parsed.file number
