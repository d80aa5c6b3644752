-- Cited by private clauses and proofs. The lines of hits. The project's own.
use Rattle.std.specs.Prelude.{◌≡◌, ℕ, ◌<◌, ◌≤◌, List, [], ◌++◌, Option, Some, length, slice_get}
use Rattle.std.specs.Option.{option_map_or}
use Rattle.corpus.specs.Corpora.{Edition, bytes_in}
use Rattle.corpus.specs.Snapshots.{SourceSet}
use Rattle.corpus_piece.specs.declared.outcome.Outcome.TheVariants.{Accepted}
use Rattle.corpus_piece.specs.declared.outcome.Parsed.{Parsed}
use Rattle.corpus_piece.specs.Pieces.{JudgedFile}
use Rattle.go_ast.specs.Position.{line_starts}
use Rattle.ident_index.specs.declared.hit.Hit.{Hit}
use Rattle.link_io.specs.Streams.{Adds}
use Rattle.godoc_commands.specs.Find.{IsFindText, place_line}

-- the line for a hit, by the file with its number
abbrev pub hit_line : List JudgedFile → Hit → List ℕ
hit_line files hit =
    option_map_or (λ f. place_line f.path (bytes_in f.entry) hit.offset)
    (slice_get files hit.file) []

-- the hit stands in an accepted file of the edition
pub record IsHitIn (edition : Edition) (hit : Hit) : Type 0 where
  pub in_range : hit.file < length edition.sources.entries
  pub file : JudgedFile
  pub parsed : Parsed
  pub at : slice_get edition.tables.files hit.file ≡ Some file
  pub accepted : file.outcome ≡ Accepted parsed
  pub lines : parsed.scanned.lines ≡ line_starts (bytes_in file.entry)
  pub within : hit.offset ≤ length (bytes_in file.entry)

-- some first part of the text was added
pub record AddsFront (before : Option (List ℕ)) (text : List ℕ)
    (after : Option (List ℕ)) : Type 0 where
  pub front : List ℕ
  pub rest : List ℕ
  pub all : text ≡ front ++ rest
  pub added : Adds before front after

-- the text of `find` over these sources was added
pub record AddsFound (name : List ℕ) (sources : SourceSet)
    (before after : Option (List ℕ)) : Type 0 where
  pub text : List ℕ
  pub found : IsFindText name sources text
  pub added : Adds before text after

-- a first part of it was added
pub record AddsFoundFront (name : List ℕ) (sources : SourceSet)
    (before after : Option (List ℕ)) : Type 0 where
  pub text : List ℕ
  pub found : IsFindText name sources text
  pub part : AddsFront before text after
