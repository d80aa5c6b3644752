-- Cited by public clauses. What contracts see of a piece. The project's own.
use Rattle.std.specs.Prelude.{ℕ, List}
use Rattle.go_ast.specs.declared.config.Config.{Config}
use Rattle.tree_io.specs.declared.tree.Entry.{Entry}
use Rattle.corpus_piece.specs.declared.outcome.Outcome.{Outcome}
use Rattle.corpus_piece.specs.Outcomes.{IsOutcomeOf}

-- a file, the configuration that it is judged for, its number among the files of a tree, and its
-- outcome
pub record JudgedFile : Type 0 where
  pub path : List ℕ
  pub entry : Entry
  pub config : Config
  pub number : ℕ
  pub outcome : Outcome

abbrev pub judged_file : List ℕ → Entry → Config → ℕ → Outcome → JudgedFile
judged_file path entry config number outcome =
    record { path = path; entry = entry; config = config; number = number; outcome = outcome }

-- the outcome is that of its own file
abbrev pub IsJudged : JudgedFile → Type 0
IsJudged judged =
    IsOutcomeOf judged.path judged.entry judged.config judged.number judged.outcome
