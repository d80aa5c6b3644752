-- Cited by private clauses and proofs. How what contracts see of a piece is stored.
use Rattle.std.specs.Prelude.{ℕ, List, refl}
use Rattle.std.specs.Coded.{Coded, code_by, coded×, coded_list, coded_ℕ}
use Rattle.go_ast.specs.contracts.config.Config as config
use Rattle.tree_io.specs.contracts.tree.Entry as entry
use Rattle.corpus_piece.specs.contracts.outcome.Outcome as outcome
use Rattle.go_ast.specs.declared.config.Config.{Config}
use Rattle.tree_io.specs.declared.tree.Entry.{Entry}
use Rattle.corpus_piece.specs.declared.outcome.Outcome.{Outcome}
use Rattle.corpus_piece.specs.Pieces.{JudgedFile, judged_file}

-- a judged file is stored as the tuple of its fields
abbrev pub judged_code : Coded JudgedFile
judged_code = code_by (List ℕ × (Entry × (Config × (ℕ × Outcome))))
    (coded× (coded_list coded_ℕ) (coded× entry.the_row.coded
    (coded× config.the_row.coded (coded× coded_ℕ outcome.the_row.coded))))
    (λ f. (f.path, (f.entry, (f.config, (f.number, f.outcome)))))
    (λ t. judged_file t.0 t.1.0 t.1.1.0 t.1.1.1.0 t.1.1.1.1)
    (λ _. refl)
