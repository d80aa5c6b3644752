-- Cited by private clauses and proofs. How a corpus is stored as tuples, by which proofs tell
-- corpora apart.
use Rattle.std.specs.Prelude.{refl}
use Rattle.std.specs.Coded.{Coded, code_by, coded×, coded_list, coded_ℕ}
use Rattle.go_ast.specs.contracts.config.Config as config_contract
use Rattle.tree_io.specs.contracts.tree.Entry as entry_contract
use Rattle.corpus.specs.contracts.tables.Tables as tables_contract
use Rattle.go_ast.specs.declared.config.Config.{Config}
use Rattle.tree_io.specs.Sources.{Sources}
use Rattle.corpus.specs.declared.tables.Tables.{Tables}
use Rattle.corpus.specs.Corpora.{Edition, edition}
use Rattle.corpus.specs.Snapshots.{SourceSet, source_set}

abbrev pub source_code : Coded SourceSet
source_code = code_by (Config × Sources)
    (coded× config_contract.the_row.coded
    (coded_list (coded× (coded_list coded_ℕ) entry_contract.the_row.coded)))
    (λ s. (s.config, s.entries)) (λ t. source_set t.0 t.1) (λ _. refl)

abbrev pub edition_code : Coded Edition
edition_code = code_by (SourceSet × Tables)
    (coded× source_code tables_contract.the_row.coded)
    (λ e. (e.sources, e.tables)) (λ t. edition t.0 t.1) (λ _. refl)
