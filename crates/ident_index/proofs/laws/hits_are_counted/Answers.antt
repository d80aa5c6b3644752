use Rattle.std.proofs.lemmas.List.{length-map}
use Rattle.ident_index.specs.Hits.{hit_of, identifiers}
use Rattle.ident_index.proofs.Totals.{total_of_table}
use Rattle.ident_index.proofs.laws.hits_are_counted.Goals as goal

pub returns-clause-table : goal.returns-clause-table
returns-clause-table c = total_of_table

pub returns-clause-file : goal.returns-clause-file
returns-clause-file c = λ source tokens file number. length-map (identifiers tokens)
    (hit_of source file number)
