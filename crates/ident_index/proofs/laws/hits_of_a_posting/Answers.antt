use Rattle.ident_index.proofs.Finding.{hits_of_table}
use Rattle.ident_index.proofs.laws.hits_of_a_posting.Goals as goal

pub returns : goal.returns
returns c = λ named postings name table. hits_of_table named postings table name
