use Rattle.ident_index.proofs.Texts.{hits_begin, names_of_texts}
use Rattle.ident_index.proofs.laws.names_of_hits.Goals as goal

pub returns-clause-begin : goal.returns-clause-begin
returns-clause-begin c = λ source tokens comments file number read. hits_begin source file number
    tokens comments read

pub returns-clause-named : goal.returns-clause-named
returns-clause-named c = λ source tokens comments file number read. names_of_texts source file
    number tokens comments read
