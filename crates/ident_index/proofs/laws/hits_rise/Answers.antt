use Rattle.ident_index.proofs.Texts.{hits_rise}
use Rattle.ident_index.proofs.laws.hits_rise.Goals as goal

pub returns : goal.returns
returns c = λ source tokens comments file number read. hits_rise source file number tokens comments
    read
