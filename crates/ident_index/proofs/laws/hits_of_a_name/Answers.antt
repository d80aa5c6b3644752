use Rattle.ident_index.proofs.Texts.{hits_of_texts, texts_rise}
use Rattle.ident_index.proofs.laws.hits_of_a_name.Goals as goal

pub returns-clause-texts : goal.returns-clause-texts
returns-clause-texts c = hits_of_texts

pub returns-clause-rise : goal.returns-clause-rise
returns-clause-rise c = texts_rise
