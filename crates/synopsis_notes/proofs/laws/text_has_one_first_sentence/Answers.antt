use Rattle.synopsis_notes.proofs.FirstSentences.{a_sentence, only_sentence}
use Rattle.synopsis_notes.proofs.laws.text_has_one_first_sentence.Goals as goal

pub returns-clause-one : goal.returns-clause-one
returns-clause-one c = a_sentence

pub returns-clause-no_other : goal.returns-clause-no_other
returns-clause-no_other c = only_sentence
