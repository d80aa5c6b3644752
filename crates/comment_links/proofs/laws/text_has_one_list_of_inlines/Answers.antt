use Rattle.comment_links.proofs.Lists.{program_is_one, program_is_only}
use Rattle.comment_links.proofs.laws.text_has_one_list_of_inlines.Goals as goal

pub returns-clause-one : goal.returns-clause-one
returns-clause-one c = program_is_one

pub returns-clause-no_other : goal.returns-clause-no_other
returns-clause-no_other c = program_is_only
