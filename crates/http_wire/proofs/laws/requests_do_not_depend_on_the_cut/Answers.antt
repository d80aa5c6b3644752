use Rattle.http_wire.proofs.StreamLemmas.{HasGiven-append, Requests-after_given}
use Rattle.http_wire.proofs.laws.requests_do_not_depend_on_the_cut.Goals as goal

pub returns-clause-more : goal.returns-clause-more
returns-clause-more c = HasGiven-append

pub returns-clause-whole : goal.returns-clause-whole
returns-clause-whole c = Requests-after_given
