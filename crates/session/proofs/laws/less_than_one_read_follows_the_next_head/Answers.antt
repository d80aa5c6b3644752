use Rattle.session.proofs.PaceLemmas.{less_than_a_read}
use Rattle.session.proofs.laws.less_than_one_read_follows_the_next_head.Goals as goal

pub returns : goal.returns
returns c = less_than_a_read
