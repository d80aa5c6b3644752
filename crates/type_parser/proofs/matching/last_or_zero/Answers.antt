use Rattle.type_parser.proofs.Cuts.{reverse-front}
use Rattle.type_parser.proofs.matching.last_or_zero.Goals as goal

pub returns-in-len1-up : goal.returns-in-len1-up
returns-in-len1-up c = reverse-front c.args.numbers.now 0
