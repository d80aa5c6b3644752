use Rattle.std.proofs.lemmas.Str.{IsCharBoundary-start}
use Rattle.comment_blocks.proofs.cutting.last_start.Goals as goal

pub returns-clause-start : goal.returns-clause-start
returns-clause-start c = IsCharBoundary-start c.args.text.now c.utf8.text
