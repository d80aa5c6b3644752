use Rattle.go_scanner.proofs.Closings.{comment_end_found}
use Rattle.go_scanner.proofs.comment.comment_end.Goals as goal

pub returns : goal.returns
returns c = comment_end_found c.args.rest.now c.find.result c.find.ensures
