use Rattle.go_literals.proofs.Places.{place_none, place_some}
use Rattle.memchr.specs.Find.{is_byte}
use Rattle.go_scanner.proofs.comment.line_length.Goals as goal

pub returns-in-None : goal.returns-in-None
returns-in-None c = place_none (is_byte 10) c.args.rest.now c.in-None.ensures

pub returns-in-Some : goal.returns-in-Some
returns-in-Some c = place_some (is_byte 10) c.args.rest.now c.in-Some.length c.in-Some.ensures
