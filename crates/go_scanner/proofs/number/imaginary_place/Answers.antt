use Rattle.go_literals.proofs.Places.{place_none, place_some}
use Rattle.memchr.specs.Find.{is_byte}
use Rattle.go_scanner.proofs.number.imaginary_place.Goals as goal

pub returns-in-None : goal.returns-in-None
returns-in-None c = place_none (is_byte 105) c.args.bytes.now c.in-None.ensures

pub returns-in-Some : goal.returns-in-Some
returns-in-Some c = place_some (is_byte 105) c.args.bytes.now c.in-Some.place c.in-Some.ensures
