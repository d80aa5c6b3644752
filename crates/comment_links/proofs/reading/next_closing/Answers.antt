use Rattle.std.proofs.Common.{Some, None, subst}
use Rattle.std.proofs.lemmas.List.{take_rest}
use Rattle.memchr.specs.Find.{IsFirstByte, is_byte}
use Rattle.comment_links.proofs.Closings.{closing_none, closing_some}
use Rattle.comment_links.proofs.reading.next_closing.Goals as goal

pub returns-in-None : goal.returns-in-None
returns-in-None c =
    closing_none c.args.text.now c.args.place c.requires.within
    (subst (λ bs. IsFirstByte (is_byte 93) bs None) (take_rest c.args.text.now c.args.place)
    c.in-None.ensures)

pub returns-in-Some : goal.returns-in-Some
returns-in-Some c =
    closing_some c.args.text.now c.args.place c.in-Some.len c.requires.within
    (subst (λ bs. IsFirstByte (is_byte 93) bs (Some c.in-Some.len))
    (take_rest c.args.text.now c.args.place) c.in-Some.ensures)
