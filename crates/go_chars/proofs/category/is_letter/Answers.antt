use Rattle.std.proofs.Common.{◌≡◌, ◌<◌, ◌==◌, arith, false}
use Rattle.std.proofs.lemmas.Bool.Decides.{nat_tests}
use Rattle.go_chars.proofs.Ascii.{ascii_letters}
use Rattle.go_chars.proofs.category.is_letter.Goals as goal

pub returns-else-c-eq95 : goal.returns-else-c-eq95
returns-else-c-eq95 c =
    let small : c.args.c < 128 = grind (arith, nat_tests, c.if-is_ascii.ensures) in
    let other : (c.args.c == 95) ≡ false = grind (arith, nat_tests, c.if-c-eq95.false) in
    rw (c.is_ascii_alphabetic.ensures.value, other, ascii_letters c.args.c small)
