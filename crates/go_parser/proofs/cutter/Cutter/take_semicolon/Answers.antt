use Rattle.std.proofs.Common.{◌≡◌, ◌∙◌, sym, ap, subst, None, ◌+◌, ◌<◌, reverse, length, arith}
use Rattle.std.proofs.lemmas.Bool.Decides.{nat_tests}
use Rattle.go_parser.specs.Cutter.{Reached}
use Rattle.go_parser.proofs.Steps.{semi-any, semi-within, empty-is, some-left}
use Rattle.go_parser.proofs.cutter.Cutter.take_semicolon.Goals as goal

pub returns-then-is_empty : goal.returns-then-is_empty
returns-then-is_empty c = λ words rest w is at r.
    let none : length c.args.self.now.brackets.items ≡ 0 =
    grind (arith, nat_tests, c.is_empty.ensures, c.if-is_empty.true) in
    let shut = empty-is c.args.self.now.brackets.items none in
    subst (λ us. Reached words rest (c.args.place + 1) c.end_chunk.new.self.chunks.items us
    (c.args.place + 1) None)
    (sym (ap (λ v. reverse v.items) c.in_ok-end_chunk.ensures.brackets ∙ shut))
    (semi-any words rest w c.args.place _ _ _ _ r c.end_chunk.new.self.chunks.items
    c.in_ok-end_chunk.ensures.some c.in_ok-end_chunk.ensures.none is shut)

pub returns : goal.returns
returns c = λ words rest w is at r.
    let some : 0 < length c.args.self.now.brackets.items =
    grind (arith, nat_tests, c.is_empty.ensures, c.if-is_empty.false) in
    semi-within words rest w c.args.place _ _ _ _ r is at
    (some-left c.args.self.now.brackets.items some)
