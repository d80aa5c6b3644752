use Rattle.std.proofs.Common.{◌≡◌, ap, sym, suc, ◌-◌, subst, arith, IfOk}
use Rattle.type_parser.specs.Reading.{type_of}
use Rattle.type_parser.proofs.reader.+type_of.Goals as goal

pub returns-then-levels-eq0 : goal.returns-then-levels-eq0
unfolding type_of
returns-then-levels-eq0 t c = let none : c.args.levels ≡ 0 = omega arith in
    ap (λ n. type_of n c.args.words.now) (sym none)

pub returns : goal.returns
unfolding type_of
returns t c =
    let e : suc (c.args.levels - 1) ≡ c.args.levels = omega arith in
    subst (λ n. IfOk c.step.result (λ o. o ≡ type_of n c.args.words.now)) e c.step.ensures
