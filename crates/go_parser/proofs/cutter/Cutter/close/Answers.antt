use Rattle.std.proofs.Common.{◌≡◌, ◌∙◌, sym, ap, subst, [], ◌∷◌, reverse, true, false, length}
use Rattle.std.proofs.Common.{arith}
use Rattle.std.proofs.lemmas.Bool.Decides.{nat_tests}
use Rattle.std.proofs.lemmas.List.{reverse-append}
use Rattle.go_ast.specs.Marks.{same_mark}
use Rattle.go_parser.proofs.Steps.{closes-one, nothing-open, other-open, empty-is}
use Rattle.go_parser.proofs.cutter.Cutter.close.Goals as goal

pub returns-in-Some : goal.returns-in-Some
returns-in-Some c = λ words rest w place at m closes r.
    closes-one words rest w place _ _ _ _ r c.in-Some.bracket (reverse c.pop.new.self.items)
    (ap reverse c.in-Some.ensures.items ∙ reverse-append c.pop.new.self.items
    (c.in-Some.bracket ∷ []))
    closes at
    (subst (λ k. same_mark k c.in-Some.bracket.closing ≡ true) (m.closing closes)
    (sym c.is.ensures ∙ c.if-is.true))

pub returns-in_default : goal.returns-in_default
returns-in_default c = λ words rest w place at m closes r.
    other-open words rest w place _ _ _ _ r c.in-Some.bracket (reverse c.pop.new.self.items)
    (ap reverse c.in-Some.ensures.items ∙ reverse-append c.pop.new.self.items
    (c.in-Some.bracket ∷ []))
    closes
    (subst (λ k. same_mark k c.in-Some.bracket.closing ≡ false) (m.closing closes)
    (sym c.is.ensures ∙ c.if-is.false))

pub returns-in_default-2 : goal.returns-in_default-2
returns-in_default-2 c = λ words rest w place at m closes r.
    let none : length c.args.self.now.brackets.items ≡ 0 =
    grind (arith, nat_tests, c.in_default.ensures.cases) in
    nothing-open words rest w place _ _ _ _ r (empty-is c.args.self.now.brackets.items none) closes
