use Rattle.std.proofs.Common.{◌≡◌, ◌∙◌, sym, ap, subst, refl, None, ◌∷◌, ◌+◌}
use Rattle.std.proofs.Common.{reverse}
use Rattle.std.proofs.lemmas.List.{reverse-append}
use Rattle.go_parser.specs.Cutter.{Reached, kept}
use Rattle.go_parser.proofs.Steps.{opens-one, passes-one, and-false, semi-mark}
use Rattle.go_parser.proofs.cutter.Cutter.take.Goals as goal

pub returns-then-is : goal.returns-then-is
returns-then-is c = λ words rest w at off cuts r.
    c.in_ok-take_semicolon.ensures words rest w
    (semi-mark c.args.mark w.mark cuts (sym c.is.ensures ∙ c.if-is.true)) at r

pub returns-in_ok-push : goal.returns-in_ok-push
returns-in_ok-push c = λ words rest w at off cuts r.
    let opened = sym cuts.same_opens ∙ sym c.opens.ensures ∙ c.if-opens.true in
    let same : ◌≡◌ (kept w) (record {
      place = c.args.place;
      offset = c.args.offset;
      closing = c.closing_of.result;
    }) = rw (at, off, c.closing_of.ensures, cuts.opening opened) refl in
    subst (λ us. Reached words rest (c.args.place + 1) c.args.self.now.chunks.items us
    c.args.self.now.first None)
    (ap (λ k. k ∷ reverse c.args.self.now.brackets.items) same
    ∙ sym (ap reverse c.in_ok-push.ensures.items
    ∙ reverse-append c.args.self.now.brackets.items _))
    (opens-one words rest w c.args.place _ _ _ _ r opened at)

pub returns-else-opens : goal.returns-else-opens
returns-else-opens c = λ words rest w at off cuts r.
    passes-one words rest w c.args.place _ _ _ _ r
    (sym cuts.same_opens ∙ sym c.opens.ensures ∙ c.if-opens.false)
    (sym cuts.same_closes ∙ sym c.closes.ensures ∙ c.if-closes.false) at
    (and-false _ _ (sym cuts.same_semi ∙ sym c.is.ensures ∙ c.if-is.false))
