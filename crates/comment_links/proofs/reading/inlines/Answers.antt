use Rattle.std.proofs.Common.{◌≡◌, ◌+◌, ◌∙◌, ap, subst, arith, IfOk}
use Rattle.std.proofs.lemmas.Str.{IsCharBoundary-start}
use Rattle.comment_links.specs.InlineSteps.{inlines_from, whole}
use Rattle.comment_links.proofs.Begins.{mark_cut}
use Rattle.comment_links.proofs.Closings.{closing_later}
use Rattle.comment_links.proofs.Wholes.{end_more, mark_more}
use Rattle.comment_links.proofs.reading.inlines.Goals as goal

pub loop-parts-init : goal.loop-parts-init
loop-parts-init g c = record {
  within = omega arith;
  start = IsCharBoundary-start c.args.text.now c.utf8.text;
  closing = λ none. absurd (omega arith);
  all = ap (λ parts. whole parts (inlines_from c.args.definitions.now
      (g.N.Names.address_of c.args.names.now) c.args.text.now 0)) c.new-parts.ensures;
}

pub loop-parts-preserved : goal.loop-parts-preserved
loop-parts-preserved g c =
    let text = c.args.text.now in
    let links = c.args.definitions.now in
    let address_of = g.N.Names.address_of c.args.names.now in
    let from = c.loop-parts.from in
    let start = c.in-Some.field-0.start in
    let found = c.in-Some.field-0.found in
    let next = rw c.in-Some.is at c.in_ok-start.ensures.mark in
    let closing = rw c.in-Some.is at c.in_ok-start.ensures.closing in
    record {
      within = next.within;
      start = mark_cut links address_of text start found c.utf8.text (omega (arith, next.within))
          next.here;
      closing = closing_later text start (start + found.len) c.next_mark.new.closing (omega arith)
          closing;
      all = mark_more links address_of text from start found c.loop-parts.parts
          c.push_plain.new.self c.push.new.self c.range.result.now next c.range.ensures.value
          c.in_ok-push_plain.ensures c.in_ok-push.ensures
          ∙ c.loop-parts.invariant.all;
    }

pub returns : goal.returns
returns g c =
    let none = rw c.in_default.is at c.in_ok-start.ensures.mark in
    subst (λ s. IfOk c.finish.result (λ inlines. inlines ≡ s))
    (end_more c.args.definitions.now (g.N.Names.address_of c.args.names.now) c.args.text.now
    c.loop-parts.from c.loop-parts.parts c.push_plain-2.new.self c.range_from.result.now
    c.loop-parts.invariant.within none c.range_from.ensures.value c.in_ok-push_plain-2.ensures
    ∙ c.loop-parts.invariant.all) c.finish.ensures
