use Rattle.std.proofs.Common.{◌≡◌, ◌+◌, ◌<◌, Some, None, length, sym, ◌∙◌, ap, subst, arith}
use Rattle.comment_links.specs.InlineSteps.{IsBegin, closing_from, found_in}
use Rattle.comment_links.proofs.Begins.{none_on, none_to}
use Rattle.comment_links.proofs.Closings.{closing_later}
use Rattle.comment_links.proofs.Lists.{found_len}
use Rattle.comment_links.proofs.reading.next_mark.Goals as goal

pub loop-start-init : goal.loop-start-init
loop-start-init g c =
    let text = c.args.text.now in
    let begin = subst (λ bs. IsBegin bs c.args.from c.next_begin-start.result)
    c.as_bytes-bytes.ensures.value c.next_begin-start.ensures in
    record {
      behind = begin.behind;
      within = begin.within;
      begin = begin.here;
      none = none_to c.args.definitions.now (g.N.Names.address_of c.args.names.now) text c.args.from
          c.next_begin-start.result begin;
      closing = closing_later text c.args.from c.next_begin-start.result c.args.closing.now
          begin.behind c.requires.closing;
    }

pub returns-in-Some-clause-mark : goal.returns-in-Some-clause-mark
returns-in-Some-clause-mark g c =
    let text = c.args.text.now in
    let start = c.loop-start.start in
    let links = c.args.definitions.now in
    let address_of = g.N.Names.address_of c.args.names.now in
    let here : found_in links address_of text start ≡ Some c.in-Some.found =
    sym c.in_ok-found.ensures ∙ c.in-Some.is in
    let len = found_len links address_of text start c.in-Some.found c.loop-start.invariant.within
    here in
    record {
      behind = c.loop-start.invariant.behind;
      none = c.loop-start.invariant.none;
      within = len.1;
      some = len.0;
      here = here;
    }

pub loop-start-preserved : goal.loop-start-preserved
loop-start-preserved g c =
    let text = c.args.text.now in
    let start = c.loop-start.start in
    let next = c.next_begin-start-in-loop-start.result in
    let links = c.args.definitions.now in
    let address_of = g.N.Names.address_of c.args.names.now in
    let begin = subst (λ bs. IsBegin bs (start + 1) next)
    c.as_bytes-bytes.ensures.value c.next_begin-start-in-loop-start.ensures in
    let within : start < length text =
    omega (arith, c.loop-start-test.true, ap length c.as_bytes-bytes.ensures.value) in
    let here : found_in links address_of text start ≡ None =
    sym c.in_ok-found.ensures ∙ c.in_default.is in
    let closing = ap (λ bs. closing_from bs start) c.as_bytes-bytes.ensures.value in
    record {
      behind = omega (arith, begin.behind, c.loop-start.invariant.behind);
      within = begin.within;
      begin = begin.here;
      none = none_on links address_of text c.args.from start next within
          c.loop-start.invariant.none here begin;
      closing = closing_later text start next c.next_closing.result
          (omega (arith, begin.behind)) (λ _. c.next_closing.ensures ∙ closing);
    }
