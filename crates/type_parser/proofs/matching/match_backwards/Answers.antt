use Rattle.std.proofs.Common.{◌≡◌, ◌∙◌, ap, sym, subst, suc, ◌+◌, ◌-◌, get_or}
use Rattle.std.proofs.Common.{reverse, length, arith}
use Rattle.type_parser.specs.Matching.{plain, AreMatched}
use Rattle.type_parser.proofs.Cuts.{enough, added-count, added-words, added-matched}
use Rattle.type_parser.proofs.Cuts.{unmatched-opened, unmatched-closed, unmatched-other}
use Rattle.type_parser.proofs.matching.match_backwards.Goals as goal

pub overflow_sub-inside : goal.overflow_sub-inside
overflow_sub-inside c =
    let was = c.loop-at.invariant in
    let words = c.args.words.now in
    let next : c.loop-at.at ≡ suc (c.loop-at.at - 1) = omega arith in
    let most = enough words c.loop-at.found.items (c.loop-at.at - 1) c.loop-at.at next was.count in
    let first = c.last_or_zero.ensures ∙ ap (λ us. get_or (reverse us) 0 0) c.deref.ensures.value
    ∙ ap (λ us. get_or us 0 0) was.closings in
    omega (arith, most, first, c.len-after.ensures)

pub loop-at-preserved-then-opens : goal.loop-at-preserved-then-opens
loop-at-preserved-then-opens c =
    let was = c.loop-at.invariant in
    let words = c.args.words.now in
    let found = c.loop-at.found.items in
    let next : c.loop-at.at ≡ suc (c.loop-at.at - 1) = omega arith in
    let first = c.last_or_zero.ensures ∙ ap (λ us. get_or (reverse us) 0 0) c.deref.ensures.value
    ∙ ap (λ us. get_or us 0 0) was.closings in
    let pushed = c.in_ok-push.ensures.items in
    record {
      count = ap (λ us. length us + (c.loop-at.at - 1)) pushed
          ∙ added-count words found (c.loop-at.at - 1) c.loop-at.at next was.count _;
      words = ap (λ us. plain (reverse us)) pushed
          ∙ added-words words found (c.loop-at.at - 1) c.loop-at.at next was.count _ _ was.words;
      matched = subst (λ us. AreMatched (reverse us)) (sym pushed)
          (added-matched words found (c.loop-at.at - 1) c.loop-at.at next was.count _ _ was.words
          was.matched (omega (arith, first, c.len-after.ensures)));
      closings = unmatched-opened words found (c.loop-at.at - 1) c.loop-at.at next was.count _
          c.loop-at.closings.items c.drop_last.new.numbers.items
          (sym c.opens.ensures ∙ c.if-opens.true)
          was.closings c.drop_last.ensures;
    }

pub loop-at-preserved-in-Continue-branch-2 : goal.loop-at-preserved-in-Continue-branch-2
loop-at-preserved-in-Continue-branch-2 c =
    let was = c.loop-at.invariant in
    let words = c.args.words.now in
    let found = c.loop-at.found.items in
    let next : c.loop-at.at ≡ suc (c.loop-at.at - 1) = omega arith in
    let first = c.last_or_zero.ensures ∙ ap (λ us. get_or (reverse us) 0 0) c.deref.ensures.value
    ∙ ap (λ us. get_or us 0 0) was.closings in
    let pushed = c.in_ok-push.ensures.items in
    record {
      count = ap (λ us. length us + (c.loop-at.at - 1)) pushed
          ∙ added-count words found (c.loop-at.at - 1) c.loop-at.at next was.count _;
      words = ap (λ us. plain (reverse us)) pushed
          ∙ added-words words found (c.loop-at.at - 1) c.loop-at.at next was.count _ _ was.words;
      matched = subst (λ us. AreMatched (reverse us)) (sym pushed)
          (added-matched words found (c.loop-at.at - 1) c.loop-at.at next was.count _ _ was.words
          was.matched (omega (arith, first, c.len-after.ensures)));
      closings = ap reverse c.in_ok-push-2.ensures.items
          ∙ unmatched-closed words found (c.loop-at.at - 1) c.loop-at.at next was.count _
          c.loop-at.closings.items c.len-after.result
          (sym c.opens.ensures ∙ c.if-opens.false) (sym c.closes.ensures ∙ c.if-closes.true)
          was.closings (omega (arith, c.len-after.ensures));
    }

pub loop-at-preserved : goal.loop-at-preserved
loop-at-preserved c =
    let was = c.loop-at.invariant in
    let words = c.args.words.now in
    let found = c.loop-at.found.items in
    let next : c.loop-at.at ≡ suc (c.loop-at.at - 1) = omega arith in
    let first = c.last_or_zero.ensures ∙ ap (λ us. get_or (reverse us) 0 0) c.deref.ensures.value
    ∙ ap (λ us. get_or us 0 0) was.closings in
    let pushed = c.in_ok-push.ensures.items in
    record {
      count = ap (λ us. length us + (c.loop-at.at - 1)) pushed
          ∙ added-count words found (c.loop-at.at - 1) c.loop-at.at next was.count _;
      words = ap (λ us. plain (reverse us)) pushed
          ∙ added-words words found (c.loop-at.at - 1) c.loop-at.at next was.count _ _ was.words;
      matched = subst (λ us. AreMatched (reverse us)) (sym pushed)
          (added-matched words found (c.loop-at.at - 1) c.loop-at.at next was.count _ _ was.words
          was.matched (omega (arith, first, c.len-after.ensures)));
      closings = unmatched-other words found (c.loop-at.at - 1) c.loop-at.at next was.count _
          c.loop-at.closings.items
          (sym c.opens.ensures ∙ c.if-opens.false) (sym c.closes.ensures ∙ c.if-closes.false)
          was.closings;
    }
