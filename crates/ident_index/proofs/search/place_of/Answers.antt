use Rattle.std.proofs.Common.{◌≡◌, ℕ, List, [], get_or, ◌≤◌, ◌<◌, ◌-◌, ◌+◌, ◌*◌, ◌^◌, length, ◌/◌}
use Rattle.std.proofs.Common.{arith, subst, sym, ◌∙◌}
use Rattle.std.proofs.lemmas.List.{get_or_default}
use Rattle.ident_index.specs.Postings.{Posting}
use Rattle.ident_index.proofs.Finding.{above_more, below_more, named_here, none_here}
use Rattle.ident_index.proofs.Halves.{halved, counted}
use Rattle.ident_index.proofs.search.place_of.Goals as goal

none : Posting
none = record { name = []; hits = [] }

here_is : (postings : List Posting) (i : ℕ) → i < length postings
    → get_or postings i (get_or postings i none) ≡ get_or postings i none
here_is postings i within = get_or_default postings i (get_or postings i none) none within

pub loop-low-preserved-in-Less : goal.loop-low-preserved-in-Less
loop-low-preserved-in-Less g c =
    let was = c.loop-low.invariant in
    let middle = c.loop-low.low + (c.loop-low.high - c.loop-low.low) / 2 in
    let k = c.loop-low.steps - c.args.steps.now in
    let one : k + 1 ≡ c.compare.new.steps - c.args.steps.now = omega
    (arith, was.later, c.compare.ensures.counted) in
    let small : (c.loop-low.high - (middle + 1)) * 2 ≤ c.loop-low.high - c.loop-low.low = omega
    (arith, c.loop-low-test.true) in
    let within : middle < length c.args.names.now = omega (arith, was.within, c.loop-low-test.true)
    in
    let x = get_or c.args.names.now middle none in
    record {
      ordered = omega (arith, c.loop-low-test.true);
      within = was.within;
      below = below_more c.args.names.now c.args.name.now c.requires middle within x
          (here_is _ middle within) (sym (c.compare.ensures.compared none) ∙ c.in-Less.is);
      above = was.above;
      later = omega (arith, was.later, c.compare.ensures.counted);
      left = subst (λ s. (c.loop-low.high - (middle + 1)) * 2 ^ s ≤ length c.args.names.now) one
          (halved _ _ k _ small was.left);
      cost = subst (λ s. 2 ^ s ≤ 2 * length c.args.names.now + 1) one
          (counted _ k _ (omega (arith, c.loop-low-test.true)) was.left);
    }

pub returns-in-Equal-clause-found : goal.returns-in-Equal-clause-found
returns-in-Equal-clause-found g c =
    let was = c.loop-low.invariant in
    let middle = c.loop-low.low + (c.loop-low.high - c.loop-low.low) / 2 in
    let within : middle < length c.args.names.now = omega (arith, was.within, c.loop-low-test.true)
    in
    named_here c.args.names.now c.args.name.now c.requires middle within
    (get_or c.args.names.now middle none) (here_is _ middle within)
    (sym (c.compare.ensures.compared none) ∙ c.in-Equal.is)

pub returns-in-Equal-clause-cost : goal.returns-in-Equal-clause-cost
returns-in-Equal-clause-cost g c =
    let was = c.loop-low.invariant in
    let k = c.loop-low.steps - c.args.steps.now in
    let one : k + 1 ≡ c.compare.new.steps - c.args.steps.now = omega
    (arith, was.later, c.compare.ensures.counted) in
    subst (λ s. 2 ^ s ≤ 2 * length c.args.names.now + 1) one
    (counted _ k _ (omega (arith, c.loop-low-test.true)) was.left)

pub loop-low-preserved : goal.loop-low-preserved
loop-low-preserved g c =
    let was = c.loop-low.invariant in
    let middle = c.loop-low.low + (c.loop-low.high - c.loop-low.low) / 2 in
    let k = c.loop-low.steps - c.args.steps.now in
    let one : k + 1 ≡ c.compare.new.steps - c.args.steps.now = omega
    (arith, was.later, c.compare.ensures.counted) in
    let small : (middle - c.loop-low.low) * 2 ≤ c.loop-low.high - c.loop-low.low = omega
    (arith, c.loop-low-test.true) in
    let within : middle < length c.args.names.now = omega (arith, was.within, c.loop-low-test.true)
    in
    record {
      ordered = omega arith;
      within = omega (arith, was.within, c.loop-low-test.true);
      below = was.below;
      above = above_more c.args.names.now c.args.name.now c.requires middle within
          (get_or c.args.names.now middle none) (here_is _ middle within)
          (sym (c.compare.ensures.compared none) ∙ c.in-Greater.is);
      later = omega (arith, was.later, c.compare.ensures.counted);
      left = subst (λ s. (middle - c.loop-low.low) * 2 ^ s ≤ length c.args.names.now) one
          (halved _ _ k _ small was.left);
      cost = subst (λ s. 2 ^ s ≤ 2 * length c.args.names.now + 1) one
          (counted _ k _ (omega (arith, c.loop-low-test.true)) was.left);
    }

pub returns-clause-found : goal.returns-clause-found
returns-clause-found g c =
    let was = c.loop-low.invariant in
    none_here c.args.names.now c.args.name.now c.loop-low.low was.below
    (λ i d h l. was.above i d (omega (arith, c.loop-low-test.false)) l)
