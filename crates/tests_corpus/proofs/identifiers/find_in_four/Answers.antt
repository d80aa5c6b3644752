use Rattle.std.proofs.Common.{◌≤◌, ◌-◌, ◌^◌, inl, inr, arith}
use Rattle.std.proofs.lemmas.Bool.{cases_lt}
use Rattle.std.proofs.Math.Pow.{pow_mono}
use Rattle.tests_corpus.proofs.identifiers.find_in_four.Goals as goal

pub returns : goal.returns
returns g c = λ few.
    let looks = c.find.new.steps - c.args.steps.now in
    elim (cases_lt looks 5) [
      | inl less ↦ omega (arith, less, c.find.ensures.later)
      | inr more ↦ let least : 2 ^ 5 ≤ 2 ^ looks = pow_mono more in
          absurd (omega (arith, least, few, c.find.ensures.cost))
    ]
