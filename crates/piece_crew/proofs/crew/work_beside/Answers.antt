use Rattle.std.proofs.Common.{◌≡◌, sym, ◌∙◌, subst, map}
use Rattle.std.specs.Prelude.{Ok}
use Rattle.std.proofs.lemmas.Result.{IfOk-weaker}
use Rattle.piece_crew.specs.Bundles.{AreWorkedOff}
use Rattle.piece_crew.specs.Claims.{AreMade}
use Rattle.piece_crew.proofs.Ordering.{worked_off}
use Rattle.piece_crew.proofs.crew.work_beside.Goals as goal

pub returns : goal.returns
returns g c =
    let jobs = g.J.Job.jobs c.args.all.now in
    let count = c.from.ensures ∙ c.count.ensures in
    let made = c.in_ok-seats.ensures in
    let seats = c.into_vec.result.items in
    let made' = subst (λ (n : _). AreMade n c.args.workers seats) count (subst (AreMade c.from.result c.args.workers) (sym c.into_vec.ensures) made) in
    IfOk-weaker c.all_done.result (λ bundles. map Ok bundles.items ≡ c.in_ok-results.results.items) (λ bundles. AreWorkedOff (g.J.Job.gives c.args.all.now) jobs bundles.items)
    (λ bundles same. worked_off (g.J.Job.gives c.args.all.now) jobs c.args.workers seats c.in_ok-results.results.items bundles.items c.requires.some made' c.in_ok-results.ensures.len c.in_ok-results.ensures.each same)
    c.all_done.ensures
