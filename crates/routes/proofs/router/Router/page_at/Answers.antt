use Rattle.std.proofs.Common.{ap, sym, ◌∙◌, arith}
use Rattle.matchit.specs.Router.{RouteOf, map_key}
use Rattle.routes.specs.declared.router.Page.{Page}
use Rattle.routes.proofs.TableLemmas.{page-found}
use Rattle.routes.proofs.router.Router.page_at.Goals as goal

pub returns-in-Ok : goal.returns-in-Ok
returns-in-Ok c =
    let table = page-found c.args.self.now.pages c.args.path.now c.args.self.now.rows
    (λ i inside. omega (arith, c.type_inv.path i)) in
    let found = rw c.in-Ok.is at c.at.ensures.found in
    sym (ap (map_key (λ (route : RouteOf Page). route.value)) found) ∙ table

pub returns-in-Err : goal.returns-in-Err
returns-in-Err c =
    let table = page-found c.args.self.now.pages c.args.path.now c.args.self.now.rows
    (λ i inside. omega (arith, c.type_inv.path i)) in
    let missing = rw c.in-Err.is at c.at.ensures.missing in
    sym (ap (map_key (λ (route : RouteOf Page). route.value)) missing) ∙ table
