-- Cited by private clauses and proofs. The table of routes as the router holds it.
use Rattle.std.specs.Prelude.{◌≡◌, [], ◌∷◌, ◌++◌, codes, Result, Ok, Err, None}
use Rattle.matchit.specs.declared.error.InsertError.{InsertError}
use Rattle.matchit.specs.Order.{placed}
use Rattle.matchit.specs.Route.{Scan}
use Rattle.matchit.specs.Router.{RouteOf, nearest, route_from}
use Rattle.matchit.specs.Rows.{RowsOf, catch_all_token}
use Rattle.routes.specs.declared.router.Page.{Page}
use Rattle.routes.specs.declared.router.Page.TheVariants as pages

-- the patterns in the order of the router, each with its page
abbrev pub page_rows : RowsOf Page
page_rows =
    (codes "faults", pages.Faults)
    ∷ (codes "pkg/" ++ catch_all_token ∷ [], pages.Package)
    ∷ (codes "pkg/", pages.List)
    ∷ (codes "pkg", pages.List)
    ∷ (codes "search", pages.Search)
    ∷ (codes "src/" ++ catch_all_token ∷ [], pages.Source)
    ∷ (codes "", pages.List)
    ∷ []

-- the route can be read, and conflicts with none of the rows
abbrev pub IsFree : Result Scan InsertError → RowsOf (RouteOf Page) → Type 0
IsFree (Ok scan) rows = nearest scan.pattern rows ≡ None
IsFree (Err e) rows = ⊥

-- the rows with one more route
abbrev pub with_route : Result Scan InsertError → Page → RowsOf (RouteOf Page)
    → RowsOf (RouteOf Page)
with_route (Ok scan) page rows = placed (scan.pattern, route_from scan page) rows
with_route (Err e) page rows = rows
