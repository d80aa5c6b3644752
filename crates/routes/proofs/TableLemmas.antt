-- What the rows of the router find is what the table of routes says.
use Rattle.std.proofs.Common.{◌≡◌, ℕ, ◌==◌, Bool, true, false, cond, List, [], ◌∷◌, ◌++◌, length, Option, Some, None, get_or, ◌<◌, refl, sym, ap, ap₂, ◌∙◌, subst, arith, ⊎_elim}
use Rattle.std.proofs.lemmas.Bool.{cases_Bool, ne_eqb}
use Rattle.std.proofs.lemmas.List.Elements.{All-from_get_or}
use Rattle.std.proofs.lemmas.List.Folds.{list_any_none}
use Rattle.std.proofs.lemmas.Slice.Eq.{bytes_eq-Decides}
use Rattle.std.specs.Prelude.{codes, option_map}
use Rattle.std.specs.List.{list_any}
use Rattle.std.specs.Str.{bytes_eq}
use Rattle.matchit.proofs.RenameLemmas.{first-rename}
use Rattle.matchit.specs.Order.{lookup}
use Rattle.matchit.specs.Router.{RouteOf, map_key, rename}
use Rattle.matchit.specs.Rows.{RowsOf}
use Rattle.matchit.specs.Seek.{first, or_else}
use Rattle.routes.specs.declared.router.Page.{Page}
use Rattle.routes.specs.declared.router.Page.TheVariants as pages
use Rattle.routes.specs.Rows.{page_rows}
use Rattle.routes.specs.Targets.{Pattern, below, is_below, page_at}
use Rattle.routes.proofs.RowLemmas.{seek-is, caught, caught-catching, caught-one, caught-two}

caught-page : (path : List ℕ) → list_any (λ b. b == 257) path ≡ false
    → caught page_rows path
    ≡ or_else (cond (is_below (codes "pkg/") path) (Some pages.Package) None)
    (cond (is_below (codes "src/") path) (Some pages.Source) None)
caught-page path bytes =
    caught-catching page_rows path bytes
    ∙ caught-two 112 115 (codes "kg/" ++ 257 ∷ [])
    (codes "rc/" ++ 257 ∷ []) pages.Package pages.Source path
    (λ same. omega arith) refl refl
    ∙ ap₂ or_else (caught-one (codes "pkg/") pages.Package path refl)
    (caught-one (codes "src/") pages.Source path refl)

-- what the rows of whole paths find, and then what was caught, is what the table says
abbrev Agrees : List ℕ → Type 0
Agrees path = (found : Option Page)
    → found ≡ or_else (cond (is_below (codes "pkg/") path) (Some pages.Package) None)
    (cond (is_below (codes "src/") path) (Some pages.Source) None)
    → or_else (lookup path page_rows) found ≡ page_at path

-- a path that is this text, or isn't
at_text : (text path : List ℕ) → Agrees text → (bytes_eq text path ≡ false → Agrees path)
    → Agrees path
at_text text path at otherwise =
    ⊎_elim (λ is. subst Agrees ((bytes_eq-Decides text path).0 is) at) otherwise
    (cases_Bool (bytes_eq text path))

no_text : (path : List ℕ) → bytes_eq (codes "faults") path ≡ false
    → bytes_eq (codes "pkg/" ++ 257 ∷ []) path ≡ false
    → bytes_eq (codes "pkg/") path ≡ false → bytes_eq (codes "pkg") path ≡ false
    → bytes_eq (codes "search") path ≡ false
    → bytes_eq (codes "src/" ++ 257 ∷ []) path ≡ false → bytes_eq (codes "") path ≡ false
    → Agrees path
no_text path a b c d e f g found is =
    rw (a, b, c, d, e, f, g, is) (by (is_below (codes "pkg/") path) (is_below (codes "src/") path))
  where
    by : (after_package after_source : Bool)
        → or_else (cond after_package (Some pages.Package) None)
        (cond after_source (Some pages.Source) None)
        ≡ option_map (λ (row : Pattern × Page). row.1)
        (cond after_package (Some (below (codes "pkg/"), pages.Package))
        (cond after_source (Some (below (codes "src/"), pages.Source)) None))
    by true after_source = refl
    by false true = refl
    by false false = refl

agrees : (path : List ℕ) → Agrees path
agrees path =
    at_text (codes "faults") path (λ found is. refl)
    (λ a. at_text (codes "pkg/" ++ 257 ∷ []) path (λ found is. refl)
    (λ b. at_text (codes "pkg/") path (λ found is. refl)
    (λ c. at_text (codes "pkg") path (λ found is. refl)
    (λ d. at_text (codes "search") path (λ found is. refl)
    (λ e. at_text (codes "src/" ++ 257 ∷ []) path (λ found is. refl)
    (λ f. at_text (codes "") path (λ found is. refl)
    (λ g. no_text path a b c d e f g)))))))

first-page : (path : List ℕ) → list_any (λ b. b == 257) path ≡ false → first page_rows path
    ≡ page_at path
first-page path bytes =
    seek-is page_rows path (refl, (refl, (refl, (refl, (refl, (refl, (refl, tt)))))))
    ∙ agrees path (caught page_rows path) (caught-page path bytes)

no_catch_all : (path : List ℕ) → ((i : ℕ) → i < length path → get_or path i 0 < 256)
    → list_any (λ b. b == 257) path ≡ false
no_catch_all path bytes =
    list_any_none (λ b. b == 257) path
    (All-from_get_or (λ b. (b == 257) ≡ false) path 0
    (λ i inside. ne_eqb (get_or path i 0) 257 (λ is. let small = bytes i inside in omega arith)))

-- what the router answers for a path
pub page-found : (rows : RowsOf (RouteOf Page)) (path : List ℕ)
    → rename (λ (route : RouteOf Page). route.value) rows ≡ page_rows
    → ((i : ℕ) → i < length path → get_or path i 0 < 256)
    → map_key (λ (route : RouteOf Page). route.value) (first rows path) ≡ page_at path
page-found rows path table bytes =
    sym (first-rename (λ (route : RouteOf Page). route.value) rows path)
    ∙ ap (λ r. first r path) table ∙ first-page path (no_catch_all path bytes)
