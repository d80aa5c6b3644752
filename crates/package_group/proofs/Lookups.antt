-- The names of packages by their paths.
use Rattle.std.proofs.Common.{◌≡◌, ℕ, ◌+◌, ◌<◌, Bool, true, false, cond, List, [], ◌∷◌, Option}
use Rattle.std.proofs.Common.{Some, map, get_or, take, length, refl, sym, ap, subst, ◌∙◌}
use Rattle.std.specs.Prelude.{◌||◌, Contains, IfSome, is_some}
use Rattle.std.specs.List.{list_any}
use Rattle.std.specs.Str.{bytes_eq}
use Rattle.std.proofs.Math.Bool.{or-false}
use Rattle.std.proofs.lemmas.Bool.{or_right}
use Rattle.std.proofs.lemmas.Grind.{take_at_read}
use Rattle.std.proofs.lemmas.List.{get_or-map, length-map}
use Rattle.std.proofs.lemmas.List.Folds.{list_any-append}
use Rattle.std.proofs.lemmas.Slice.Eq.{bytes_eq-Decides}
use Rattle.package_group.specs.declared.facts.Package.{Package}
use Rattle.package_group.proofs.Lists.{bytes_eq-sym}

abbrev pub Pair : Type 0
Pair = List ℕ × List ℕ

abbrev pub pair_of : Package → Pair
pair_of p = (p.path, p.name)

any_more : (q : List ℕ) (packages : List Package) (i : ℕ) (p : Package) → i < length packages → p
    ≡ get_or packages i p
    → list_any (λ x. bytes_eq q x.path) (take (i + 1) packages)
    ≡ (list_any (λ x. bytes_eq q x.path) (take i packages) || bytes_eq p.path q)
any_more q packages i p below here =
    let test : Package → Bool = λ x. bytes_eq q x.path in
    ap (list_any test) (take_at_read packages i p below).1
    ∙ list_any-append test (take i packages) (get_or packages i p ∷ [])
    ∙ ap (λ b. list_any test (take i packages) || b)
    (or-false (test (get_or packages i p)) ∙ ap test (sym here) ∙ bytes_eq-sym q p.path)

here_is : (packages : List Package) (i : ℕ) (p : Package) → i < length packages → p
    ≡ get_or packages i p → Contains {X = Pair} (map pair_of packages) (pair_of p)
here_is packages i p below here = (
  i,
  rw (length-map packages pair_of) below,
  get_or-map pair_of packages i p (pair_of p) below
      ∙ ap pair_of (sym here),
)

-- one package more whose name is put at its path
pub named_more : {X : Type 0} (bytes : X → List ℕ) (v : X) (old new : Option X) (q path : List ℕ)
    (packages : List Package) (i : ℕ) (p : Package)
    → i < length packages → p ≡ get_or packages i p → path ≡ p.path → bytes v ≡ p.name → new
    ≡ cond (bytes_eq path q) (Some v) old
    → is_some old ≡ list_any (λ x. bytes_eq q x.path) (take i packages)
    → IfSome old (λ x. Contains {X = Pair} (map pair_of packages) (q, bytes x))
    → (is_some new ≡ list_any (λ x. bytes_eq q x.path) (take (i + 1) packages))
    × IfSome new (λ x. Contains {X = Pair} (map pair_of packages) (q, bytes x))
named_more {X} bytes v old new q path packages i p below here same_path same_name is known has =
    let test : Package → Bool = λ x. bytes_eq q x.path in
    let more = any_more q packages i p below here
    ∙ ap (λ r. list_any test (take i packages) || bytes_eq r q) (sym same_path) in
    let any : Bool → Bool = λ b. list_any test (take i packages) || b in
    let G : Option X → Type 0 = λ o. IfSome o
    (λ x. Contains {X = Pair} (map pair_of packages) (q, bytes x)) in
    let first : (b : Bool) → is_some (cond b (Some v) old)
    ≡ any b = λ b. elim b as (λ c. is_some (cond c (Some v) old) ≡ any c) [
      | true ↦ sym (or_right _ _ refl)
      | false ↦ known ∙ sym (or-false _)
    ] in
    let put : bytes_eq path q ≡ true → Contains {X = Pair} (map pair_of packages) (q, bytes v) = λ
    e.
    let at : p.path ≡ q = sym same_path ∙ (bytes_eq-Decides path q).0 e in
    subst (λ (x : Pair). Contains {X = Pair} (map pair_of packages) x)
    (λ t. (at t, sym same_name t)) (here_is packages i p below here) in
    let second : (b : Bool) → (b ≡ true → Contains {X = Pair} (map pair_of packages) (q, bytes v))
    → G (cond b (Some v) old) = λ b. elim b as
    (λ c. (c ≡ true → Contains {X = Pair} (map pair_of packages) (q, bytes v))
    → G (cond c (Some v) old)) [
      | true ↦ λ h. h refl
      | false ↦ λ _. has
    ] in (
      ap is_some is ∙ first (bytes_eq path q) ∙ sym more,
      subst G (sym is)
          (second (bytes_eq path q) put),
    )
