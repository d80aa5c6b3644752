-- Filters, tests and look-ups of lists that are mapped.
use Rattle.std.proofs.Common.{◌≡◌, ℕ, ◌+◌, ◌<◌, Bool, true, false, cond, List, [], ◌∷◌, ◌++◌, take}
use Rattle.std.proofs.Common.{drop, zero-add, add-zero, add-one, arith, drop-cons, Some, map}
use Rattle.std.proofs.Common.{get_or, length, All, refl, sym, ap, ◌∙◌, true≢false, ⊎_elim}
use Rattle.std.proofs.lemmas.Bool.{cases_Bool}
use Rattle.std.specs.Prelude.{◌||◌}
use Rattle.std.specs.List.{Contains, filter, find, list_any, enumerate_from}
use Rattle.std.specs.Map.{lookup}
use Rattle.std.specs.Str.{bytes_eq}
use Rattle.std.proofs.lemmas.Slice.Eq.{bytes_eq-Decides}
use Rattle.std.specs.Option.{is_some}
use Rattle.std.proofs.lemmas.Grind.{take_at_read}
use Rattle.std.proofs.lemmas.List.{append-nil, length-take, map-append}
use Rattle.std.proofs.lemmas.List.Elements.{All-cons, All-contains, All-head, All-nil, All-tail}
use Rattle.std.proofs.lemmas.List.Elements.{filter_more}
use Rattle.std.proofs.lemmas.Bool.Decides.{same_from_decides}

module _ {X Y : Type 0} (f : X → Y) (p : Y → Bool) where
  pub filter-map : (xs : List X) → filter p (map f xs) ≡ map f (filter (λ x. p (f x)) xs)
  filter-map [] = refl
  filter-map (x ∷ xs) =
      elim (p (f x)) as (λ b. cond b (f x ∷ filter p (map f xs)) (filter p (map f xs))
      ≡ map f (cond b (x ∷ filter (λ y. p (f y)) xs) (filter (λ y. p (f y)) xs))) [
        | true ↦ ap (λ l. f x ∷ l) (filter-map xs)
        | false ↦ filter-map xs
      ]

  pub list_any-map : (xs : List X) → list_any p (map f xs) ≡ list_any (λ x. p (f x)) xs
  list_any-map [] = refl
  list_any-map (x ∷ xs) = ap (λ b. p (f x) || b) (list_any-map xs)

pub map-map : {X Y Z : Type 0} (f : X → Y) (g : Y → Z) (xs : List X) → map g (map f xs)
    ≡ map (λ x. g (f x)) xs
map-map f g [] = refl
map-map f g (x ∷ xs) = ap (λ l. g (f x) ∷ l) (map-map f g xs)

pub map-same : {X : Type 0} (xs : List X) → map (λ x. x) xs ≡ xs
map-same [] = refl
map-same (x ∷ xs) = ap (λ l. x ∷ l) (map-same xs)

-- the elements without their places
pub map-enumerate_from : {X : Type 0} (n : ℕ) (xs : List X) → map (λ e. e.1) (enumerate_from n xs)
    ≡ xs
map-enumerate_from n [] = refl
map-enumerate_from n (x ∷ xs) = ap (λ l. x ∷ l) (map-enumerate_from (n + 1) xs)

-- two tests that agree on each element
pub filter_same : {X : Type 0} (p q : X → Bool) (xs : List X) → All (λ x. p x ≡ q x) xs
    → filter p xs ≡ filter q xs
filter_same p q [] all = refl
filter_same p q (x ∷ xs) all =
    ap (λ b. cond b (x ∷ filter p xs) (filter p xs)) (All-head (λ x. p x ≡ q x) x xs all)
    ∙ ap (λ l. cond (q x) (x ∷ l) l) (filter_same p q xs (All-tail (λ x. p x ≡ q x) x xs all))

-- which keys entries have
pub is_some-lookup : {K V : Type 0} (test : K → Bool) (es : List (K × V)) → is_some (lookup test es)
    ≡ list_any (λ e. test e.0) es
is_some-lookup test [] = refl
is_some-lookup test (e ∷ es) =
    elim (test e.0) as (λ b. is_some (cond b (Some e.1) (lookup test es))
    ≡ (b || list_any (λ e. test e.0) es)) [
      | true ↦ refl
      | false ↦ is_some-lookup test es
    ]

pub find-drop : {X Y : Type 0} (f : X → Y) (p : Y → Bool) (xs : List X) (i : ℕ) (d : X)
    → i < length xs → find p (map f (drop i xs))
    ≡ cond (p (f (get_or xs i d))) (Some (f (get_or xs i d))) (find p (map f (drop (i + 1) xs)))
find-drop f p xs i d below = ap (λ l. find p (map f l)) (drop-cons xs i d below)
    ∙ ap (λ n. cond (p (f (get_or xs i d))) (Some (f (get_or xs i d))) (find p (map f (drop n xs))))
    (sym (add-one i))

-- one element more, with its place
enumerate_from-push : {X : Type 0} (n : ℕ) (xs : List X) (x : X) → enumerate_from n (xs ++ x ∷ [])
    ≡ enumerate_from n xs ++ (n + length xs, x) ∷ []
enumerate_from-push n [] x = ap (λ k. (k, x) ∷ []) (sym (add-zero n))
enumerate_from-push n (y ∷ ys) x =
    let next : n + 1 + length ys ≡ n + length (y ∷ ys) = omega arith in
    ap (λ l. (n, y) ∷ l) (enumerate_from-push (n + 1) ys x
    ∙ ap (λ k. enumerate_from (n + 1) ys ++ (k, x) ∷ []) next)

pub map-numbered_more : {X Y : Type 0} (f : ℕ × X → Y) (xs : List X) (i : ℕ) (d : X) → i < length xs
    → map f (enumerate_from 0 (take (i + 1) xs))
    ≡ map f (enumerate_from 0 (take i xs)) ++ f (i, get_or xs i d) ∷ []
map-numbered_more f xs i d below =
    let long : length (take i xs) ≡ i = length-take i xs ∙ omega arith in
    ap (λ l. map f (enumerate_from 0 l)) (take_at_read xs i d below).1
    ∙ ap (map f) (enumerate_from-push 0 (take i xs) (get_or xs i d)
    ∙ ap (λ k. enumerate_from 0 (take i xs) ++ (k, get_or xs i d) ∷ [])
    (zero-add (length (take i xs)) ∙ long))
    ∙ map-append f (enumerate_from 0 (take i xs)) ((i, get_or xs i d) ∷ [])

-- what holds of the elements holds of them with their places
pub All-enumerate_from : {X : Type 0} (P : X → Type 0) (n : ℕ) (xs : List X) → All P xs
    → All (λ (e : ℕ × X). P e.1) (enumerate_from n xs)
All-enumerate_from {X} P n [] all = All-nil (λ (e : ℕ × X). P e.1)
All-enumerate_from {X} P n (x ∷ xs) all = All-cons (λ (e : ℕ × X). P e.1) (n, x)
    (enumerate_from (n + 1) xs) (All-head P x xs all)
    (All-enumerate_from P (n + 1) xs (All-tail P x xs all))

neither : (a b : Bool) → (a || b) ≡ false → (a ≡ false) × (b ≡ false)
neither true b e = cc
neither false b e = (refl, e)

none_pass : {X : Type 0} (p : X → Bool) (xs : List X) → list_any p xs ≡ false
    → All (λ y. p y ≡ false) xs
none_pass p [] none = All-nil (λ y. p y ≡ false)
none_pass p (x ∷ xs) none =
    let both = neither (p x) (list_any p xs) none in
    All-cons (λ y. p y ≡ false) x xs both.0 (none_pass p xs both.1)

-- an element that passes a test
pub list_any-contains : {X : Type 0} (p : X → Bool) (xs : List X) (x : X) → Contains xs x → p x
    ≡ true → list_any p xs ≡ true
list_any-contains p xs x inside passes =
    ⊎_elim
    (λ some. some)
    (λ none. absurd (true≢false (sym passes ∙ All-contains (λ y. p y ≡ false) xs x
    (none_pass p xs none) inside)))
    (cases_Bool (list_any p xs))

pub bytes_eq-same : (xs : List ℕ) → bytes_eq xs xs ≡ true
bytes_eq-same xs = (bytes_eq-Decides xs xs).1 refl

-- one element more that passes a test, or that doesn't
pub kept_more : {X Y : Type 0} (g : X → Y) (p : X → Bool) (xs : List X) (i : ℕ) (x : X)
    (out : List Y) → i < length xs → x ≡ get_or xs i x → out ≡ map g (filter p (take i xs)) → p x
    ≡ true → out ++ g x ∷ [] ≡ map g (filter p (take (i + 1) xs))
kept_more g p xs i x out below here so_far passes =
    let here' : p (get_or xs i x) ≡ true = ap p (sym here) ∙ passes in
    let more : filter p (take (i + 1) xs) ≡ filter p (take i xs) ++ x ∷ [] =
    filter_more p xs i x below ∙ ap (λ b. filter p (take i xs) ++ cond b (get_or xs i x ∷ []) [])
    here' ∙ ap (λ y. filter p (take i xs) ++ y ∷ []) (sym here) in
    ap (λ l. l ++ g x ∷ []) so_far ∙ sym (map-append g (filter p (take i xs)) (x ∷ []))
    ∙ ap (map g) (sym more)

pub left_more : {X Y : Type 0} (g : X → Y) (p : X → Bool) (xs : List X) (i : ℕ) (x : X)
    (out : List Y) → i < length xs → x ≡ get_or xs i x → out ≡ map g (filter p (take i xs)) → p x
    ≡ false → out ≡ map g (filter p (take (i + 1) xs))
left_more g p xs i x out below here so_far fails =
    let here' : p (get_or xs i x) ≡ false = ap p (sym here) ∙ fails in
    so_far ∙ ap (map g) (sym (filter_more p xs i x below ∙ ap
    (λ b. filter p (take i xs) ++ cond b (get_or xs i x ∷ []) []) here'
    ∙ append-nil (filter p (take i xs))))

pub bytes_eq-sym : (xs ys : List ℕ) → bytes_eq xs ys ≡ bytes_eq ys xs
bytes_eq-sym xs ys =
    let back = bytes_eq-Decides ys xs in
    same_from_decides _ _ (bytes_eq-Decides xs ys) (λ e. sym (back.0 e), λ e. back.1 (sym e))
