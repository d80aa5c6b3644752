-- Lists, one element more.
use Rattle.std.proofs.Common.{◌≡◌, ℕ, ◌+◌, ◌<◌, ◌≤◌, Bool, cond, List, [], ◌∷◌, ◌++◌, Option, Some}
use Rattle.std.proofs.Common.{None, All, map, take, drop, suc, get_or, length, drop-cons, refl, sym}
use Rattle.std.proofs.Common.{ap, subst, ◌∙◌, arith}
use Rattle.std.proofs.Math.Seq.{get_or-append_seam}
use Rattle.std.specs.Prelude.{◌||◌, filter, option_to_list}
use Rattle.std.specs.List.{cons_option, filter_map, list_any}
use Rattle.std.proofs.lemmas.Grind.{take_at_read}
use Rattle.std.proofs.lemmas.List.{length-map, length-take}
use Rattle.std.proofs.lemmas.List.Elements.{All-append, All-cons, All-head, All-nil, All-tail}
use Rattle.std.proofs.lemmas.List.Elements.{filter_map-append}

-- some element of a list that has one
pub one_of : {X : Type 0} (xs : List X) (i : ℕ) → i < length xs → X
one_of [] i below = absurd (omega arith)
one_of (x ∷ xs) i below = x

filter_map-one : {X Y : Type 0} (h : X → Option Y) (x : X) (r : Option Y) → h x ≡ r
    → filter_map h (x ∷ []) ≡ option_to_list r
filter_map-one h x None is = ap (λ o. cons_option o []) is
filter_map-one h x (Some y) is = ap (λ o. cons_option o []) is

-- what a filter keeps of one more element
pub filter_map-more : {X Y : Type 0} (h : X → Option Y) (xs : List X) (i : ℕ) (d : X) (r : Option Y)
    (out new : List Y) → i < length xs
    → out ≡ filter_map h (take i xs) → r ≡ h (get_or xs i d) → new ≡ out ++ option_to_list r → new
    ≡ filter_map h (take (i + 1) xs)
filter_map-more h xs i d r out new below so_far is grown =
    grown ∙ (λ j. so_far j ++ sym (filter_map-one h (get_or xs i d) r (sym is)) j)
    ∙ sym (ap (filter_map h) (take_at_read xs i d below).1
    ∙ filter_map-append h (take i xs) (get_or xs i d ∷ []))

-- what is known of one more element
pub All-more : {X : Type 0} (P : X → Type 0) (xs : List X) (i : ℕ) (d : X) → i < length xs
    → All P (take i xs) → P (get_or xs i d) → All P (take (i + 1) xs)
All-more P xs i d below all here =
    subst (All P) (sym (take_at_read xs i d below).1)
    (All-append P (take i xs) (get_or xs i d ∷ []) all
    (All-cons P (get_or xs i d) [] here (All-nil P)))

-- what holds of the elements of a list holds of one between others
pub All_between : {X : Type 0} (P : X → Type 0) (xs : List X) (y : X) (ys : List X)
    → All P (xs ++ y ∷ ys) → P y
All_between P [] y ys all = All-head P y ys all
All_between P (x ∷ xs) y ys all = All_between P xs y ys (All-tail P x (xs ++ y ∷ ys) all)

-- what holds of what elements are mapped to
pub All-unmapped : {X Y : Type 0} (P : Y → Type 0) (f : X → Y) (xs : List X) → All P (map f xs)
    → All (λ x. P (f x)) xs
All-unmapped P f [] all = All-nil (λ x. P (f x))
All-unmapped P f (x ∷ xs) all = All-cons (λ x. P (f x)) x xs (All-head P (f x) (map f xs) all)
    (All-unmapped P f xs (All-tail P (f x) (map f xs) all))

-- an element that a map in place has not come to
pub unwritten : {X : Type 0} (f : X → X) (xs ys : List X) (i : ℕ) (d : X) → i < length xs → ys
    ≡ map f (take i xs) ++ drop i xs → get_or ys i d ≡ get_or xs i d
unwritten f xs ys i d below is =
    let front = map f (take i xs) in
    let long : length front ≡ i = length-map (take i xs) f ∙ length-take i xs ∙ omega arith in
    ap (λ l. get_or l i d) (is ∙ ap (λ l. front ++ l) (drop-cons xs i d below))
    ∙ ap (λ n. get_or (front ++ get_or xs i d ∷ drop (suc i) xs) n d) (sym long)
    ∙ get_or-append_seam front (get_or xs i d) (drop (suc i) xs) d

pub map-map : {X Y Z : Type 0} (f : X → Y) (g : Y → Z) (xs : List X) → map g (map f xs)
    ≡ map (λ x. g (f x)) xs
map-map f g [] = refl
map-map f g (x ∷ xs) = ap (λ l. g (f x) ∷ l) (map-map f g xs)

-- two tests that agree on each element keep the same
pub filter_same : {X : Type 0} (p q : X → Bool) (xs : List X) → All (λ x. p x ≡ q x) xs
    → filter p xs ≡ filter q xs
filter_same p q [] all = refl
filter_same p q (x ∷ xs) all =
    ap (λ b. cond b (x ∷ filter p xs) (filter p xs)) (All-head (λ x. p x ≡ q x) x xs all)
    ∙ ap (λ l. cond (q x) (x ∷ l) l) (filter_same p q xs (All-tail (λ x. p x ≡ q x) x xs all))

fewer : {Y : Type 0} (o : Option Y) (ys : List Y) → length (cons_option o ys) ≤ suc (length ys)
fewer None ys = omega arith
fewer (Some y) ys = omega arith

pub length-filter_map : {X Y : Type 0} (h : X → Option Y) (xs : List X)
    → length (filter_map h xs) ≤ length xs
length-filter_map h [] = omega arith
length-filter_map h (x ∷ xs) = omega (arith, fewer (h x) (filter_map h xs), length-filter_map h xs)

pub list_any-map : {X Y : Type 0} (f : X → Y) (p : Y → Bool) (xs : List X) → list_any p (map f xs)
    ≡ list_any (λ x. p (f x)) xs
list_any-map f p [] = refl
list_any-map f p (x ∷ xs) = ap (λ b. p (f x) || b) (list_any-map f p xs)
