-- Steps that may give nothing.
use Rattle.std.proofs.Common.{◌≡◌, ◌∙◌, ap, refl, Bool, true, false, cond, List, [], ◌∷◌}
use Rattle.std.proofs.Common.{Option, Some, None, append-nil, inl}
use Rattle.std.proofs.Common.{inr, ◌⊎◌}
use Rattle.type_parser.specs.Reading.{◌>>=◌, ◌<$>◌, each, only, not_empty, with_front}
use Rattle.go_ast.specs.Cutting.{Each}
use Rattle.go_ast.specs.declared.word.Word.{Word}

-- the first step gave something
pub bind_some : {A B : Type 0} (o : Option A) (f : A → Option B) (y : B) → (o >>= f) ≡ Some y
    → (x : A) × (o ≡ Some x) × (f x ≡ Some y)
bind_some None f y e = absurd (cc)
bind_some (Some x) f y e = (x, refl, e)

pub map_some : {A B : Type 0} (f : A → B) (o : Option A) (y : B) → (f <$> o) ≡ Some y
    → (x : A) × (o ≡ Some x) × (f x ≡ y)
map_some f None y e = absurd (cc)
map_some f (Some x) y e = (x, refl, cc)

-- the test held
pub guard_some : {A : Type 0} (b : Bool) (o : Option A) (y : A) → cond b o None ≡ Some y
    → (b ≡ true) × (o ≡ Some y)
guard_some true o y e = (refl, e)
guard_some false o y e = absurd (cc)

pub choice : {A : Type 0} (b : Bool) (x y z : A) → cond b x y ≡ z
    → ((b ≡ true) × (x ≡ z)) ⊎ ((b ≡ false) × (y ≡ z))
choice true x y z e = inl (refl, e)
choice false x y z e = inr (refl, e)

pub only_some : {A : Type 0} (p : A × List Word) (y : A) → only p ≡ Some y
    → ◌≡◌ {A = A × List Word} p (y, [])
only_some (x, []) y e = let same : x ≡ y = cc in rw same refl
only_some (x, w ∷ ws) y e = absurd (cc)

pub not_empty_some : {A : Type 0} (xs ys : List A) → not_empty xs ≡ Some ys
    → (y : A) × (rest : List A) × (ys ≡ y ∷ rest) × (xs ≡ ys)
not_empty_some [] ys e = absurd (cc)
not_empty_some (x ∷ xs) ys e = (x, xs, cc, cc)

module _ {A : Type 0} (f : List Word → Option A) (S : List Word → A → Type 0) where
  pub each-sound : ((ws : List Word) (x : A) → f ws ≡ Some x → S ws x)
      → (ps : List (List Word)) (xs : List A) → each f ps ≡ Some xs → Each S ps xs
  each-sound h [] [] e = tt
  each-sound h [] (x ∷ xs) e = absurd (cc)
  each-sound h (p ∷ ps) [] e =
      let first = bind_some (f p) _ [] e in
      let rest = map_some _ (each f ps) [] first.2 in
      absurd (cc)
  each-sound h (p ∷ ps) (x ∷ xs) e =
      let first = bind_some (f p) _ (x ∷ xs) e in
      let rest = map_some _ (each f ps) (x ∷ xs) first.2 in
      let here : first.0 ≡ x = cc in
      let there : rest.0 ≡ xs = cc in
      (h p x (first.1 ∙ ap Some here), each-sound h ps xs (rest.1 ∙ ap Some there))

  pub each-complete : ((ws : List Word) (x : A) → S ws x → f ws ≡ Some x)
      → (ps : List (List Word)) (xs : List A) → Each S ps xs → each f ps ≡ Some xs
  each-complete h [] [] s = refl
  each-complete h [] (x ∷ xs) s = absurd s
  each-complete h (p ∷ ps) [] s = absurd s
  each-complete h (p ∷ ps) (x ∷ xs) s = rw (h p x s.0, each-complete h ps xs s.1) refl

module _ {A : Type 0} (f : List Word → Option A) where
  -- a piece that reads as nothing
  pub each-stops : (ps qs rs : List (List Word)) (found : List A) (p : List Word)
      → each f ps ≡ with_front found (each f qs) → qs ≡ p ∷ rs → f p ≡ None
      → each f ps ≡ None
  each-stops ps qs rs found p so_far is none = so_far ∙ (rw (is, none) refl)

  -- no piece is left
  pub each-ends : (ps qs : List (List Word)) (found : List A)
      → each f ps ≡ with_front found (each f qs) → qs ≡ [] → each f ps ≡ Some found
  each-ends ps qs found so_far is = so_far ∙ (rw (is, append-nil) refl)

pub not_empty-is : {A : Type 0} (xs : List A) → (xs ≡ [] → ⊥) → not_empty xs ≡ Some xs
not_empty-is [] h = absurd (h refl)
not_empty-is (x ∷ xs) h = refl
