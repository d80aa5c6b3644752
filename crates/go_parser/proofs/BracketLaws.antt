-- The bracket where brackets don't nest is one alone.
use Rattle.std.proofs.Common.{◌≡◌, ◌∙◌, ap, sym, refl, subst, List, [], ◌∷◌, ◌++◌, Option, Some}
use Rattle.std.proofs.Common.{None, ⊎_elim, inl, inr, ◌⊎◌}
use Rattle.std.specs.Option.{option_and_then}
use Rattle.go_ast.specs.declared.word.Word.{Word}
use Rattle.go_ast.specs.Chunks.{AreNested, IsUnbalancedAt, mismatched, left_open, after_word}
use Rattle.go_ast.specs.Chunks.{open_after}
use Rattle.type_parser.proofs.GrammarLaws.{some-is}

abbrev last-of : List Word → Option Word
last-of [] = None
last-of (w ∷ []) = Some w
last-of (w ∷ v ∷ vs) = last-of (v ∷ vs)

last-appended : (inner : List Word) (w : Word) → last-of (inner ++ w ∷ []) ≡ Some w
last-appended [] w = refl
last-appended (v ∷ []) w = refl
last-appended (v ∷ u ∷ inner) w = last-appended (u ∷ inner) w

abbrev step : Word → (List Word → Option Word) → Option (List Word) → Option Word
step w next None = Some w
step w next (Some more) = next more

-- the bracket that doesn't match, as words are gone over with the brackets that are open
abbrev fault-from : List Word → List Word → Option Word
fault-from others [] = last-of others
fault-from others (w ∷ ws) = step w (λ more. fault-from more ws) (after_word others w)

fault-at : (others front : List Word) (w : Word) (rest stack : List Word)
    → open_after others front ≡ Some stack → after_word stack w ≡ None
    → fault-from others (front ++ w ∷ rest) ≡ Some w
fault-at others [] w rest stack h none = rw (some-is others stack h, none) refl
fault-at others (v ∷ front) w rest stack h none = go (after_word others v) refl h
    (λ more e. fault-at more front w rest stack e none)
  where
    go : (o : Option (List Word)) → after_word others v ≡ o
        → option_and_then (λ more. open_after more front) o ≡ Some stack
        → ((more : List Word) → open_after more front ≡ Some stack
        → fault-from more (front ++ w ∷ rest) ≡ Some w)
        → fault-from others (v ∷ front ++ w ∷ rest) ≡ Some w
    go None is e ih = absurd (cc)
    go (Some more) is e ih = rw is (ih more e)

fault-end : (others ws stack : List Word) → open_after others ws ≡ Some stack
    → fault-from others ws ≡ last-of stack
fault-end others [] stack h = rw (some-is others stack h) refl
fault-end others (v ∷ ws) stack h = go (after_word others v) refl h
    (λ more e. fault-end more ws stack e)
  where
    go : (o : Option (List Word)) → after_word others v ≡ o
        → option_and_then (λ more. open_after more ws) o ≡ Some stack
        → ((more : List Word) → open_after more ws ≡ Some stack
        → fault-from more ws ≡ last-of stack)
        → fault-from others (v ∷ ws) ≡ last-of stack
    go None is e ih = absurd (cc)
    go (Some more) is e ih = rw is (ih more e)

fault-is : (ws : List Word) (w : Word) → IsUnbalancedAt ws w → fault-from [] ws ≡ Some w
fault-is _ _ (mismatched front w rest others nests none) = fault-at [] front w rest others nests
    none
fault-is _ _ (left_open {ws} inner w nests) =
    fault-end [] ws (inner ++ w ∷ []) nests ∙ last-appended inner w

pub one-fault : (ws : List Word) (w v : Word) → IsUnbalancedAt ws w → IsUnbalancedAt ws v → w ≡ v
one-fault ws w v s r = some-is w v (sym (fault-is ws w s) ∙ fault-is ws v r)

pub not-both : (ws : List Word) (w : Word) → AreNested ws → IsUnbalancedAt ws w → ⊥
not-both ws w nests s = absurd (cc (fault-end [] ws [] nests, fault-is ws w s))

-- the last of some words
ends-with : (o : Word) (others : List Word)
    → (inner : List Word) × (w : Word) × (o ∷ others ≡ inner ++ w ∷ [])
ends-with o [] = ([], o, refl)
ends-with o (v ∷ others) =
    let more = ends-with v others in
    (o ∷ more.0, more.1, ap (λ us. o ∷ us) more.2)

-- what becomes of words that come after others
abbrev Ends : List Word → List Word → Type 0
Ends others ws = ((stack : List Word) × (open_after others ws ≡ Some stack))
    ⊎ ((front : List Word) × (w : Word) × (rest stack : List Word) × (ws ≡ front ++ w ∷ rest)
    × (open_after others front ≡ Some stack) × (after_word stack w ≡ None))

ends : (others ws : List Word) → Ends others ws
ends others [] = inl (others, refl)
ends others (v ∷ ws) = go (after_word others v) refl (λ more. ends more ws)
  where
    go : (o : Option (List Word)) → after_word others v ≡ o
        → ((more : List Word) → Ends more ws) → Ends others (v ∷ ws)
    go None is ih = inr ([], v, ws, others, refl, refl, is)
    go (Some more) is ih = ⊎_elim
        (λ p. inl (p.0, rw is p.1))
        (λ p. inr (v ∷ p.0, p.1, p.2, p.3, ap (λ us. v ∷ us) p.4, rw is p.5, p.6))
        (ih more)

pub nested-or-not : (ws : List Word) → AreNested ws ⊎ ((w : Word) × IsUnbalancedAt ws w)
nested-or-not ws = ⊎_elim (λ p. whole p.0 p.1)
    (λ p. inr (
      p.1,
      subst (λ us. IsUnbalancedAt us p.1) (sym p.4)
          (mismatched p.0 p.1 p.2 p.3 p.5 p.6),
    )) (ends [] ws)
  where
    whole : (stack : List Word) → open_after [] ws ≡ Some stack
        → AreNested ws ⊎ ((w : Word) × IsUnbalancedAt ws w)
    whole [] e = inl e
    whole (o ∷ others) e =
        let last = ends-with o others in
        inr (last.1, left_open last.0 last.1 (e ∙ ap Some last.2))
