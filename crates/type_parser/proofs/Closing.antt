-- Where brackets end.
use Rattle.std.proofs.Common.{◌≡◌, ◌≢◌, ◌∙◌, ap, sym, refl, ℕ, Bool, true, false}
use Rattle.std.proofs.Common.{cond, ◌&&◌, ◌==◌, List, [], ◌∷◌, ◌++◌, length, take, drop, Option}
use Rattle.std.proofs.Common.{Some, None, arith, subst, take-append-drop, unwrap_or}
use Rattle.std.proofs.lemmas.Bool.Decides.{nat_tests}
use Rattle.std.proofs.lemmas.Grind.{common_steps}
use denote.Enum.Bare.{same_true, true_same, false_same, same_false}
use Rattle.go_ast.specs.contracts.word.Mark.{the_type}
use Rattle.go_ast.specs.declared.word.Word.{Word}
use Rattle.go_ast.specs.declared.word.Mark.{Mark}
use Rattle.go_ast.specs.Cutting.{depth_after, Nests}
use Rattle.go_ast.specs.Marks.{closes, same_mark}
use Rattle.type_parser.specs.Cut.{inside, enclosed, at_close}

pub marks_are : (a b : Mark) → same_mark a b ≡ true → a ≡ b
unfolding same_mark
marks_are = same_true the_type tt

pub marks_same : (a b : Mark) → a ≡ b → same_mark a b ≡ true
unfolding same_mark
marks_same = true_same the_type

pub marks_differ : (a b : Mark) → a ≢ b → same_mark a b ≡ false
unfolding same_mark
marks_differ = false_same the_type tt

pub differ_marks : (a b : Mark) → same_mark a b ≡ false → a ≢ b
unfolding same_mark
differ_marks = same_false the_type

pub some-is : {A : Type 0} (x y : A) → Some x ≡ Some y → x ≡ y
some-is x y e = ap (λ o. unwrap_or o x) e

pub pair-is : {A B : Type 0} (a c : A) (b d : B)
    → ◌≡◌ {A = Option (A × B)} (Some (a, b)) (Some (c, d)) → (a ≡ c) × (b ≡ d)
pair-is {A} {B} a c b d e = (ap first e, ap second e)
  where
    first : Option (A × B) → A
    first (Some p) = p.0
    first None = a

    second : Option (A × B) → B
    second (Some p) = p.1
    second None = b

-- whether a bracket that was opened before ends here
abbrev ends : ℕ → Mark → Bool
ends depth mark = depth == 0 && closes mark

goes_on : (depth : ℕ) (mark : Mark) → (depth ≡ 0 → closes mark ≡ false) → ends depth mark ≡ false
goes_on depth mark h = grind (arith, nat_tests, common_steps)

goes_on-back : (depth : ℕ) (mark : Mark) → ends depth mark ≡ false → depth ≡ 0 → closes mark ≡ false
goes_on-back depth mark h e = rw e at h

ends-zero : (depth : ℕ) (mark : Mark) → ends depth mark ≡ true → depth ≡ 0
ends-zero depth mark h = grind (arith, nat_tests, common_steps)

-- what nests ends at the bracket that closes it
pub inside-nests : (depth : ℕ) (inner : List Word) (c : Word) (rest : List Word) → Nests depth inner
    → closes c.mark ≡ true
    → inside depth (inner ++ c ∷ rest) ≡ length inner
inside-nests depth [] c rest h closed = rw (h, closed) refl
inside-nests depth (w ∷ inner) c rest h closed =
    rw (goes_on depth w.mark h.0, inside-nests (depth_after depth w.mark) inner c rest h.1 closed)
    refl

-- what stands before the bracket that closes it nests
pub nests-inside : (depth : ℕ) (ws : List Word) (c : Word) (rest : List Word)
    → drop (inside depth ws) ws ≡ c ∷ rest → Nests depth (take (inside depth ws) ws)
nests-inside depth [] c rest e = absurd (cc)
nests-inside depth (w ∷ ws) c rest e =
    go (ends depth w.mark) refl (nests-inside (depth_after depth w.mark) ws c rest)
  where
    go : (t : Bool) → ends depth w.mark ≡ t
        → (drop (inside (depth_after depth w.mark) ws) ws ≡ c ∷ rest
        → Nests (depth_after depth w.mark) (take (inside (depth_after depth w.mark) ws) ws))
        → Nests depth (take (inside depth (w ∷ ws)) (w ∷ ws))
    go true h ih = rw h (ends-zero depth w.mark h)
    go false h ih = rw h (goes_on-back depth w.mark h, ih (rw h at e))

-- the parts of words that an opening bracket begins
pub enclosed-is : (close : Mark) (inner : List Word) (c : Word) (rest : List Word)
    → closes close ≡ true → c.mark ≡ close → Nests 0 inner
    → enclosed close (inner ++ c ∷ rest) ≡ Some (inner, rest)
unfolding enclosed
enclosed-is close inner c rest closed is h =
    rw (
      inside-nests 0 inner c rest h (ap closes is ∙ closed),
      take_front,
      drop_front,
      marks_same c.mark close is,
    ) refl
  where
    take_front : take (length inner) (inner ++ c ∷ rest) ≡ inner
    take_front = grind (arith, common_steps)

    drop_front : drop (length inner) (inner ++ c ∷ rest) ≡ c ∷ rest
    drop_front = grind (arith, common_steps)

-- and the other way round
pub is-enclosed : (close : Mark) (ws inner rest : List Word)
    → enclosed close ws ≡ Some (inner, rest)
    → (c : Word) × (c.mark ≡ close) × Nests 0 inner × (ws ≡ inner ++ c ∷ rest)
unfolding enclosed
is-enclosed close ws inner rest e = go (drop (inside 0 ws) ws) refl e
  where
    split : (after : List Word) → drop (inside 0 ws) ws ≡ after
        → ws ≡ take (inside 0 ws) ws ++ after
    split after h = rw (← h) (sym (take-append-drop (inside 0 ws) ws))

    go : (after : List Word) → drop (inside 0 ws) ws ≡ after
        → at_close close (take (inside 0 ws) ws) after ≡ Some (inner, rest)
        → (c : Word) × (c.mark ≡ close) × Nests 0 inner × (ws ≡ inner ++ c ∷ rest)
    go [] h f = absurd (cc)
    go (c ∷ after) h f = found (same_mark c.mark close) refl f
      where
        found : (t : Bool) → same_mark c.mark close ≡ t
            → cond {A = Option (List Word × List Word)} t (Some (take (inside 0 ws) ws, after)) None
            ≡ Some (inner, rest)
            → (c : Word) × (c.mark ≡ close) × Nests 0 inner × (ws ≡ inner ++ c ∷ rest)
        found true t f =
            let parts = pair-is (take (inside 0 ws) ws) inner after rest f in (
              c,
              marks_are c.mark close t,
              subst (Nests 0) parts.0 (nests-inside 0 ws c after h),
              split (c ∷ after) h ∙ (rw (parts.0, parts.1)),
            )
        found false t f = absurd (cc)
