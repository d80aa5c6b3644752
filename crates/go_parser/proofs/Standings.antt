-- Brackets that are open, word by word.
use Rattle.std.proofs.Common.{◌≡◌, ◌∙◌, ap, sym, refl, subst, ℕ, ◌+◌, Bool}
use Rattle.std.proofs.Common.{true, false, List, [], ◌∷◌, ◌++◌, append_assoc, length}
use Rattle.std.proofs.Common.{Option, Some, None, arith, get_or, drop}
use Rattle.std.specs.Option.{option_and_then}
use Rattle.go_ast.specs.declared.word.Word.{Word}
use Rattle.go_ast.specs.Chunks.{after_word, closed_by, open_after}
use Rattle.go_ast.specs.Cutting.{Nests, closing_of, depth_after}
use Rattle.go_ast.specs.Marks.{opens, closes, same_mark}
use Rattle.type_parser.proofs.GrammarLaws.{closes-not-opens, opens-not-closes, some-is}
use Rattle.type_parser.proofs.GrammarLaws.{marks_are, marks_same, one-less}
use Rattle.go_parser.specs.Cutter.{LastCloses, bracket, Standing, outside, within}

-- after one word more
pub open-more : (start front stack : List Word) (w : Word) → open_after start front ≡ Some stack
    → open_after start (front ++ w ∷ []) ≡ after_word stack w
open-more start [] stack w h =
    rw (some-is start stack h) (last-step (after_word stack w))
  where
    last-step : (o : Option (List Word)) → option_and_then (λ more. open_after more []) o ≡ o
    last-step None = refl
    last-step (Some x) = refl
open-more start (v ∷ front) stack w h = go (after_word start v) refl h
    (λ next. open-more next front stack w)
  where
    go : (o : Option (List Word)) → after_word start v ≡ o
        → option_and_then (λ more. open_after more front) o ≡ Some stack
        → ((next : List Word) → open_after next front ≡ Some stack
        → open_after next (front ++ w ∷ []) ≡ after_word stack w)
        → open_after start (v ∷ front ++ w ∷ []) ≡ after_word stack w
    go None is h ih = absurd (cc)
    go (Some next) is h ih = rw is (ih next h)

pub opened-is : (stack : List Word) (w : Word) → opens w.mark ≡ true
    → after_word stack w ≡ Some (w ∷ stack)
opened-is stack w h = rw h refl

pub other-is : (stack : List Word) (w : Word) → opens w.mark ≡ false → closes w.mark ≡ false
    → after_word stack w ≡ Some stack
other-is stack w o c = rw (o, c) refl

pub closing-is : (stack : List Word) (w : Word) → closes w.mark ≡ true
    → after_word stack w ≡ closed_by w stack
closing-is stack w c = rw (closes-not-opens w.mark c, c) refl

pub closed-is : (stack : List Word) (o w : Word) → closes w.mark ≡ true
    → same_mark w.mark (closing_of o.mark) ≡ true → after_word (o ∷ stack) w ≡ Some stack
closed-is stack o w c s = closing-is (o ∷ stack) w c ∙ (rw s refl)

pub unclosed-is : (stack : List Word) (o w : Word) → closes w.mark ≡ true
    → same_mark w.mark (closing_of o.mark) ≡ false → after_word (o ∷ stack) w ≡ None
unclosed-is stack o w c s = closing-is (o ∷ stack) w c ∙ (rw s refl)

-- what a word does, by its mark
pub data Does (stack : List Word) (w : Word) (after : List Word) : Type 0 where
  opening : opens w.mark ≡ true → after ≡ w ∷ stack → Does stack w after
  closing : closes w.mark ≡ true → (o : Word) → stack ≡ o ∷ after
      → w.mark ≡ closing_of o.mark → Does stack w after
  other : opens w.mark ≡ false → closes w.mark ≡ false → after ≡ stack → Does stack w after

pub does : (stack : List Word) (w : Word) (after : List Word) → after_word stack w ≡ Some after
    → Does stack w after
does stack w after h = go (opens w.mark) (closes w.mark) refl refl
  where
    shut : (s : List Word) → closes w.mark ≡ true → closed_by w s ≡ Some after → Does s w after
    shut [] c e = absurd (cc)
    shut (o ∷ others) c e = test (same_mark w.mark (closing_of o.mark)) refl
      where
        test : (b : Bool) → same_mark w.mark (closing_of o.mark) ≡ b → Does (o ∷ others) w after
        test true s = closing c o
            (ap (λ us. o ∷ us) (some-is others after
            (sym (closed-is others o w c s) ∙ closing-is (o ∷ others) w c ∙ e)))
            (marks_are w.mark (closing_of o.mark) s)
        test false s = absurd (cc (unclosed-is others o w c s, closing-is (o ∷ others) w c, e))

    go : (p q : Bool) → opens w.mark ≡ p → closes w.mark ≡ q → Does stack w after
    go true q p_is q_is = opening p_is (some-is after (w ∷ stack) (sym h ∙ opened-is stack w p_is))
    go false true p_is q_is = shut stack q_is (sym (closing-is stack w q_is) ∙ h)
    go false false p_is q_is = other p_is q_is
        (some-is after stack (sym h ∙ other-is stack w p_is q_is))

-- how many brackets are open
pub depth-is : (stack : List Word) (w : Word) (after : List Word) → Does stack w after
    → depth_after (length stack) w.mark ≡ length after
depth-is stack w after (opening o is) = rw (o, is) refl
depth-is stack w after (closing c o is same) =
    rw (closes-not-opens w.mark c, c, is) (one-less (length after))
depth-is stack w after (other o c is) = rw (o, c, is) refl

-- what closes all that is open nests
pub nests-from : (stack ws : List Word) → open_after stack ws ≡ Some [] → Nests (length stack) ws
nests-from stack [] h = rw (some-is stack [] h) refl
nests-from stack (w ∷ ws) h = go (after_word stack w) refl h (λ after. nests-from after ws)
  where
    go : (o : Option (List Word)) → after_word stack w ≡ o
        → option_and_then (λ more. open_after more ws) o ≡ Some []
        → ((after : List Word) → open_after after ws ≡ Some [] → Nests (length after) ws)
        → Nests (length stack) (w ∷ ws)
    go None is e ih = absurd (cc)
    go (Some after) is e ih =
        let d = does stack w after is in
        (deep d, subst (λ n. Nests n ws) (sym (depth-is stack w after d)) (ih after e))
      where
        deep : Does stack w after → length stack ≡ 0 → closes w.mark ≡ false
        deep (opening o is) none = opens-not-closes w.mark o
        deep (closing c o is same) none = absurd (omega (arith, ap length is, none))
        deep (other o c is) none = c

-- words outside brackets, or within some, and one word more
pub stands-on : (first : ℕ) (ws stack : List Word) (w : Word) (after : List Word)
    → Standing first ws stack → w.tokens.first ≡ first + length ws → Does stack w after
    → Standing first (ws ++ w ∷ []) after
stands-on first ws _ w after outside place (opening o is) =
    subst (Standing first (ws ++ w ∷ [])) (sym is) (within ws [] [] w refl place o refl)
stands-on first ws _ w after outside place (closing c o is same) = absurd (cc is)
stands-on first ws _ w after outside place (other o c is) =
    subst (Standing first (ws ++ w ∷ [])) (sym is) outside
stands-on first ws _ w after (within front inner others o whole at opened nests) place
    (opening p is) =
    subst (Standing first (ws ++ w ∷ [])) (sym is)
    (within front (inner ++ w ∷ []) (w ∷ others) o
    (rw (whole, append_assoc) refl) at opened
    (open-more [] inner others w nests ∙ opened-is others w p))
stands-on first ws _ w after (within front inner [] o whole at opened nests) place
    (closing c p is same) =
    let over : after ≡ [] = sym (ap (drop 1) is) in
    subst (Standing first (ws ++ w ∷ [])) (sym over) outside
stands-on first ws _ w after (within front inner (q ∷ others) o whole at opened nests) place
    (closing c p is same) =
    let head : q ≡ p = ap (λ us. get_or us 0 q) is in
    let tail : others ++ o ∷ [] ≡ after = ap (drop 1) is in
    subst (Standing first (ws ++ w ∷ [])) tail
    (within front (inner ++ w ∷ []) others o
    (rw (whole, append_assoc) refl) at opened
    (open-more [] inner (q ∷ others) w nests
    ∙ closed-is others q w c (marks_same w.mark (closing_of q.mark) (rw head same))))
stands-on first ws _ w after (within front inner others o whole at opened nests) place
    (other p c is) =
    subst (Standing first (ws ++ w ∷ [])) (sym is)
    (within front (inner ++ w ∷ []) others o
    (rw (whole, append_assoc) refl) at opened
    (open-more [] inner others w nests ∙ other-is others w p c))

-- the bracket that ends all, and what it closes
pub ends-at : (first : ℕ) (ws stack : List Word) (c o : Word) → Standing first ws stack
    → stack ≡ o ∷ [] → closes c.mark ≡ true → c.mark ≡ closing_of o.mark
    → LastCloses first (ws ++ c ∷ []) (Some o.tokens.first)
ends-at first ws _ c o outside is closes same = absurd (cc is)
ends-at first ws _ c o (within front inner [] p whole at opened nests) is closes same =
    let one : p ≡ o = ap (λ us. get_or us 0 p) is in
    subst (λ n. LastCloses first (ws ++ c ∷ []) (Some n))
    (sym at ∙ ap (λ v. v.tokens.first) one)
    (bracket front inner p c (rw (whole, append_assoc) refl) opened (rw one same)
    (nests-from [] inner nests))
ends-at first ws _ c o (within front inner (q ∷ others) p whole at opened nests) is closes same =
    absurd (none others (ap (drop 1) is))
  where
    none : (us : List Word) → us ++ p ∷ [] ≡ [] → ⊥
    none [] e = cc e
    none (u ∷ us) e = cc e
