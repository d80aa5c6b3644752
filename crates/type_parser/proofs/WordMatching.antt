-- Words with their brackets matched.
use Rattle.std.proofs.Common.{◌≡◌, ◌∙◌, ap, sym, refl, subst, ℕ, zero, suc, ◌+◌, ◌-◌, min}
use Rattle.std.proofs.Common.{Bool, true, false, ◌&&◌, ◌==◌, List, [], ◌∷◌, length}
use Rattle.std.proofs.Common.{take, drop, get_or, arith}
use Rattle.std.proofs.lemmas.Bool.Decides.{nat_tests}
use Rattle.std.proofs.lemmas.Grind.{common_steps}
use Rattle.go_ast.specs.declared.word.Word.{Word}
use Rattle.go_ast.specs.declared.word.Mark.{Mark}
use Rattle.go_ast.specs.declared.word.Mark.TheVariants as m
use Rattle.go_ast.specs.Cutting.{depth_after}
use Rattle.go_ast.specs.Marks.{opens, closes, same_mark}
use Rattle.type_parser.specs.declared.matching.Matched.{Matched}
use Rattle.type_parser.specs.Cut.{inside, before}
use Rattle.type_parser.specs.Matching.{plain, AreMatched, unmatched, stride}

pub plain-length : (ws : List Matched) → length (plain ws) ≡ length ws
plain-length [] = refl
plain-length (w ∷ ws) = ap suc (plain-length ws)

pub plain-take : (n : ℕ) (ws : List Matched) → plain (take n ws) ≡ take n (plain ws)
plain-take zero ws = refl
plain-take (suc n) [] = refl
plain-take (suc n) (w ∷ ws) = ap (λ us. w.word ∷ us) (plain-take n ws)

pub plain-drop : (n : ℕ) (ws : List Matched) → plain (drop n ws) ≡ drop n (plain ws)
plain-drop zero ws = refl
plain-drop (suc n) [] = refl
plain-drop (suc n) (w ∷ ws) = plain-drop n ws

-- an opening bracket closes none
pub opens-not-closes : (mark : Mark) → opens mark ≡ true → closes mark ≡ false
opens-not-closes m.OpenParen e = refl
opens-not-closes m.OpenBracket e = refl
opens-not-closes m.OpenBrace e = refl
opens-not-closes mark e = absurd (cc)

pub closes-not-opens : (mark : Mark) → closes mark ≡ true → opens mark ≡ false
closes-not-opens m.CloseParen e = refl
closes-not-opens m.CloseBracket e = refl
closes-not-opens m.CloseBrace e = refl
closes-not-opens mark e = absurd (cc)

min-zero : (n : ℕ) → min 0 n ≡ 0
min-zero n = omega arith

min-nothing : (n : ℕ) → min n 0 ≡ 0
min-nothing n = omega arith

min-suc : (n k : ℕ) → min (suc n) (suc k) ≡ suc (min n k)
min-suc n k = omega arith

min-cut : (n i len within : ℕ) → min i len ≡ within → min i (min n len) ≡ min n within
min-cut n i len within h = omega (arith, h)

pub one-less : (n : ℕ) → suc n - 1 ≡ n
one-less n = omega arith

-- the bracket that closes, in words of which only the first are left
pub inside-take : (depth n : ℕ) (ws : List Word)
    → inside depth (take n ws) ≡ min n (inside depth ws)
inside-take depth zero ws = sym (min-zero (inside depth ws))
inside-take depth (suc n) [] = sym (min-nothing (suc n))
inside-take depth (suc n) (w ∷ ws) =
    go (depth == 0 && closes w.mark) refl (inside-take (depth_after depth w.mark) n ws)
  where
    go : (t : Bool) → (depth == 0 && closes w.mark) ≡ t
        → inside (depth_after depth w.mark) (take n ws)
        ≡ min n (inside (depth_after depth w.mark) ws)
        → inside depth (take (suc n) (w ∷ ws)) ≡ min (suc n) (inside depth (w ∷ ws))
    go true h ih = rw h (sym (min-nothing (suc n)))
    go false h ih = rw h (ap suc ih ∙ sym (min-suc n (inside (depth_after depth w.mark) ws)))

pub length-take : {A : Type 0} (n : ℕ) (ws : List A) → length (take n ws) ≡ min n (length ws)
length-take zero ws = sym (min-zero (length ws))
length-take (suc n) [] = sym (min-nothing (suc n))
length-take (suc n) (w ∷ ws) = ap suc (length-take n ws) ∙ sym (min-suc n (length ws))

pub matched-take : (n : ℕ) (ws : List Matched) → AreMatched ws → AreMatched (take n ws)
matched-take zero ws h = tt
matched-take (suc n) [] h = tt
matched-take (suc n) (w ∷ ws) h = (here, matched-take n ws h.1)
  where
    here : min w.inside (length (take n ws)) ≡ inside 0 (plain (take n ws))
    here = rw (plain-take n ws, length-take n ws, inside-take 0 n (plain ws))
        (min-cut n w.inside (length ws) (inside 0 (plain ws)) h.0)

pub matched-drop : (n : ℕ) (ws : List Matched) → AreMatched ws → AreMatched (drop n ws)
matched-drop zero ws h = h
matched-drop (suc n) [] h = tt
matched-drop (suc n) (w ∷ ws) h = matched-drop n ws h.1

dropped : (us : List ℕ) (d : ℕ) → get_or (drop 1 us) d 0 ≡ get_or us (suc d) 0
dropped [] d = refl
dropped (u ∷ us) d = refl

goes-on : (depth : ℕ) (mark : Mark) → closes mark ≡ false → (depth == 0 && closes mark) ≡ false
goes-on depth mark h = grind (arith, nat_tests, common_steps)

goes-deep : (depth : ℕ) (b : Bool) → (suc depth == 0 && b) ≡ false
goes-deep depth b = grind (arith, nat_tests, common_steps)

ends-here : (mark : Mark) → closes mark ≡ true → (0 == 0 && closes mark) ≡ true
ends-here mark h = grind (arith, nat_tests, common_steps)

-- the brackets that close none of the words before them say where each opened before closes
pub unmatched-inside : (depth : ℕ) (ws : List Word)
    → inside depth ws + get_or (unmatched ws) depth 0 ≡ length ws
unmatched-inside depth [] = omega arith
unmatched-inside depth (w ∷ ws) = go (opens w.mark) (closes w.mark) depth refl refl
    (λ d. unmatched-inside d ws)
  where
    go : (o c : Bool) (d : ℕ) → opens w.mark ≡ o → closes w.mark ≡ c
        → ((n : ℕ) → inside n ws + get_or (unmatched ws) n 0 ≡ length ws)
        → inside d (w ∷ ws) + get_or (unmatched (w ∷ ws)) d 0 ≡ suc (length ws)
    go true c d ho hc ih =
        rw (goes-on d w.mark (opens-not-closes w.mark ho), ho, dropped (unmatched ws) d)
        (omega (arith, ih (suc d)))
    go false true zero ho hc ih = rw (ends-here w.mark hc, ho) (omega arith)
    go false true (suc d) ho hc ih = rw (goes-deep d (closes w.mark), ho, hc, one-less d)
        (omega (arith, ih d))
    go false false d ho hc ih = rw (goes-on d w.mark hc, ho, hc) (omega (arith, ih d))

after-open : (depth : ℕ) (mark : Mark) → opens mark ≡ true → depth_after depth mark ≡ suc depth
after-open depth mark h = rw h refl

after-close : (depth : ℕ) (mark : Mark) → closes mark ≡ true → depth_after (suc depth) mark ≡ depth
after-close depth mark h = rw (closes-not-opens mark h, h) (one-less depth)

after-other : (depth : ℕ) (mark : Mark) → opens mark ≡ false → closes mark ≡ false
    → depth_after depth mark ≡ depth
after-other depth mark o c = rw (o, c) refl

before-on : (mark : Mark) (depth k : ℕ) (w : Word) (ws : List Word)
    → (depth == 0 && same_mark w.mark mark) ≡ false → depth_after depth w.mark ≡ k
    → before mark depth (w ∷ ws) ≡ suc (before mark k ws)
before-on mark depth k w ws h e = subst (λ n. before mark depth (w ∷ ws) ≡ suc (before mark n ws)) e
    (rw h refl)

inside-on : (depth k : ℕ) (w : Word) (ws : List Word) → (depth == 0 && closes w.mark) ≡ false
    → depth_after depth w.mark ≡ k
    → inside depth (w ∷ ws) ≡ suc (inside k ws)
inside-on depth k w ws h e = subst (λ n. inside depth (w ∷ ws) ≡ suc (inside n ws)) e (rw h refl)

inside-ends : (w : Word) (ws : List Word) → closes w.mark ≡ true → inside 0 (w ∷ ws) ≡ 0
inside-ends w ws h = rw (ends-here w.mark h) refl

-- within brackets no separator counts
module _ (mark : Mark) where
  abbrev Passes : ℕ → List Word → Type 0
  Passes depth ws = before mark (suc depth) ws
      ≡ min (suc (inside depth ws)) (length ws) + before mark 0 (drop (suc (inside depth ws)) ws)

  goes : (depth k : ℕ) (w : Word) (ws : List Word) → Passes k ws
      → before mark (suc depth) (w ∷ ws) ≡ suc (before mark (suc k) ws)
      → inside depth (w ∷ ws) ≡ suc (inside k ws) → Passes depth (w ∷ ws)
  goes depth k w ws ih b i =
      b ∙ subst (λ n. suc (before mark (suc k) ws)
      ≡ min (suc n) (suc (length ws)) + before mark 0 (drop n ws)) (sym i) (omega (arith, ih))

  pub before-inside : (depth : ℕ) (ws : List Word) → Passes depth ws
  before-inside depth [] = omega arith
  before-inside depth (w ∷ ws) = go (opens w.mark) (closes w.mark) depth refl refl
      (λ d. before-inside d ws)
    where
      go : (o c : Bool) (d : ℕ) → opens w.mark ≡ o → closes w.mark ≡ c → ((n : ℕ) → Passes n ws)
          → Passes d (w ∷ ws)
      go true c d ho hc ih =
          goes d (suc d) w ws (ih (suc d))
          (before-on mark (suc d) (suc (suc d)) w ws (goes-deep d (same_mark w.mark mark))
          (after-open (suc d) w.mark ho))
          (inside-on d (suc d) w ws (goes-on d w.mark (opens-not-closes w.mark ho))
          (after-open d w.mark ho))
      go false true zero ho hc ih =
          before-on mark 1 0 w ws (goes-deep 0 (same_mark w.mark mark)) (after-close 0 w.mark hc)
          ∙ subst (λ n. suc (before mark 0 ws)
          ≡ min (suc n) (suc (length ws)) + before mark 0 (drop n ws))
          (sym (inside-ends w ws hc)) (omega arith)
      go false true (suc d) ho hc ih =
          goes (suc d) d w ws (ih d)
          (before-on mark (suc (suc d)) (suc d) w ws (goes-deep (suc d) (same_mark w.mark mark))
          (after-close (suc d) w.mark hc))
          (inside-on (suc d) d w ws (goes-deep d (closes w.mark)) (after-close d w.mark hc))
      go false false d ho hc ih =
          goes d d w ws (ih d)
          (before-on mark (suc d) (suc d) w ws (goes-deep d (same_mark w.mark mark))
          (after-other (suc d) w.mark ho hc))
          (inside-on d d w ws (goes-on d w.mark hc) (after-other d w.mark ho hc))

drop-nothing : {A : Type 0} (n : ℕ) → drop {A = A} n [] ≡ []
drop-nothing zero = refl
drop-nothing (suc n) = refl

pub drop-min : {A : Type 0} (n : ℕ) (ws : List A) → drop (min n (length ws)) ws ≡ drop n ws
drop-min zero ws = rw (min-zero (length ws)) refl
drop-min (suc n) [] = drop-nothing (min (suc n) 0)
drop-min (suc n) (w ∷ ws) = rw (min-suc n (length ws)) (drop-min n ws)

no-separator : (b : Bool) → b ≡ false → (0 == 0 && b) ≡ false
no-separator b h = grind (arith, nat_tests, common_steps)

short : (mark : Mark) (w : Word) (ws : List Word) → same_mark w.mark mark ≡ false
    → opens w.mark ≡ false → depth_after 0 w.mark ≡ 0
    → before mark 0 (w ∷ ws) ≡ stride (w ∷ ws) + before mark 0 (drop (stride (w ∷ ws)) (w ∷ ws))
short mark w ws h ho e =
    before-on mark 0 0 w ws (no-separator (same_mark w.mark mark) h) e ∙ one-plus (before mark 0 ws)
    ∙ sym (ap (λ k. k + before mark 0 (drop k (w ∷ ws))) one)
  where
    one-plus : (i : ℕ) → suc i ≡ 1 + i
    one-plus i = omega arith

    one : stride (w ∷ ws) ≡ 1
    one = rw ho refl

after-closed : (depth : ℕ) (mark : Mark) → closes mark ≡ true → depth_after depth mark ≡ depth - 1
after-closed depth mark h = rw (closes-not-opens mark h, h) refl

-- a word that is no separator is passed with what it opens
pub before-stride : (mark : Mark) (w : Word) (ws : List Word) → same_mark w.mark mark ≡ false
    → before mark 0 (w ∷ ws) ≡ stride (w ∷ ws) + before mark 0 (drop (stride (w ∷ ws)) (w ∷ ws))
before-stride mark w ws h = go (opens w.mark) (closes w.mark) refl refl
  where
    go : (o c : Bool) → opens w.mark ≡ o → closes w.mark ≡ c
        → before mark 0 (w ∷ ws) ≡ stride (w ∷ ws) + before mark 0 (drop (stride (w ∷ ws)) (w ∷ ws))
    go true c ho hc =
        stands ∙ ap suc (before-inside mark 0 ws) ∙ suc-plus _ _
        ∙ ap (λ us. suc (min (suc (inside 0 ws)) (length ws)) + before mark 0 us)
        (sym (drop-min (suc (inside 0 ws)) ws))
        ∙ sym (long (suc (min (suc (inside 0 ws)) (length ws))) (rw ho refl))
      where
        stands : before mark 0 (w ∷ ws) ≡ suc (before mark 1 ws)
        stands = before-on mark 0 1 w ws (no-separator (same_mark w.mark mark) h)
            (after-open 0 w.mark ho)

        suc-plus : (i j : ℕ) → suc (i + j) ≡ suc i + j
        suc-plus i j = omega arith

        long : (n : ℕ) → stride (w ∷ ws) ≡ n
            → stride (w ∷ ws) + before mark 0 (drop (stride (w ∷ ws)) (w ∷ ws))
            ≡ n + before mark 0 (drop n (w ∷ ws))
        long n e = ap (λ k. k + before mark 0 (drop k (w ∷ ws))) e
    go false true ho hc = short mark w ws h ho (after-closed 0 w.mark hc)
    go false false ho hc = short mark w ws h ho (after-other 0 w.mark ho hc)

take-all : {A : Type 0} (us : List A) → take (length us) us ≡ us
take-all [] = refl
take-all (u ∷ us) = ap (λ vs. u ∷ vs) (take-all us)

take-nothing : {A : Type 0} (n : ℕ) → take {A = A} n [] ≡ []
take-nothing zero = refl
take-nothing (suc n) = refl

-- the words after the first
pub rest-is : {A : Type 0} (ws : List A) → take (length ws - 1) (drop 1 ws) ≡ drop 1 ws
rest-is [] = take-nothing (0 - 1)
rest-is (w ∷ ws) = rw (one-less (length ws)) (take-all ws)

-- the words from a place on
pub tail-is : {A : Type 0} (ws : List A) (at : ℕ) → take (length ws - at) (drop at ws) ≡ drop at ws
tail-is ws zero = let e : length ws - 0 ≡ length ws = omega arith in rw e (take-all ws)
tail-is [] (suc at) = take-nothing (0 - suc at)
tail-is (w ∷ ws) (suc at) = let e : suc (length ws) - suc at ≡ length ws - at = omega arith in
    rw e (tail-is ws at)

pub length-drop : {A : Type 0} (ws : List A) (at : ℕ) → length (drop at ws) ≡ length ws - at
length-drop ws zero = omega arith
length-drop [] (suc at) = omega arith
length-drop (w ∷ ws) (suc at) = let e : suc (length ws) - suc at ≡ length ws - at = omega arith in
    length-drop ws at ∙ sym e
