-- Words with their brackets matched, as they are cut.
use Rattle.std.proofs.Common.{◌≡◌, ◌∙◌, ap, sym, refl, subst, ℕ, zero, suc, ◌+◌, ◌-◌, ◌≤◌, ◌<◌, min}
use Rattle.std.proofs.Common.{true, false, List, [], ◌∷◌, ◌++◌, reverse, length, take}
use Rattle.std.proofs.Common.{drop, get_or, Some, None, arith}
use Rattle.go_ast.specs.declared.word.Word.{Word}
use Rattle.go_ast.specs.declared.word.Mark.{Mark}
use Rattle.go_ast.specs.Cutting.{pieces, split_once}
use Rattle.go_ast.specs.Marks.{opens, closes, same_mark}
use Rattle.type_parser.specs.declared.matching.Matched.{Matched}
use Rattle.type_parser.specs.Cut.{inside, before, enclosed}
use Rattle.type_parser.specs.Matching.{plain, AreMatched, stride, unmatched}
use Rattle.type_parser.proofs.WordMatching.{plain-length, plain-take, plain-drop}
use Rattle.type_parser.proofs.WordMatching.{matched-take, matched-drop, before-stride, rest-is}
use Rattle.type_parser.proofs.WordMatching.{one-less, unmatched-inside, length-drop}
use Rattle.type_parser.proofs.EntryLists.{from-place, length-reverse}
use Rattle.std.proofs.lemmas.List.{reverse-append}
use Rattle.type_parser.proofs.Pieces.{piece-then, piece-all, split-then, split-none}

pub matched-rest : (ws : List Matched) → AreMatched ws
    → AreMatched (take (length ws - 1) (drop 1 ws))
matched-rest ws h = matched-take (length ws - 1) (drop 1 ws) (matched-drop 1 ws h)

pub length-rest : {A : Type 0} (ws : List A) → length (drop 1 ws) ≡ length ws - 1
length-rest [] = omega arith
length-rest (w ∷ ws) = sym (one-less (length ws))

-- where the bracket that the first word opens closes
pub inside-first : (items : List Matched) (d : Matched) (n k : ℕ) → AreMatched items
    → 1 ≤ length items
    → n ≡ min (get_or items 0 d).inside k → k ≡ length items - 1
    → n ≡ inside 0 (drop 1 (plain items))
inside-first [] d n k h some is count = absurd (omega (arith, some))
inside-first (w ∷ ws) d n k h some is count = is ∙ ap (min w.inside) (count ∙ one-less (length ws))
    ∙ h.0

pub cut-inner : (items : List Matched) (d : Matched) (n k : ℕ) → AreMatched items → 1 ≤ length items
    → n ≡ min (get_or items 0 d).inside k → k ≡ length items - 1
    → plain (take n (take (length items - 1) (drop 1 items)))
    ≡ take (inside 0 (drop 1 (plain items))) (drop 1 (plain items))
cut-inner items d n k h some is count =
    rw (rest-is items, plain-take n (drop 1 items), plain-drop 1 items)
    (ap (λ j. take j (drop 1 (plain items))) (inside-first items d n k h some is count))

pub cut-back : (items : List Matched) (d : Matched) (n k : ℕ) → AreMatched items → 1 ≤ length items
    → n ≡ min (get_or items 0 d).inside k → k ≡ length items - 1
    → plain (drop n (take (length items - 1) (drop 1 items)))
    ≡ drop (inside 0 (drop 1 (plain items))) (drop 1 (plain items))
cut-back items d n k h some is count =
    rw (rest-is items, plain-drop n (drop 1 items), plain-drop 1 items)
    (ap (λ j. drop j (drop 1 (plain items))) (inside-first items d n k h some is count))

pub rest-count : (items : List Matched)
    → length (take (length items - 1) (drop 1 items)) ≡ length items - 1
rest-count items = ap length (rest-is items) ∙ length-rest items

module _ (items : List Matched) (d : Matched) (n k : ℕ) (matched : AreMatched items)
    (some : 1 ≤ length items)
    (opened : opens (get_or items 0 d).word.mark ≡ true) (is : n ≡ min (get_or items 0 d).inside k)
    (count : k ≡ length items - 1) where
  pub stride-opened : min (n + 1) k + 1 ≡ stride (plain items)
  stride-opened = go items d n k matched some opened is count
    where
      go : (us : List Matched) (e : Matched) (i j : ℕ) → AreMatched us → 1 ≤ length us
          → opens (get_or us 0 e).word.mark ≡ true
          → i ≡ min (get_or us 0 e).inside j → j ≡ length us - 1
          → min (i + 1) j + 1 ≡ stride (plain us)
      go [] e i j h one o eq c = absurd (omega (arith, one))
      go (w ∷ ws) e i j h one o eq c =
          let at = inside-first (w ∷ ws) e i j h one eq c in
          let len = plain-length ws in
          let all = c ∙ one-less (length ws) in
          rw o (omega (arith, at, len, all))

module _ (close : Mark) (ws front : List Word) (inner : front ≡ take (inside 0 ws) ws) where
  pub enclosed-parts : (back : List Matched) (d : Matched) → plain back ≡ drop (inside 0 ws) ws
      → 1 ≤ length back
      → same_mark (get_or back 0 d).word.mark close ≡ true
      → enclosed close ws ≡ Some (front, plain (take (length back - 1) (drop 1 back)))
  unfolding enclosed
  enclosed-parts [] d b some is = absurd (omega (arith, some))
  enclosed-parts (c ∷ back) d b some is = rw (← b, ← inner, is, rest-is (c ∷ back)) refl

  pub enclosed-other : (back : List Matched) (d : Matched) → plain back ≡ drop (inside 0 ws) ws
      → 1 ≤ length back
      → same_mark (get_or back 0 d).word.mark close ≡ false → enclosed close ws ≡ None
  unfolding enclosed
  enclosed-other [] d b some is = absurd (omega (arith, some))
  enclosed-other (c ∷ back) d b some is = rw (← b, is) refl

  pub enclosed-end : (back : List Matched) → plain back ≡ drop (inside 0 ws) ws → length back < 1
      → enclosed close ws ≡ None
  unfolding enclosed
  enclosed-end [] b none = rw (← b) refl
  enclosed-end (c ∷ back) b none = absurd (omega (arith, none))

-- up to the first separator there is one piece
pub split-more : (mark : Mark) (items front back : List Matched) (n : ℕ)
    → n ≡ before mark 0 (plain items) → front ≡ take n items → back ≡ drop n items
    → 1 ≤ length back → pieces mark (plain items)
    ≡ plain front ∷ pieces mark (plain (take (length back - 1) (drop 1 back)))
split-more mark items front back n is f b some =
    let count = plain-length back in
    let rest : plain (take (length back - 1) (drop 1 back))
    ≡ take (length (plain back) - 1) (drop 1 (plain back))
    = rw (plain-take (length back - 1) (drop 1 back), plain-drop 1 back, count) refl in
    rw rest (piece-then mark (plain items) (plain front) (plain back) n is
    (ap plain f ∙ plain-take n items) (ap plain b ∙ plain-drop n items)
    (omega (arith, some, count)))

-- the cut at the first separator
pub once-more : (mark : Mark) (items front back : List Matched) (n : ℕ)
    → n ≡ before mark 0 (plain items) → front ≡ take n items → back ≡ drop n items
    → 1 ≤ length back → split_once mark (plain items)
    ≡ Some (plain front, plain (take (length back - 1) (drop 1 back)))
once-more mark items front back n is f b some =
    let count = plain-length back in
    let rest : plain (take (length back - 1) (drop 1 back))
    ≡ take (length (plain back) - 1) (drop 1 (plain back))
    = rw (plain-take (length back - 1) (drop 1 back), plain-drop 1 back, count) refl in
    rw rest (split-then mark (plain items) (plain front) (plain back) n is
    (ap plain f ∙ plain-take n items) (ap plain b ∙ plain-drop n items)
    (omega (arith, some, count)))

pub once-none : (mark : Mark) (items back : List Matched) (n : ℕ)
    → n ≡ before mark 0 (plain items) → back ≡ drop n items → length back < 1
    → split_once mark (plain items) ≡ None
once-none mark items back n is b none =
    let count = plain-length back in
    split-none mark (plain items) (plain back) n is (ap plain b ∙ plain-drop n items)
    (omega (arith, none, count))

-- without one there is one piece in all
pub split-all : (mark : Mark) (items back : List Matched) (n : ℕ) → 0 < length (plain items)
    → n ≡ before mark 0 (plain items) → back ≡ drop n items
    → length back < 1 → pieces mark (plain items) ≡ plain items ∷ pieces mark []
split-all mark items back n some is b none =
    piece-all mark (plain items) (plain back) n some is (ap plain b ∙ plain-drop n items)
    (omega (arith, none, plain-length back))

-- what follows a separator is shorter
pub shorter : (items back : List Matched) (n : ℕ) → back ≡ drop n items → 1 ≤ length back
    → length (plain (take (length back - 1) (drop 1 back))) < length (plain items)
shorter items back n b some =
    let rest = rest-is back in
    let after = plain-length (take (length back - 1) (drop 1 back)) in
    let fewer = ap length rest ∙ length-rest back in
    let less = drop-length n items in
    let whole = plain-length items in
    let at = ap length b in
    omega (arith, some, after, fewer, less, whole, at)
  where
    drop-length : {A : Type 0} (k : ℕ) (us : List A) → length (drop k us) ≤ length us
    drop-length zero us = omega arith
    drop-length (suc k) [] = omega arith
    drop-length (suc k) (u ∷ us) = let less = drop-length k us in omega (arith, less)

-- one word more is passed
pub place-cons : (items : List Matched) (at : ℕ) (d : Matched) → at < length items
    → drop at items ≡ get_or items at d ∷ drop (suc at) items
place-cons [] at d h = absurd (omega (arith, h))
place-cons (w ∷ ws) zero d h = refl
place-cons (w ∷ ws) (suc at) d h = place-cons ws at d (omega (arith, h))

drop-drop : {A : Type 0} (n k : ℕ) (us : List A) → drop n (drop k us) ≡ drop (k + n) us
drop-drop n zero us = let e : 0 + n ≡ n = omega arith in rw e refl
drop-drop n (suc k) [] = nothing n ∙ sym (nothing (suc k + n))
  where
    nothing : {A : Type 0} (j : ℕ) → drop {A = A} j [] ≡ []
    nothing zero = refl
    nothing (suc j) = refl
drop-drop n (suc k) (u ∷ us) = let e : suc k + n ≡ suc (k + n) = omega arith in
    rw e (drop-drop n k us)

pub passes : (mark : Mark) (items : List Matched) (at n : ℕ) (d : Matched) → at < length items
    → same_mark (get_or items at d).word.mark mark ≡ false
    → before mark 0 (plain items) ≡ at + before mark 0 (plain (drop at items))
    → n ≡ stride (plain (drop at items))
    → before mark 0 (plain items) ≡ (at + n) + before mark 0 (plain (drop (at + n) items))
passes mark items at n d h off so_far is =
    let here = place-cons items at d h in
    let one = before-stride mark (get_or items at d).word (plain (drop (suc at) items)) off in
    let step : before mark 0 (plain (drop at items))
    ≡ stride (plain (drop at items)) + before mark 0
    (drop (stride (plain (drop at items))) (plain (drop at items)))
    = rw here one in
    let far : drop n (plain (drop at items)) ≡ plain (drop (at + n) items) =
    rw (← plain-drop n (drop at items), drop-drop n at items) refl in
    let next : before mark 0 (plain (drop at items))
    ≡ n + before mark 0 (plain (drop (at + n) items)) = rw (is, ← is, ← far, is) step in
    omega (arith, so_far, next)

last-split-from : (w : Matched) (ws : List Matched) (d : Matched)
    → plain (w ∷ ws) ≡ plain (take (length ws) (w ∷ ws)) ++ (get_or (w ∷ ws) (length ws) d).word
    ∷ []
last-split-from w [] d = refl
last-split-from w (v ∷ vs) d = ap (λ us. w.word ∷ us) (last-split-from v vs d)

-- the words before the last, and the last
pub last-split : (items : List Matched) (d : Matched) → 1 ≤ length items
    → plain items ≡ plain (take (length items - 1) items)
    ++ (get_or items (length items - 1) d).word ∷ []
last-split [] d some = absurd (omega (arith, some))
last-split (w ∷ ws) d some = rw (one-less (length ws)) (last-split-from w ws d)

-- the last of some values
last-from : {A : Type 0} (w : A) (ws : List A) (d : A)
    → w ∷ ws ≡ take (length ws) (w ∷ ws) ++ get_or (w ∷ ws) (length ws) d ∷ []
last-from w [] d = refl
last-from w (v ∷ vs) d = ap (λ us. w ∷ us) (last-from v vs d)

pub reverse-front : {A : Type 0} (xs : List A) (d : A)
    → get_or xs (length xs - 1) d ≡ get_or (reverse xs) 0 d
reverse-front [] d = refl
reverse-front (w ∷ ws) d =
    let e = ap reverse (last-from w ws d)
    ∙ reverse-append (take (length ws) (w ∷ ws)) (get_or (w ∷ ws) (length ws) d ∷ []) in
    rw (one-less (length ws)) (sym (ap (λ us. get_or us 0 d) e))

length-more : {A : Type 0} (xs : List A) (x : A) → length (xs ++ x ∷ []) ≡ suc (length xs)
length-more [] x = refl
length-more (w ∷ ws) x = ap suc (length-more ws x)

-- one word more is matched
module _ (words : List Word) (found : List Matched) (at next : ℕ) (step : next ≡ suc at)
    (count : length found + next ≡ length words) where
  place : (d : Word) → drop at words ≡ get_or words at d ∷ drop next words
  place d = from-place words at d (omega (arith, count, step))
      ∙ ap (λ n. get_or words at d ∷ drop n words) (sym step)

  many : length (drop next words) ≡ length found
  many = length-drop words next ∙ omega (arith, count)

  pub enough : get_or (unmatched (drop next words)) 0 0 ≤ length found
  enough = let all = unmatched-inside 0 (drop next words) in let few = many in
      omega (arith, all, few)

  pub added-count : (item : Matched) → length (found ++ item ∷ []) + at ≡ length words
  added-count item = let more = length-more found item in omega (arith, more, count, step)

  pub added-words : (d : Word) (i : ℕ) → plain (reverse found) ≡ drop next words
      → plain (reverse (found ++ record { word = get_or words at d; inside = i } ∷ []))
      ≡ drop at words
  added-words d i so_far =
      ap plain (reverse-append found (record { word = get_or words at d; inside = i } ∷ []))
      ∙ ap (λ us. get_or words at d ∷ us) so_far ∙ sym (place d)

  pub added-matched : (d : Word) (i : ℕ) → plain (reverse found) ≡ drop next words
      → AreMatched (reverse found)
      → i ≡ length found - get_or (unmatched (drop next words)) 0 0
      → AreMatched (reverse (found ++ record { word = get_or words at d; inside = i } ∷ []))
  added-matched d i so_far matched is =
      subst AreMatched
      (sym (reverse-append found (record { word = get_or words at d; inside = i } ∷ [])))
      (here, matched)
    where
      here : min i (length (reverse found)) ≡ inside 0 (plain (reverse found))
      here =
          let all = unmatched-inside 0 (drop next words) in
          let len = length-reverse found in
          let few = many in
          rw so_far (omega (arith, is, all, len, few))

  -- the brackets that close none of the words from a place on
  pub unmatched-opened : (d : Word) (us vs : List ℕ) → opens (get_or words at d).mark ≡ true
      → reverse us ≡ unmatched (drop next words)
      → reverse vs ≡ drop 1 (reverse us) → reverse vs ≡ unmatched (drop at words)
  unmatched-opened d us vs o was now = now ∙ ap (drop 1) was
      ∙ sym (ap unmatched (place d) ∙ (rw o refl))

  pub unmatched-closed : (d : Word) (us : List ℕ) (after : ℕ)
      → opens (get_or words at d).mark ≡ false → closes (get_or words at d).mark ≡ true
      → reverse us ≡ unmatched (drop next words) → after ≡ length found
      → reverse (us ++ (after + 1) ∷ []) ≡ unmatched (drop at words)
  unmatched-closed d us after o c was is =
      let few = many in
      let here : after + 1 ≡ suc (length (drop next words)) = omega (arith, is, few) in
      reverse-append us ((after + 1) ∷ []) ∙ ap (λ n. n ∷ reverse us) here
      ∙ ap (λ vs. suc (length (drop next words)) ∷ vs) was
      ∙ sym (ap unmatched (place d) ∙ (rw (o, c) refl))

  pub unmatched-other : (d : Word) (us : List ℕ) → opens (get_or words at d).mark ≡ false
      → closes (get_or words at d).mark ≡ false
      → reverse us ≡ unmatched (drop next words) → reverse us ≡ unmatched (drop at words)
  unmatched-other d us o c was = was ∙ sym (ap unmatched (place d) ∙ (rw (o, c) refl))
