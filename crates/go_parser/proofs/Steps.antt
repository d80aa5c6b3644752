-- What is kept, token by token.
use Rattle.std.proofs.Common.{◌≡◌, ◌∙◌, ap, sym, refl, subst, ℕ, zero, suc, ◌+◌, ◌-◌, ◌<◌, ◌≤◌}
use Rattle.std.proofs.Common.{Bool, true, false, ◌&&◌, ◌==◌, List, [], ◌∷◌, ◌++◌, append_assoc}
use Rattle.std.proofs.Common.{append-nil, length, map, drop, Option, Some, None, All, filter}
use Rattle.std.proofs.Common.{⊎_elim, inl, inr, ◌⊎◌, reverse, arith, get_or, length-append}
use Rattle.std.proofs.Common.{length-drop, take_all}
use Rattle.type_parser.proofs.GrammarLaws.{length-reverse}
use Rattle.std.proofs.lemmas.Bool.Decides.{nat_tests}
use Rattle.std.proofs.lemmas.Grind.{common_steps}
use Rattle.std.proofs.lemmas.List.{drop-append-le, map-append, reverse-append, take-append-le}
use Rattle.std.proofs.lemmas.List.Elements.{All-nil, All-push}
use Rattle.go_ast.specs.declared.word.Word.{Word}
use Rattle.go_ast.specs.declared.word.Mark.{Mark}
use Rattle.go_ast.specs.declared.word.Mark.TheVariants as m
use Rattle.go_ast.specs.Chunks.{IsUnbalancedAt, mismatched, left_open, after_word, chunks}
use Rattle.go_ast.specs.Chunks.{has_words, open_after}
use Rattle.go_ast.specs.Cutting.{closing_of, pieces, pieces_from}
use Rattle.go_ast.specs.Marks.{opens, closes, same_mark}
use Rattle.type_parser.proofs.GrammarLaws.{marks_are, marks_same}
use Rattle.go_parser.specs.declared.chunk.Chunk.{Chunk}
use Rattle.go_parser.specs.declared.cutter.OpenBracket.{OpenBracket}
use Rattle.go_parser.specs.Cutter.{AreEnded, IsEnded, IsFaultOf, LastCloses, nothing}
use Rattle.go_parser.specs.Cutter.{CutsAs, Reached, outside, kept, segment}
use Rattle.go_parser.proofs.Standings.{open-more, opened-is, other-is, closing-is, closed-is}
use Rattle.go_parser.proofs.Standings.{unclosed-is, does, depth-is, stands-on, ends-at}

-- the words since a place
pub segment-is : (front rest : List Word) (first : ℕ) → first ≤ length front
    → segment (front ++ rest) first (length front) ≡ drop first front
segment-is front rest first h =
    let count = length-drop first front in
    rw (drop-append-le first front rest h)
    (take-append-le (length front - first) (drop first front) rest (omega (arith, count))
    ∙ take_all (length front - first) (drop first front) (omega (arith, count)))

pub drop-all : {A : Type 0} (xs : List A) (n : ℕ) → length xs ≤ n → drop n xs ≡ []
drop-all [] zero h = refl
drop-all [] (suc n) h = refl
drop-all (x ∷ xs) zero h = absurd (omega (arith, h))
drop-all (x ∷ xs) (suc n) h = drop-all xs n (omega (arith, h))

pub drop-some : {A : Type 0} (xs : List A) (n : ℕ) → n < length xs
    → (y : A) × (ys : List A) × (drop n xs ≡ y ∷ ys)
drop-some [] n h = absurd (omega (arith, h))
drop-some (x ∷ xs) zero h = (x, xs, refl)
drop-some (x ∷ xs) (suc n) h = drop-some xs n (omega (arith, h))

-- brackets are no semicolons
opens-no-semi : (mark : Mark) → opens mark ≡ true → same_mark mark m.Semi ≡ false
unfolding same_mark
opens-no-semi m.OpenParen e = refl
opens-no-semi m.OpenBracket e = refl
opens-no-semi m.OpenBrace e = refl
opens-no-semi mark e = absurd (cc)

closes-no-semi : (mark : Mark) → closes mark ≡ true → same_mark mark m.Semi ≡ false
unfolding same_mark
closes-no-semi m.CloseParen e = refl
closes-no-semi m.CloseBracket e = refl
closes-no-semi m.CloseBrace e = refl
closes-no-semi mark e = absurd (cc)

pub and-false : (b c : Bool) → c ≡ false → (b && c) ≡ false
and-false true c e = e
and-false false c e = refl

deep-false : (n : ℕ) (b : Bool) → (suc n == 0 && b) ≡ false
deep-false n b = grind (arith, nat_tests, common_steps)

no-brackets : (stack : List Word) → map kept stack ≡ [] → stack ≡ []
no-brackets [] e = refl
no-brackets (w ∷ stack) e = absurd (cc e)

filter-append : (xs ys : List (List Word))
    → filter has_words (xs ++ ys) ≡ filter has_words xs ++ filter has_words ys
filter-append xs ys = grind (arith, common_steps)

-- one number is below the other, or not
less-or : (a b : ℕ) → (a < b) ⊎ (b ≤ a)
less-or a zero = inr (omega arith)
less-or zero (suc b) = inl (omega arith)
less-or (suc a) (suc b) = ⊎_elim (λ h. inl (omega (arith, h))) (λ h. inr (omega (arith, h)))
    (less-or a b)

pub empty-is : {A : Type 0} (xs : List A) → length xs ≡ 0 → reverse xs ≡ []
empty-is [] e = refl
empty-is (x ∷ xs) e = absurd (omega (arith, e))

pub some-left : {A : Type 0} (xs : List A) → 0 < length xs → reverse xs ≡ [] → ⊥
some-left xs some e = let a = ap length e in let b = length-reverse xs in omega (arith, a, b, some)

-- the first of some values is the last of them the other way round
pub first-last : {A : Type 0} (xs : List A) (d : A) → 1 ≤ length xs
    → reverse xs ≡ reverse (drop 1 xs) ++ get_or xs 0 d ∷ []
first-last [] d some = absurd (omega (arith, some))
first-last (x ∷ xs) d some = reverse-append (x ∷ []) xs

module _ (words rest : List Word) (w : Word) (place : ℕ) (found : List Chunk)
    (brackets : List OpenBracket) (first : ℕ) (opened : Option ℕ)
    (r : Reached words (w ∷ rest) place found brackets first opened) where
  whole-more : words ≡ (r.front ++ w ∷ []) ++ rest
  whole-more = r.whole ∙ sym (append_assoc r.front (w ∷ []) rest)

  count-more : length (r.front ++ w ∷ []) ≡ place + 1
  count-more = length-append r.front (w ∷ []) ∙ ap (λ n. n + 1) r.count

  first-within : first ≤ length r.front
  first-within = let a = r.count in let b = r.begun in omega (arith, a, b)

  since-more : drop first (r.front ++ w ∷ []) ≡ drop first r.front ++ w ∷ []
  since-more = drop-append-le first r.front (w ∷ []) first-within

  -- a word within the chunk
  goes-on : (after : List Word) (now : List OpenBracket) (next : Option ℕ)
      → after_word r.stack w ≡ Some after
      → (length r.stack == 0 && same_mark w.mark m.Semi) ≡ false
      → w.tokens.first ≡ place → map kept after ≡ now
      → (after ≡ [] → LastCloses first (drop first r.front ++ w ∷ []) next)
      → Reached words rest (place + 1) found now first next
  goes-on after now next is inner at entries last = record {
    front = r.front ++ w ∷ [];
    stack = after;
    done = r.done;
    whole = whole-more;
    count = count-more;
    begun = let b = r.begun in omega (arith, b);
    nests = open-more [] r.front r.stack w r.nests ∙ is;
    here = ap (open_after []) since-more
        ∙ open-more [] (drop first r.front) r.stack w r.here ∙ is;
    entries = entries;
    standing = rw since-more
        (stands-on first (drop first r.front) r.stack w after r.standing here
        (does r.stack w after is));
    last = λ none more. rw since-more (last none);
    cut = r.cut ∙ ap (λ ps. r.done ++ ps)
        (rw (inner, since-more, depth-is r.stack w after (does r.stack w after is)) refl);
    same_words = r.same_words;
    each = r.each;
  }
    where
      here : w.tokens.first ≡ first + length (drop first r.front)
      here = let a = r.count in let b = r.begun in let c = length-drop first r.front in
          omega (arith, at, a, b, c)

  pub opens-one : opens w.mark ≡ true → w.tokens.first ≡ place
      → Reached words rest (place + 1) found (kept w ∷ brackets) first None
  opens-one o at = goes-on (w ∷ r.stack) (kept w ∷ brackets) None (opened-is r.stack w o)
      (and-false (length r.stack == 0) (same_mark w.mark m.Semi) (opens-no-semi w.mark o)) at
      (ap (λ us. kept w ∷ us) r.entries) (λ none. absurd (cc none))

  pub passes-one : opens w.mark ≡ false → closes w.mark ≡ false → w.tokens.first ≡ place
      → (length r.stack == 0 && same_mark w.mark m.Semi) ≡ false
      → Reached words rest (place + 1) found brackets first None
  passes-one o c at inner = goes-on r.stack brackets None (other-is r.stack w o c) inner at
      r.entries (λ none. nothing (drop first r.front) w refl c)

  -- a closing bracket that matches the innermost open one
  pub closes-one : (b : OpenBracket) (others : List OpenBracket) → brackets ≡ b ∷ others
      → closes w.mark ≡ true → w.tokens.first ≡ place → same_mark w.mark b.closing ≡ true
      → Reached words rest (place + 1) found others first (Some b.place)
  closes-one b others is c at same = go r.stack refl r.entries
    where
      go : (stack : List Word) → r.stack ≡ stack → map kept stack ≡ brackets
          → Reached words rest (place + 1) found others first (Some b.place)
      go [] s e = absurd (cc)
      go (o ∷ after) s e =
          let head : kept o ≡ b = ap (λ us. get_or us 0 b) (e ∙ is) in
          let match : same_mark w.mark (closing_of o.mark) ≡ true =
          ap (λ k. same_mark w.mark k.closing) head ∙ same in
          goes-on after others (Some b.place)
          (ap (λ us. after_word us w) s ∙ closed-is after o w c match)
          (and-false (length r.stack == 0) (same_mark w.mark m.Semi) (closes-no-semi w.mark c)) at
          (ap (drop 1) (e ∙ is))
          (λ none. subst (λ k. LastCloses first (drop first r.front ++ w ∷ []) (Some k.place)) head
          (ends-at first (drop first r.front) r.stack w o r.standing (s ∙ ap (λ us. o ∷ us) none) c
          (marks_are w.mark (closing_of o.mark) match)))

  -- one that doesn't
  pub fails-one : (after_word r.stack w ≡ None) → IsUnbalancedAt words w
  fails-one none = subst (λ us. IsUnbalancedAt us w) (sym r.whole)
      (mismatched r.front w rest r.stack r.nests none)

  pub nothing-open : brackets ≡ [] → closes w.mark ≡ true → IsUnbalancedAt words w
  nothing-open is c = fails-one
      (ap (λ us. after_word us w) (no-brackets r.stack (r.entries ∙ is)) ∙ closing-is [] w c)

  pub other-open : (b : OpenBracket) (others : List OpenBracket) → brackets ≡ b ∷ others
      → closes w.mark ≡ true → same_mark w.mark b.closing ≡ false → IsUnbalancedAt words w
  other-open b others is c off = go r.stack refl r.entries
    where
      go : (stack : List Word) → r.stack ≡ stack → map kept stack ≡ brackets
          → IsUnbalancedAt words w
      go [] s e = absurd (cc)
      go (o ∷ after) s e =
          let head : kept o ≡ b = ap (λ us. get_or us 0 b) (e ∙ is) in
          fails-one (ap (λ us. after_word us w) s ∙ unclosed-is after o w c
          (ap (λ k. same_mark w.mark k.closing) head ∙ off))

  -- a semicolon within brackets
  pub semi-within : w.mark ≡ m.Semi → w.tokens.first ≡ place → (brackets ≡ [] → ⊥)
      → Reached words rest (place + 1) found brackets first None
  semi-within is at some = passes-one (rw is refl) (rw is refl) at (deep r.stack refl)
    where
      deep : (stack : List Word) → r.stack ≡ stack
          → (length r.stack == 0 && same_mark w.mark m.Semi) ≡ false
      deep [] s = absurd (some (sym r.entries ∙ ap (map kept) s))
      deep (o ∷ others) s = rw s (deep-false (length others) (same_mark w.mark m.Semi))

  -- one outside brackets
  ends-any : (ended : List Chunk) → w.mark ≡ m.Semi → brackets ≡ []
      → map (λ c. segment words c.tokens.first c.tokens.after) ended
      ≡ filter has_words (r.done ++ drop first r.front ∷ [])
      → All (IsEnded words) ended
      → Reached words rest (place + 1) ended [] (place + 1) None
  ends-any ended is none same each = record {
    front = r.front ++ w ∷ [];
    stack = [];
    done = r.done ++ drop first r.front ∷ [];
    whole = whole-more;
    count = count-more;
    begun = omega arith;
    nests = open-more [] r.front r.stack w r.nests ∙ (rw (shut, is) refl);
    here = rw over refl;
    entries = refl;
    standing = outside;
    last = λ e more. absurd (omega (arith, more));
    cut = r.cut ∙ ap (λ ps. r.done ++ ps) step
        ∙ sym (append_assoc r.done (drop first r.front ∷ [])
        (pieces_from m.Semi 0 (drop (place + 1) (r.front ++ w ∷ [])) rest));
    same_words = same;
    each = each;
  }
    where
      shut : r.stack ≡ []
      shut = no-brackets r.stack (r.entries ∙ none)

      over : drop (place + 1) (r.front ++ w ∷ []) ≡ []
      over = drop-all (r.front ++ w ∷ []) (place + 1) (omega (arith, count-more))

      cut-here : pieces_from m.Semi 0 (drop first r.front) (w ∷ rest)
          ≡ drop first r.front ∷ pieces_from m.Semi 0 [] rest
      cut-here = rw (marks_same w.mark m.Semi is) refl

      step : pieces_from m.Semi (length r.stack) (drop first r.front) (w ∷ rest)
          ≡ drop first r.front
          ∷ pieces_from m.Semi 0 (drop (place + 1) (r.front ++ w ∷ [])) rest
      step = ap (λ us. pieces_from m.Semi (length us) (drop first r.front) (w ∷ rest)) shut
          ∙ cut-here
          ∙ ap (λ us. drop first r.front ∷ pieces_from m.Semi 0 us rest) (sym over)

  -- the chunk that ends before the semicolon
  pub semi-ends : w.mark ≡ m.Semi → brackets ≡ [] → first < place
      → Reached words rest (place + 1)
      (found ++ record { tokens = record { first = first; after = place }; opened = opened } ∷ [])
      []
      (place + 1) None
  semi-ends is none more =
      ends-any (found ++ record {
        tokens = record { first = first; after = place };
        opened = opened;
      } ∷ [])
      is none
      (map-append (λ c. segment words c.tokens.first c.tokens.after) found
      (record { tokens = record { first = first; after = place }; opened = opened } ∷ [])
      ∙ (rw (r.same_words, since) (sym (filter-append r.done (drop first r.front ∷ [])
      ∙ ap (λ ps. filter has_words r.done ++ ps) some))))
      (All-push (IsEnded words) found _ r.each (record {
        some = more;
        within = let a = r.count in let b = ap length r.whole in
            let c = length-append r.front (w ∷ rest) in
            omega (arith, a, b, c);
        last = rw since (r.last (no-brackets r.stack (r.entries ∙ none)) more);
      }))
    where
      since : segment words first place ≡ drop first r.front
      since = rw (r.whole, ← r.count) (segment-is r.front (w ∷ rest) first first-within)

      some : filter has_words (drop first r.front ∷ []) ≡ drop first r.front ∷ []
      some = let one = drop-some r.front first (omega (arith, r.count, more)) in rw one.2 refl

  -- no chunk ends before it
  pub semi-alone : w.mark ≡ m.Semi → brackets ≡ [] → place ≤ first
      → Reached words rest (place + 1) found [] (place + 1) None
  semi-alone is none less =
      ends-any found is none
      (r.same_words ∙ sym (filter-append r.done (drop first r.front ∷ [])
      ∙ (rw none-since (append-nil (filter has_words r.done))))) r.each
    where
      none-since : drop first r.front ≡ []
      none-since = drop-all r.front first (omega (arith, r.count, less))

  pub semi-any : (now : List Chunk) → (first < place → now
      ≡ found ++ record { tokens = record { first = first; after = place }; opened = opened } ∷ [])
      → (place ≤ first → now ≡ found) → w.mark ≡ m.Semi → brackets ≡ []
      → Reached words rest (place + 1) now [] (place + 1) None
  semi-any now ends stays is none = ⊎_elim
      (λ more. subst (λ us. Reached words rest (place + 1) us [] (place + 1) None)
      (sym (ends more)) (semi-ends is none more))
      (λ less. subst (λ us. Reached words rest (place + 1) us [] (place + 1) None)
      (sym (stays less)) (semi-alone is none less)) (less-or first place)

-- at the end
module _ (words : List Word) (place : ℕ) (found : List Chunk) (brackets : List OpenBracket)
    (first : ℕ) (opened : Option ℕ) (r : Reached words [] place found brackets first opened) where
  all-front : words ≡ r.front
  all-front = r.whole ∙ append-nil r.front

  nested : brackets ≡ [] → open_after [] words ≡ Some []
  nested none = ap (open_after []) all-front ∙ r.nests
      ∙ ap Some (no-brackets r.stack (r.entries ∙ none))

  cut-all : brackets ≡ [] → (ps : List (List Word))
      → pieces_from m.Semi 0 (drop first r.front) [] ≡ ps → chunks words
      ≡ filter has_words (r.done ++ ps)
  unfolding chunks
  cut-all none ps is = ap (filter has_words) cut-is
    where
      cut-is : pieces m.Semi words ≡ r.done ++ ps
      cut-is = r.cut ∙ ap (λ us. r.done ++ us)
          (ap (λ us. pieces_from m.Semi (length us) (drop first r.front) [])
          (no-brackets r.stack (r.entries ∙ none)) ∙ is)

  pub end-ends : brackets ≡ [] → first < place → AreEnded words
      (found ++ record { tokens = record { first = first; after = place }; opened = opened } ∷ [])
  end-ends none more = record {
    nested = nested none;
    same_words = map-append (λ c. segment words c.tokens.first c.tokens.after) found
        (record { tokens = record { first = first; after = place }; opened = opened } ∷ [])
        ∙ (rw (r.same_words, since) (sym (cut-all none (drop first r.front ∷ []) some
        ∙ filter-append r.done (drop first r.front ∷ [])
        ∙ ap (λ ps. filter has_words r.done ++ ps) kept-one)));
    each = All-push (IsEnded words) found _ r.each (record {
      some = more;
      within = let a = r.count in let b = ap length all-front in omega (arith, a, b);
      last = rw since (r.last (no-brackets r.stack (r.entries ∙ none)) more);
    });
  }
    where
      since : segment words first place ≡ drop first r.front
      since = rw (r.whole, ← r.count)
          (segment-is r.front [] first (omega (arith, r.count, r.begun)))

      one : (y : Word) × (ys : List Word) × (drop first r.front ≡ y ∷ ys)
      one = drop-some r.front first (omega (arith, r.count, more))

      some : pieces_from m.Semi 0 (drop first r.front) [] ≡ drop first r.front ∷ []
      some = rw one.2 refl

      kept-one : filter has_words (drop first r.front ∷ []) ≡ drop first r.front ∷ []
      kept-one = rw one.2 refl

  pub end-alone : brackets ≡ [] → place ≤ first → AreEnded words found
  end-alone none less = record {
    nested = nested none;
    same_words = r.same_words ∙ sym (cut-all none [] (rw none-since refl)
        ∙ ap (filter has_words) (append-nil r.done));
    each = r.each;
  }
    where
      none-since : drop first r.front ≡ []
      none-since = drop-all r.front first (omega (arith, r.count, less))

  pub end-any : (now : List Chunk) → (first < place → now
      ≡ found ++ record { tokens = record { first = first; after = place }; opened = opened } ∷ [])
      → (place ≤ first → now ≡ found) → brackets ≡ [] → AreEnded words now
  end-any now ends stays none = ⊎_elim
      (λ more. subst (AreEnded words) (sym (ends more)) (end-ends none more))
      (λ less. subst (AreEnded words) (sym (stays less)) (end-alone none less))
      (less-or first place)

  -- a bracket that is left open
  pub left-open : (others : List OpenBracket) (b : OpenBracket) → brackets ≡ others ++ b ∷ []
      → IsFaultOf words b.offset
  left-open others b is = go r.stack others refl (r.entries ∙ is)
    where
      split : (stack : List Word) (us : List OpenBracket) → map kept stack ≡ us ++ b ∷ []
          → (inner : List Word) × (w : Word) × (stack ≡ inner ++ w ∷ []) × (kept w ≡ b)
      split [] [] e = absurd (cc e)
      split [] (u ∷ us) e = absurd (cc e)
      split (w ∷ []) [] e = ([], w, refl, ap (λ ks. get_or ks 0 b) e)
      split (w ∷ v ∷ stack) [] e = absurd (cc (ap (drop 1) e))
      split (w ∷ stack) (u ∷ us) e =
          let more = split stack us (ap (drop 1) e) in
          (w ∷ more.0, more.1, ap (λ vs. w ∷ vs) more.2, more.3)

      go : (stack : List Word) (us : List OpenBracket) → r.stack ≡ stack → map kept stack
          ≡ us ++ b ∷ []
          → IsFaultOf words b.offset
      go stack us s e =
          let parts = split stack us e in
          record {
            word = parts.1;
            unbalanced = left_open parts.0 parts.1
                (ap (open_after []) all-front ∙ r.nests ∙ ap Some (s ∙ parts.2));
            begins = ap (λ k. k.offset) parts.3;
          }

-- before the first word
pub at-first : (words : List Word) → Reached words words 0 [] [] 0 None
unfolding pieces
at-first words = record {
  front = [];
  stack = [];
  done = [];
  whole = refl;
  count = refl;
  begun = omega arith;
  nests = refl;
  here = refl;
  entries = refl;
  standing = outside;
  last = λ e more. absurd (omega (arith, more));
  cut = refl;
  same_words = refl;
  each = All-nil (IsEnded words);
}

pub semi-mark : (mark real : Mark) → CutsAs mark real → same_mark mark m.Semi ≡ true → real ≡ m.Semi
semi-mark mark real cuts is = marks_are real m.Semi (sym cuts.same_semi ∙ is)
