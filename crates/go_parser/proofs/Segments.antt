-- Words by their tokens.
use Rattle.std.proofs.Common.{◌≡◌, ◌∙◌, ap, sym, refl, ℕ, zero, suc, ◌+◌, ◌-◌, ◌<◌, ◌≤◌, min}
use Rattle.std.proofs.Common.{List, [], ◌∷◌, ◌++◌, length, map, take, drop, Option, All}
use Rattle.std.proofs.Common.{append_assoc, arith, length-append, Result, Ok, Err, IfOk}
use Rattle.std.proofs.lemmas.List.{length-take}
use Rattle.std.proofs.lemmas.List.Elements.{All-weaker}
use Rattle.go_ast.specs.declared.token.Token.{Token}
use Rattle.go_ast.specs.declared.token.TokenRange.{TokenRange}
use Rattle.go_ast.specs.declared.word.Word.{Word}
use Rattle.go_ast.specs.Marks.{word_of, words_from, words_of}
use Rattle.go_parser.specs.declared.chunk.Chunk.{Chunk}
use Rattle.go_parser.specs.declared.chunk.Cut.{Cut}
use Rattle.go_parser.specs.declared.chunk.Cut.TheVariants as cuts
use Rattle.go_parser.specs.ChunkFacts as facts
use Rattle.go_parser.specs.ChunkFacts.{AreChunks, IsChunk, IsCut, IsFaultAt, IsOpened}
use Rattle.go_parser.specs.Cutter.{IsCutOf, IsEnded, LastCloses, nothing, bracket}
use Rattle.go_parser.specs.Cutter.{Reached, segment}
use Rattle.go_parser.specs.declared.cutter.OpenBracket.{OpenBracket}

pub words-length : (source : List ℕ) (place : ℕ) (tokens : List Token)
    → length (words_from source place tokens) ≡ length tokens
words-length source place [] = refl
words-length source place (t ∷ tokens) = ap suc (words-length source (place + 1) tokens)

words-drop : (source : List ℕ) (place n : ℕ) (tokens : List Token)
    → drop n (words_from source place tokens) ≡ words_from source (place + n) (drop n tokens)
words-drop source place zero tokens = let e : place + 0 ≡ place = omega arith in rw e refl
words-drop source place (suc n) [] = refl
words-drop source place (suc n) (t ∷ tokens) =
    let e : place + 1 + n ≡ place + suc n = omega arith in
    words-drop source (place + 1) n tokens ∙ ap (λ k. words_from source k (drop n tokens)) e

words-take : (source : List ℕ) (place n : ℕ) (tokens : List Token)
    → take n (words_from source place tokens) ≡ words_from source place (take n tokens)
words-take source place zero tokens = refl
words-take source place (suc n) [] = refl
words-take source place (suc n) (t ∷ tokens) =
    ap (λ us. word_of source place t ∷ us) (words-take source (place + 1) n tokens)

near-by : (ws front others : List Word) (n : ℕ) → take n ws ≡ front ++ others → 0 < length others
    → length front < n
near-by ws front others n is some =
    let e : length front + length others ≡ min n (length ws) =
    sym (length-append front others) ∙ sym (ap length is) ∙ length-take n ws in
    omega (arith, e, some)

module _ (source : List ℕ) (tokens : List Token) where
  abbrev all : List Word
  all = words_from source 0 tokens

  pub segment-words : (range : TokenRange)
      → segment all range.first range.after ≡ words_of source tokens range
  unfolding words_of
  segment-words range =
      ap (take (range.after - range.first)) (words-drop source 0 range.first tokens)
      ∙ words-take source (0 + range.first) (range.after - range.first) (drop range.first tokens)
      ∙ ap (λ k. words_from source k
      (take (range.after - range.first) (drop range.first tokens))) from-zero
    where
      from-zero : 0 + range.first ≡ range.first
      from-zero = omega arith

  -- a later part of a part
  later : (ws : List Word) (first n after : ℕ)
      → drop n (segment ws first after) ≡ segment ws (first + n) after
  later ws first n after = drop-of-take n (after - first) (drop first ws)
      ∙ (rw (drop-of-drop n first ws, less) refl)
    where
      less : (after - first) - n ≡ after - (first + n)
      less = omega arith

      drop-of-take : (i k : ℕ) (us : List Word) → drop i (take k us) ≡ take (k - i) (drop i us)
      drop-of-take zero k us = rw less-none refl
        where
          less-none : k - 0 ≡ k
          less-none = omega arith
      drop-of-take (suc i) zero us = rw none refl
        where
          none : 0 - suc i ≡ 0
          none = omega arith
      drop-of-take (suc i) (suc k) [] = sym (take-none (suc k - suc i))
        where
          take-none : (j : ℕ) → take {A = Word} j [] ≡ []
          take-none zero = refl
          take-none (suc j) = refl
      drop-of-take (suc i) (suc k) (u ∷ us) = drop-of-take i k us ∙ (rw one refl)
        where
          one : suc k - suc i ≡ k - i
          one = omega arith

      drop-of-drop : (i k : ℕ) (us : List Word) → drop i (drop k us) ≡ drop (k + i) us
      drop-of-drop i zero us = rw from-none refl
        where
          from-none : 0 + i ≡ i
          from-none = omega arith
      drop-of-drop i (suc k) [] = nothing-left i ∙ sym (nothing-left (suc k + i))
        where
          nothing-left : (j : ℕ) → drop {A = Word} j [] ≡ []
          nothing-left zero = refl
          nothing-left (suc j) = refl
      drop-of-drop i (suc k) (u ∷ us) = drop-of-drop i k us
          ∙ ap (λ j. drop j (u ∷ us)) (sym one-more)
        where
          one-more : suc k + i ≡ suc (k + i)
          one-more = omega arith

  after-front : (front others : List Word) → drop (length front) (front ++ others) ≡ others
  after-front [] others = refl
  after-front (u ∷ front) others = after-front front others

  near : (range : TokenRange) (front others : List Word)
      → segment all range.first range.after ≡ front ++ others → 0 < length others
      → range.first + length front < range.after
  near range front others is some =
      let less = near-by (drop range.first all) front others (range.after - range.first) is some in
      omega (arith, less)

  opened-by : (range : TokenRange) (opened : Option ℕ) → range.first < range.after
      → LastCloses range.first (segment all range.first range.after) opened
      → range.after ≤ length all
      → IsOpened source tokens range opened
  opened-by range _ some (nothing front last is off) within =
      facts.nothing front last (sym (segment-words range) ∙ is) off
  opened-by range _ some (bracket front inner o c is opening same nests) within =
      let whole = is ∙ append_assoc front (o ∷ inner) (c ∷ []) in
      facts.bracket (range.first + length front) o c inner (omega arith)
      (near range front (o ∷ inner ++ c ∷ []) whole (omega arith))
      (sym (segment-words (record { first = range.first + length front; after = range.after }))
      ∙ sym (later all range.first (length front) range.after)
      ∙ ap (drop (length front)) whole ∙ after-front front (o ∷ inner ++ c ∷ [])) opening same nests

  one-chunk : (c : Chunk) → IsEnded all c → IsChunk source tokens c
  one-chunk c h = record {
    some = h.some;
    within = let a = words-length source 0 tokens in let b = h.within in omega (arith, a, b);
    last = opened-by c.tokens c.opened h.some h.last h.within;
  }

  each-chunk : (found : List Chunk) → All (IsEnded all) found → All (IsChunk source tokens) found
  each-chunk found h = All-weaker (IsEnded all) (IsChunk source tokens) one-chunk found h

  same-map : (found : List Chunk) → map (λ c. segment all c.tokens.first c.tokens.after) found
      ≡ map (λ c. words_of source tokens c.tokens) found
  same-map [] = refl
  same-map (c ∷ found) = rw (segment-words c.tokens, same-map found) refl

  -- what the words are cut into, by their tokens
  pub cut-by : (cut : Cut) → IsCutOf all cut → IsCut source tokens cut
  cut-by (cuts.Chunks found) h = record {
    nested = h.nested;
    same_words = sym (same-map found.items) ∙ h.same_words;
    each = each-chunk found.items h.each;
  }
  cut-by (cuts.Unbalanced offset) h = record {
    word = h.word;
    unbalanced = h.unbalanced;
    begins = h.begins;
  }

  pub finished : {E : Type 0} (r : Result Cut E) (place : ℕ) (found : List Chunk)
      (brackets : List OpenBracket) (first : ℕ) (opened : Option ℕ)
      → IfOk r (λ cut. (words : List Word) → Reached words [] place found brackets first opened
      → IsCutOf words cut) → Reached all [] place found brackets first opened
      → IfOk r (λ cut. IsCut source tokens cut)
  finished (Ok cut) place found brackets first opened h reached = cut-by cut (h all reached)
  finished (Err e) place found brackets first opened h reached = tt
