-- The fault of chunks of which one is no declaration in its place.
use Rattle.std.proofs.Common.{◌≡◌, ◌∙◌, ap, sym, refl, subst, ℕ, zero, suc, ◌+◌, ◌-◌, ◌*◌, ◌<◌, ◌≤◌}
use Rattle.std.proofs.Common.{Bool, true, false, ◌&&◌, ◌==◌, List, [], ◌∷◌, ◌++◌, length, take}
use Rattle.std.proofs.Common.{drop}
use Rattle.std.proofs.Common.{filter, map, get_or, All, arith, cond, append_assoc, take-append-drop}
use Rattle.go_ast.specs.declared.declaration.Decl.{Decl}
use Rattle.go_ast.specs.declared.fault.Fault.{Fault}
use Rattle.go_ast.specs.declared.fault.Fault.TheVariants as faults
use Rattle.go_ast.specs.declared.token.Token.{Token}
use Rattle.go_ast.specs.declared.word.Word.{Word}
use Rattle.go_ast.specs.declared.word.Mark.{Mark}
use Rattle.go_ast.specs.declared.word.Mark.TheVariants as m
use Rattle.go_ast.specs.Chunks.{chunks, has_words}
use Rattle.go_ast.specs.Cutting.{depth_after, pieces, pieces_from}
use Rattle.go_ast.specs.Files as files
use Rattle.go_ast.specs.Files.{AreDecls, FileFault, IsBadChunk, all_words}
use Rattle.go_ast.specs.Marks.{same_mark, word_of, words_from, words_of}
use Rattle.go_ast.specs.Position.{line_of}
use Rattle.go_parser.specs.declared.chunk.Chunk.{Chunk}
use Rattle.go_parser.specs.ChunkFacts.{AreChunks, IsChunk}
use Rattle.go_parser.specs.Parsing.{IsBadAt, words_in}
use Rattle.go_parser.proofs.Bodies.{opening-is}
use Rattle.go_parser.proofs.DeclLists.{take-next, words-length}
use Rattle.go_parser.proofs.WordRanges.{range, some-words, from-count}

-- no more chunks than words
pieces-few : (mark : Mark) (depth : ℕ) (front ws : List Word)
    → length (filter has_words (pieces_from mark depth front ws)) ≤ length front + length ws
pieces-few mark depth [] [] = omega arith
pieces-few mark depth (v ∷ vs) [] = omega arith
pieces-few mark depth front (w ∷ ws) = go (depth == 0 && same_mark w.mark mark)
    (pieces-few mark 0 [] ws) (pieces-few mark (depth_after depth w.mark) (front ++ w ∷ []) ws)
  where
    kept : (us : List Word) (ps : List (List Word)) → length (filter has_words (us ∷ ps))
        ≤ length us + length (filter has_words ps)
    kept [] ps = omega arith
    kept (u ∷ us) ps = omega arith

    longer : (us : List Word) (v : Word) → length (us ++ v ∷ []) ≡ suc (length us)
    longer [] v = refl
    longer (u ∷ us) v = ap suc (longer us v)

    go : (t : Bool) → length (filter has_words (pieces_from mark 0 [] ws)) ≤ 0 + length ws
        → length (filter has_words (pieces_from mark (depth_after depth w.mark) (front ++ w ∷ [])
        ws))
        ≤ length (front ++ w ∷ []) + length ws
        → length (filter has_words (cond t (front ∷ pieces_from mark 0 [] ws)
        (pieces_from mark (depth_after depth w.mark) (front ++ w ∷ []) ws)))
        ≤ length front + suc (length ws)
    go true h k = let first = kept front (pieces_from mark 0 [] ws) in omega (arith, first, h)
    go false h k = let more = longer front w in omega (arith, more, k)

chunks-few : (ws : List Word) → length (chunks ws) ≤ length ws
unfolding chunks pieces
chunks-few ws =
    let all = pieces-few m.Semi 0 [] ws in
    let few : length (filter has_words (pieces_from m.Semi 0 [] ws)) ≤ length ws =
    omega (arith, all) in few

take-one : (ts : List Token) (a : ℕ) (d : Token) → a < length ts
    → take 1 (drop a ts) ≡ get_or ts a d ∷ []
take-one [] a d h = absurd (omega (arith, h))
take-one (t ∷ ts) zero d h = refl
take-one (t ∷ ts) (suc a) d h = take-one ts a d (omega (arith, h))

taken : {A : Type 0} (n : ℕ) (xs : List A) → n ≤ length xs → length (take n xs) ≡ n
taken zero xs h = refl
taken (suc n) [] h = absurd (omega (arith, h))
taken (suc n) (x ∷ xs) h = ap suc (taken n xs (omega (arith, h)))

cut-at : (n : ℕ) (cs : List (List Word)) (c : List Word) → take (suc n) cs ≡ take n cs ++ c ∷ []
    → cs ≡ take n cs ++ c ∷ drop (suc n) cs
cut-at n cs c e = sym (take-append-drop (suc n) cs)
    ∙ ap (λ us. us ++ drop (suc n) cs) e ∙ append_assoc (take n cs) (c ∷ []) (drop (suc n) cs)

module _ (source : List ℕ) (ts : List Token) where
  -- no more chunks than tokens
  pub chunk-count : (found : List Chunk) → AreChunks source ts found → length found ≤ length ts
  chunk-count found a =
      let same = words-length source ts found in
      let all = ap length a.same_words in
      let few = chunks-few (words_from source 0 ts) in
      let count = from-count source 0 ts in
      omega (arith, same, all, few, count)

  pub bad-place : (found : List Chunk) (at : ℕ) → IsBadAt source (words_in source ts found) at
      → at + 1 < length found
  bad-place [] at b = absurd b
  bad-place (c ∷ found) at b =
      let same = words-length source ts found in
      let place = b.1.0 in
      omega (arith, same, place)

  one-word : (a : ℕ) (d : Token) → a < length ts
      → words_of source ts (range a (a + 1)) ≡ word_of source a (get_or ts a d) ∷ []
  unfolding words_of
  one-word a d h =
      let one : (a + 1) - a ≡ 1 = omega arith in
      ap (λ n. words_from source a (take n (drop a ts))) one
      ∙ ap (words_from source a) (take-one ts a d h)

  -- the first word of a range is its first token
  pub first-word : (a b : ℕ) (w : Word) (ws : List Word) (d : Token) → a < b → b ≤ length ts
      → words_of source ts (range a b) ≡ w ∷ ws → w.span ≡ (get_or ts a d).span
  first-word a b w ws d h l e =
      let same = opening-is source ts a b (word_of source a (get_or ts a d)) w ws h l
      (one-word a d (omega (arith, h, l))) e in
      sym (ap (λ v. v.span) same)

  pub bad-chunk : (found : List Chunk) (at : ℕ) (cd : Chunk) (td : Token)
      → All (IsChunk source ts) found → IsBadAt source (words_in source ts found) at
      → (w : Word) × IsBadChunk source (words_in source ts found) (at + 2) w
      × (w.span ≡ (get_or ts (get_or found (at + 1) cd).tokens.first td).span)
  bad-chunk [] at cd td each b = absurd b
  bad-chunk (c ∷ found) at cd td each b =
      let cs = words_in source ts found in
      let place : at < length cs = b.1.0 in
      let same = words-length source ts found in
      let h : at < length found = omega (arith, place, same) in
      let chunk = get_or found at cd in
      let good = each (suc at) cd (omega (arith, h)) in
      let words = some-words source ts chunk.tokens.first chunk.tokens.after good.some good.within
      in
      let next = take-next source ts found at cd h
      ∙ ap (λ v. take at cs ++ v ∷ []) words.2 in
      let parts = cut-at at cs (words.0 ∷ words.1) next in
      let size : 2 + length (take at cs) ≡ at + 2 =
      omega (arith, taken at cs (omega (arith, place))) in
      let after : suc at ≡ at + 1 = omega arith in
      let bad = files.bad (take at cs) words.0 words.1 (drop (suc at) cs) b.1.1.0 b.0.1 b.1.1.1
      (λ more m. b.1.2 more (subst (λ us. AreDecls us more) (sym next) m)) in (
        words.0,
        subst (λ us. IsBadChunk source (words_of source ts c.tokens ∷ us) (at + 2) words.0)
            (sym parts)
            (subst (λ n. IsBadChunk source (words_of source ts c.tokens ∷ take at cs
            ++ (words.0 ∷ words.1) ∷ drop (suc at) cs) n words.0) size bad),
        first-word chunk.tokens.first chunk.tokens.after words.0 words.1 td good.some good.within
            words.2
            ∙ ap (λ n. (get_or ts (get_or (c ∷ found) n cd).tokens.first td).span) after,
      )

  -- the fault of a chunk that is no declaration in its place
  pub bad-fault : (found : List Chunk) (at line : ℕ) (cd : Chunk) (td : Token)
      → AreChunks source ts found → IsBadAt source (words_in source ts found) at
      → line ≡ line_of source (get_or ts (get_or found (at + 1) cd).tokens.first td).span.start
      → FileFault source ts (faults.BadDeclaration (at + 2) line)
  bad-fault found at line cd td a b e =
      let bad = bad-chunk found at cd td a.each b in (
        bad.0,
        a.nested,
        subst (λ us. IsBadChunk source us (at + 2) bad.0) a.same_words bad.1,
        ap (λ s. line_of source s.start) bad.2 ∙ sym e,
      )
