-- What the crates above use in their proofs: tokens spell one file or have one fault, and never
-- both.
pub use Rattle.go_parser.proofs.BracketLaws.{nested-or-not}
pub use Rattle.go_parser.proofs.OneFile.{one-file}
pub use Rattle.go_parser.proofs.Decisions.{spelled_or_not}
pub use Rattle.go_parser.proofs.FileCases.{file-or-fault}
use Rattle.std.proofs.Common.{◌≡◌, ◌∙◌, ap, sym, refl, subst, ℕ, ◌+◌, List, [], ◌∷◌, ◌++◌, length}
use Rattle.std.proofs.Common.{append_assoc, append-nil, ◌⊎◌, inl, inr, ⊎_elim}
use Rattle.go_ast.specs.declared.declaration.Decl.{Decl}
use Rattle.go_ast.specs.declared.declaration.File.{File}
use Rattle.go_ast.specs.declared.fault.Fault.{Fault}
use Rattle.go_ast.specs.declared.fault.Fault.TheVariants as faults
use Rattle.go_ast.specs.declared.token.Token.{Token}
use Rattle.go_ast.specs.declared.word.Word.{Word}
use Rattle.go_ast.specs.Chunks.{chunks}
use Rattle.go_ast.specs.Files as files
use Rattle.go_ast.specs.Files.{AreDecls, FileFault, IsBadChunk, IsFile, LacksClause, SpellsFile}
use Rattle.go_ast.specs.Files.{all_words}
use Rattle.go_ast.specs.Position.{line_of}
use Rattle.go_parser.proofs.BracketLaws.{one-fault, not-both}
use Rattle.go_parser.proofs.DeclLists.{decls-front}

abbrev Chunks : Type 0
Chunks = List (List Word)

-- the first of chunks that are declarations are declarations
first-decls : (cs rest : Chunks) (ds : List Decl) → AreDecls (cs ++ rest) ds
    → (es : List Decl) × AreDecls cs es
first-decls cs [] ds a = (ds, subst (λ us. AreDecls us ds) (append-nil cs) a)
first-decls cs (c ∷ rest) ds a =
    let more = first-decls (cs ++ c ∷ []) rest ds
    (subst (λ us. AreDecls us ds) (sym (append_assoc cs (c ∷ []) rest)) a) in
    decls-front cs c more.0 more.1

-- two places of one list
abbrev Compares : Chunks → Chunks → List Word → List Word → Type 0
Compares f1 f2 c1 c2 = ((f1 ≡ f2) × (c1 ≡ c2))
    ⊎ (((mid : Chunks) × (f2 ≡ f1 ++ c1 ∷ mid)) ⊎ ((mid : Chunks) × (f1 ≡ f2 ++ c2 ∷ mid)))

compare : (f1 f2 : Chunks) (c1 c2 : List Word) (r1 r2 : Chunks)
    → f1 ++ c1 ∷ r1 ≡ f2 ++ c2 ∷ r2 → Compares f1 f2 c1 c2
compare [] [] c1 c2 r1 r2 e = inl (refl, cc)
compare [] (x ∷ f2) c1 c2 r1 r2 e = let same : c1 ≡ x = cc in inr (inl (f2, cc same))
compare (x ∷ f1) [] c1 c2 r1 r2 e = let same : x ≡ c2 = cc in inr (inr (f1, cc same))
compare (x ∷ f1) (y ∷ f2) c1 c2 r1 r2 e =
    let first : x ≡ y = cc in
    let others : f1 ++ c1 ∷ r1 ≡ f2 ++ c2 ∷ r2 = cc in
    ⊎_elim
    (λ p. inl (cc (first, p.0), p.1))
    (λ q. ⊎_elim
    (λ p. inr (inl (p.0, cc (first, p.1))))
    (λ p. inr (inr (p.0, cc (first, p.1)))) q)
    (compare f1 f2 c1 c2 r1 r2 others)

module _ (source : List ℕ) where
  bad-clause : (cs : Chunks) (n : ℕ) (w : Word) → IsBadChunk source cs n w → LacksClause source cs
      → ⊥
  bad-clause _ _ _ (files.bad front w ws rest {name} ds clause decls none) lacks = lacks name clause

  file-clause : (cs : Chunks) (f : File) → IsFile source cs f → LacksClause source cs → ⊥
  file-clause _ _ (files.file {name = name} clause decls) lacks = lacks name clause

  -- chunks before a bad one are declarations, and with it none
  stops-early : (front mid : Chunks) (c : List Word) (ds : List Decl)
      → AreDecls (front ++ c ∷ mid) ds
      → ((more : List Decl) → AreDecls (front ++ c ∷ []) more → ⊥) → ⊥
  stops-early front mid c ds a none =
      let first = first-decls (front ++ c ∷ []) mid ds
      (subst (λ us. AreDecls us ds) (sym (append_assoc front (c ∷ []) mid)) a) in
      none first.0 first.1

  file-bad : (cs us : Chunks) (f : File) (n : ℕ) (w : Word) → IsFile source cs f
      → IsBadChunk source us n w → cs ≡ us → ⊥
  file-bad _ _ _ _ _ (files.file {cs = cs} {ds = all} c1 a)
      (files.bad front w ws rest ds c2 decls none) e =
      let others : cs ≡ front ++ (w ∷ ws) ∷ rest = cc in
      stops-early front rest (w ∷ ws) all (subst (λ us. AreDecls us all) others a) none

  bad-once : (cs us : Chunks) (n k : ℕ) (w v : Word) → IsBadChunk source cs n w
      → IsBadChunk source us k v → cs ≡ us → (n ≡ k) × (w ≡ v)
  bad-once _ _ _ _ _ _ (files.bad front1 w1 ws1 rest1 ds1 c1 decls1 none1)
      (files.bad front2 w2 ws2 rest2 ds2 c2 decls2 none2) e =
      let others : front1 ++ (w1 ∷ ws1) ∷ rest1 ≡ front2 ++ (w2 ∷ ws2) ∷ rest2 = cc in
      ⊎_elim
      (λ p. let first : w1 ≡ w2 = cc p.1 in (ap (λ us. 2 + length us) p.0, first))
      (λ q. ⊎_elim
      (λ p. absurd (stops-early front1 p.0 (w1 ∷ ws1) ds2
      (subst (λ us. AreDecls us ds2) p.1 decls2) none1))
      (λ p. absurd (stops-early front2 p.0 (w2 ∷ ws2) ds1
      (subst (λ us. AreDecls us ds1) p.1 decls1) none2)) q)
      (compare front1 front2 (w1 ∷ ws1) (w2 ∷ ws2) rest1 rest2 others)

  -- tokens that spell a file have no fault
  pub file-not-fault : (tokens : List Token) (f : File) (x : Fault) → SpellsFile source tokens f
      → FileFault source tokens x → ⊥
  file-not-fault tokens f (faults.Unbalanced offset) s p =
      not-both (all_words source tokens) p.0 s.0 p.1
  file-not-fault tokens f faults.NoPackageClause s p =
      file-clause (chunks (all_words source tokens)) f s.1 p.1
  file-not-fault tokens f (faults.BadDeclaration number line) s p =
      file-bad (chunks (all_words source tokens)) (chunks (all_words source tokens)) f number p.0
      s.1 p.2 refl
  file-not-fault tokens f _ s p = absurd p

  -- and other tokens have one
  pub one-file-fault : (tokens : List Token) (x y : Fault) → FileFault source tokens x
      → FileFault source tokens y → x ≡ y
  one-file-fault tokens (faults.Unbalanced a) (faults.Unbalanced b) p q =
      let same = one-fault (all_words source tokens) p.0 q.0 p.1 q.1 in
      let there : a ≡ b = sym p.2 ∙ ap (λ w. w.span.start) same ∙ q.2 in
      ap faults.Unbalanced there
  one-file-fault tokens (faults.Unbalanced a) faults.NoPackageClause p q =
      absurd (not-both (all_words source tokens) p.0 q.0 p.1)
  one-file-fault tokens (faults.Unbalanced a) (faults.BadDeclaration n l) p q =
      absurd (not-both (all_words source tokens) p.0 q.1 p.1)
  one-file-fault tokens faults.NoPackageClause (faults.Unbalanced b) p q =
      absurd (not-both (all_words source tokens) q.0 p.0 q.1)
  one-file-fault tokens faults.NoPackageClause faults.NoPackageClause p q = refl
  one-file-fault tokens faults.NoPackageClause (faults.BadDeclaration n l) p q =
      absurd (bad-clause (chunks (all_words source tokens)) n q.0 q.2 p.1)
  one-file-fault tokens (faults.BadDeclaration n l) (faults.Unbalanced b) p q =
      absurd (not-both (all_words source tokens) q.0 p.1 q.1)
  one-file-fault tokens (faults.BadDeclaration n l) faults.NoPackageClause p q =
      absurd (bad-clause (chunks (all_words source tokens)) n p.0 p.2 q.1)
  one-file-fault tokens (faults.BadDeclaration n l) (faults.BadDeclaration k j) p q =
      let cs = chunks (all_words source tokens) in
      let same = bad-once cs cs n k p.0 q.0 p.2 q.2 refl in
      let line : l ≡ j = sym p.3 ∙ ap (λ w. line_of source w.span.start) same.1 ∙ q.3 in
      cc (same.0, line)
  one-file-fault tokens (faults.Unbalanced a) _ p q = absurd q
  one-file-fault tokens faults.NoPackageClause _ p q = absurd q
  one-file-fault tokens (faults.BadDeclaration n l) _ p q = absurd q
  one-file-fault tokens _ _ p q = absurd p
