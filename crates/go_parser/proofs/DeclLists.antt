-- Declarations one after another.
use Rattle.std.proofs.Common.{◌≡◌, ◌∙◌, ap, sym, refl, subst, ℕ, zero, suc, ◌<◌, Bool, true, false}
use Rattle.std.proofs.Common.{not, ◌||◌, cond, List, [], ◌∷◌, ◌++◌, length, map, take, arith, ◌+◌}
use Rattle.std.proofs.Common.{◌≤◌, Option, Some, None, MatchOption, get_or, take_all}
use Rattle.std.specs.List.{list_any}
use Rattle.go_ast.specs.declared.declaration.Decl.{Decl}
use Rattle.go_ast.specs.declared.token.Token.{Token}
use Rattle.go_ast.specs.declared.word.Word.{Word}
use Rattle.go_ast.specs.Cutting.{Each}
use Rattle.go_ast.specs.Declarations.{IsDecl}
use Rattle.go_ast.specs.Files.{AreDecls, imports_come_first, is_import}
use Rattle.go_ast.specs.Marks.{words_of}
use Rattle.go_parser.specs.declared.chunk.Chunk.{Chunk}
use Rattle.go_parser.specs.declared.declarations.Declared.TheVariants as declared
use Rattle.go_parser.specs.Parsing.{IsDeclared, IsInPlace, words_in}
use Rattle.go_parser.proofs.DeclLaws.{one-decl}
use Rattle.go_parser.proofs.OneFile.{decls-one}
use Rattle.type_parser.proofs.GrammarLaws.{some-is}

abbrev pub is_other : Decl → Bool
is_other d = not (is_import d)

any-snoc : (p : Decl → Bool) (ds : List Decl) (d : Decl)
    → list_any p (ds ++ d ∷ []) ≡ (list_any p ds || p d)
any-snoc p [] d = or-false (p d)
  where
    or-false : (b : Bool) → (b || false) ≡ b
    or-false true = refl
    or-false false = refl
any-snoc p (e ∷ ds) d = go (p e) (any-snoc p ds d)
  where
    go : (b : Bool) → list_any p (ds ++ d ∷ []) ≡ (list_any p ds || p d)
        → (b || list_any p (ds ++ d ∷ [])) ≡ ((b || list_any p ds) || p d)
    go true h = refl
    go false h = h

abbrev Follows : List Decl → Decl → Type 0
Follows ds d = list_any is_other ds ≡ true → is_import d ≡ false

not-any : (b c : Bool) → not b ≡ true → c ≡ false → not (b || c) ≡ true
not-any true c e f = absurd (cc)
not-any false true e f = absurd (cc)
not-any false false e f = refl

imports-snoc : (ds : List Decl) (d : Decl) → imports_come_first ds ≡ true → Follows ds d
    → imports_come_first (ds ++ d ∷ []) ≡ true
imports-snoc [] d e f = go (is_import d)
  where
    go : (b : Bool) → cond b true true ≡ true
    go true = refl
    go false = refl
imports-snoc (c ∷ ds) d e f = go (is_import c) e f (imports-snoc ds d)
  where
    go : (b : Bool) → cond b (imports_come_first ds) (not (list_any is_import ds)) ≡ true
        → ((not b || list_any is_other ds) ≡ true → is_import d ≡ false)
        → (imports_come_first ds ≡ true → Follows ds d
        → imports_come_first (ds ++ d ∷ []) ≡ true)
        → cond b (imports_come_first (ds ++ d ∷ [])) (not (list_any is_import (ds ++ d ∷ [])))
        ≡ true
    go true e f ih = ih e f
    go false e f ih = ap not (any-snoc is_import ds d)
        ∙ not-any (list_any is_import ds) (is_import d) e (f refl)

both-none : (b c : Bool) → not (b || c) ≡ true → (not b ≡ true) × (c ≡ false)
both-none true c e = absurd (cc)
both-none false true e = absurd (cc)
both-none false false e = (refl, refl)

imports-unsnoc : (ds : List Decl) (d : Decl) → imports_come_first (ds ++ d ∷ []) ≡ true
    → (imports_come_first ds ≡ true) × Follows ds d
imports-unsnoc [] d e = (refl, λ f. absurd (cc f))
imports-unsnoc (c ∷ ds) d e = go (is_import c) e (imports-unsnoc ds d)
  where
    go : (b : Bool)
        → cond b (imports_come_first (ds ++ d ∷ [])) (not (list_any is_import (ds ++ d ∷ [])))
        ≡ true
        → (imports_come_first (ds ++ d ∷ []) ≡ true
        → (imports_come_first ds ≡ true) × Follows ds d)
        → (cond b (imports_come_first ds) (not (list_any is_import ds)) ≡ true)
        × ((not b || list_any is_other ds) ≡ true → is_import d ≡ false)
    go true e ih = ih e
    go false e ih =
        let parts = both-none (list_any is_import ds) (is_import d)
        (ap not (sym (any-snoc is_import ds d)) ∙ e) in
        (parts.0, λ f. parts.1)

each-snoc : (cs : List (List Word)) (ds : List Decl) (c : List Word) (d : Decl)
    → Each IsDecl cs ds → IsDecl c d → Each IsDecl (cs ++ c ∷ []) (ds ++ d ∷ [])
each-snoc [] [] c d a s = (s, tt)
each-snoc [] (e ∷ ds) c d a s = absurd a
each-snoc (b ∷ cs) [] c d a s = absurd a
each-snoc (b ∷ cs) (e ∷ ds) c d a s = (a.0, each-snoc cs ds c d a.1 s)

each-unsnoc : (cs : List (List Word)) (c : List Word) (es : List Decl)
    → Each IsDecl (cs ++ c ∷ []) es
    → (ds : List Decl) × (d : Decl) × (es ≡ ds ++ d ∷ []) × Each IsDecl cs ds × IsDecl c d
each-unsnoc [] c [] a = absurd a
each-unsnoc [] c (e ∷ []) a = ([], e, refl, tt, a.0)
each-unsnoc [] c (e ∷ f ∷ es) a = absurd a.1
each-unsnoc (b ∷ cs) c [] a = absurd a
each-unsnoc (b ∷ cs) c (e ∷ es) a =
    let rest = each-unsnoc cs c es a.1 in
    (e ∷ rest.0, rest.1, ap (λ ds. e ∷ ds) rest.2, (a.0, rest.3), rest.4)

-- one chunk more
pub decls-add : (cs : List (List Word)) (ds : List Decl) (c : List Word) (d : Decl)
    → AreDecls cs ds → IsInPlace (list_any is_other ds) c d
    → AreDecls (cs ++ c ∷ []) (ds ++ d ∷ [])
decls-add cs ds c d a p = (each-snoc cs ds c d a.0 p.0, imports-snoc ds d a.1 p.1)

-- a chunk that is no declaration in its place
pub decls-stop : (cs : List (List Word)) (ds : List Decl) (c : List Word) (more : List Decl)
    → AreDecls cs ds → ((d : Decl) → IsInPlace (list_any is_other ds) c d → ⊥)
    → AreDecls (cs ++ c ∷ []) more → ⊥
decls-stop cs ds c more a none b =
    let parts = each-unsnoc cs c more b.0 in
    let first = imports-unsnoc parts.0 parts.1
    (subst (λ es. imports_come_first es ≡ true) parts.2 b.1) in
    let same = decls-one cs parts.0 ds parts.3 a.0 in
    none parts.1 (parts.4, subst (λ es. Follows es parts.1) same first.1)

-- fewer chunks
pub decls-front : (cs : List (List Word)) (c : List Word) (more : List Decl)
    → AreDecls (cs ++ c ∷ []) more → (ds : List Decl) × AreDecls cs ds
decls-front cs c more b =
    let parts = each-unsnoc cs c more b.0 in
    let first = imports-unsnoc parts.0 parts.1
    (subst (λ es. imports_come_first es ≡ true) parts.2 b.1) in
    (parts.0, (parts.3, first.0))

-- whether a declaration that is no import is among them
pub others-add : (ds : List Decl) (d : Decl) (others : Bool) → others ≡ list_any is_other ds
    → (others || not (is_import d)) ≡ list_any is_other (ds ++ d ∷ [])
others-add ds d others e = rw e (sym (any-snoc is_other ds d))

pub words-length : (source : List ℕ) (ts : List Token) (chunks : List Chunk)
    → length (words_in source ts chunks) ≡ length chunks
words-length source ts [] = refl
words-length source ts (c ∷ chunks) = ap suc (words-length source ts chunks)

-- the words of one chunk more
pub take-next : (source : List ℕ) (ts : List Token) (chunks : List Chunk) (at : ℕ) (d : Chunk)
    → at < length chunks → take (suc at) (words_in source ts chunks)
    ≡ take at (words_in source ts chunks) ++ words_of source ts (get_or chunks at d).tokens ∷ []
take-next source ts [] at d h = absurd (omega (arith, h))
take-next source ts (c ∷ chunks) zero d h = refl
take-next source ts (c ∷ chunks) (suc at) d h =
    ap (λ us. words_of source ts c.tokens ∷ us)
    (take-next source ts chunks at d (omega (arith, h)))

pub all-taken : (source : List ℕ) (ts : List Token) (chunks : List Chunk) (at : ℕ)
    → length chunks ≤ at → take at (words_in source ts chunks) ≡ words_in source ts chunks
all-taken source ts chunks at h = let same = words-length source ts chunks in
    take_all at (words_in source ts chunks) (omega (arith, same, h))

abbrev Answer : Bool → List Word → Option Decl → Type 0
Answer others ws o = MatchOption o ((x : Decl) → IsInPlace others ws x → ⊥)
    (λ x. IsInPlace others ws x)

module _ (source : List ℕ) (ts : List Token) (chunks : List Chunk) (at : ℕ) (d : Chunk)
    (found : List Decl) (others : Bool) (some : at < length chunks)
    (far : AreDecls (take at (words_in source ts chunks)) found)
    (seen : others ≡ list_any is_other found) where
  -- a chunk that is none in its place
  pub place-stops : (o : Option Decl)
      → Answer others (words_of source ts (get_or chunks at d).tokens) o → o ≡ None
      → IsDeclared (words_in source ts chunks) (declared.Bad at)
  place-stops (Some x) a e = absurd (cc e)
  place-stops None a e =
      let ws = words_of source ts (get_or chunks at d).tokens in
      let same = words-length source ts chunks in
      let within : at < length (words_in source ts chunks) = omega (arith, same, some) in (
        within,
        (found, far),
        λ more b.
            decls-stop (take at (words_in source ts chunks)) found ws more far
            (λ x p. a x (subst (λ t. IsInPlace t ws x) (sym seen) p))
            (subst (λ us. AreDecls us more) (take-next source ts chunks at d some) b),
      )

  -- one that is
  pub place-adds : (o : Option Decl) (x : Decl)
      → Answer others (words_of source ts (get_or chunks at d).tokens) o → o ≡ Some x
      → AreDecls (take (at + 1) (words_in source ts chunks)) (found ++ x ∷ [])
  place-adds None x a e = absurd (cc e)
  place-adds (Some y) x a e =
      let ws = words_of source ts (get_or chunks at d).tokens in
      let same : y ≡ x = some-is y x e in
      let place = subst (λ z. IsInPlace others ws z) same a in
      let next : suc at ≡ at + 1 = omega arith in
      subst (λ n. AreDecls (take n (words_in source ts chunks)) (found ++ x ∷ [])) next
      (subst (λ us. AreDecls us (found ++ x ∷ [])) (sym (take-next source ts chunks at d some))
      (decls-add (take at (words_in source ts chunks)) found ws x far
      (subst (λ t. IsInPlace t ws x) seen place)))

-- an import where another declaration stands before
pub late-import : (ws : List Word) (others : Bool) (o : Option Decl) (d : Decl)
    → MatchOption o ((x : Decl) → IsDecl ws x → ⊥) (λ x. IsDecl ws x) → o ≡ Some d → others ≡ true
    → is_import d ≡ true → (x : Decl) → IsInPlace others ws x → ⊥
late-import ws others None d a e o i x p = absurd (cc e)
late-import ws others (Some y) d a e o i x p =
    let same : y ≡ d = some-is y d e in
    let one = one-decl ws x y p.0 a in
    let after = p.1 o in
    absurd (cc (after, i, same, one))
