-- Whether words declare something, and tokens spell a file.
use Rattle.std.proofs.Common.{◌≡◌, ◌∙◌, ap, sym, refl, subst, ℕ, zero, suc, Bool, true, false, List}
use Rattle.std.proofs.Common.{[], ◌∷◌, ◌++◌, length, drop, get_or, Option, Some, None, arith, codes}
use Rattle.std.proofs.Common.{◌⊎◌, ⊎_elim, inl, inr}
use Rattle.std.specs.Str.{bytes_eq}
use Rattle.go_ast.specs.declared.declaration.Decl.{Decl}
use Rattle.go_ast.specs.declared.declaration.File.{File}
use Rattle.go_ast.specs.declared.token.Span.{Span}
use Rattle.go_ast.specs.declared.token.Token.{Token}
use Rattle.go_ast.specs.declared.token.TokenRange.{TokenRange}
use Rattle.go_ast.specs.declared.word.Word.{Word}
use Rattle.go_ast.specs.declared.word.Mark.{Mark}
use Rattle.go_ast.specs.declared.word.Mark.TheVariants as m
use Rattle.go_ast.specs.Chunks.{chunks}
use Rattle.go_ast.specs.Cutting.{Each, Nests, depth_after, range_of}
use Rattle.go_ast.specs.Declarations as g
use Rattle.go_ast.specs.Declarations.{EndsInBody, IsDecl, Precedes, takes_braces}
use Rattle.go_ast.specs.Files as files
use Rattle.go_ast.specs.Files.{AreDecls, IsFile, IsPackageClause, SpellsFile, all_words, file_of}
use Rattle.go_ast.specs.Files.{imports_come_first}
use Rattle.go_ast.specs.Marks.{closes, same_mark, text_of}
use Rattle.go_parser.specs.Reading.{read_decl}
use Rattle.go_parser.proofs.BracketLaws.{nested-or-not, not-both}
use Rattle.go_parser.proofs.DeclLaws.{decl-complete, decl-sound, snoc-same}
use Rattle.go_parser.proofs.OneFile.{decls-one}
use Rattle.type_parser.proofs.GrammarLaws.{differ_marks, marks_are}

both : {A B : Type 0} → A ⊎ (A → ⊥) → B ⊎ (B → ⊥) → (A × B) ⊎ (A × B → ⊥)
both (inl a) (inl b) = inl (a, b)
both (inl a) (inr n) = inr (λ p. n p.1)
both (inr n) b = inr (λ p. n p.0)

false-or-not : (b : Bool) → (b ≡ false) ⊎ (b ≡ false → ⊥)
false-or-not true = inr (λ e. absurd (cc e))
false-or-not false = inl refl

mark-or-not : (a b : Mark) → (a ≡ b) ⊎ (a ≡ b → ⊥)
mark-or-not a b = go (same_mark a b) refl
  where
    go : (t : Bool) → same_mark a b ≡ t → (a ≡ b) ⊎ (a ≡ b → ⊥)
    go true h = inl (marks_are a b h)
    go false h = inr (differ_marks a b h)

-- whether words nest
passes : (depth : ℕ) (b : Bool) → (depth ≡ 0 → b ≡ false) ⊎ ((depth ≡ 0 → b ≡ false) → ⊥)
passes zero true = inr (λ h. absurd (cc (h refl)))
passes zero false = inl (λ e. refl)
passes (suc depth) b = inl (λ e. absurd (omega (arith, e)))

nests-or-not : (depth : ℕ) (ws : List Word) → Nests depth ws ⊎ (Nests depth ws → ⊥)
nests-or-not zero [] = inl refl
nests-or-not (suc depth) [] = inr (λ e. absurd (omega (arith, e)))
nests-or-not depth (w ∷ ws) =
    both (passes depth (closes w.mark)) (nests-or-not (depth_after depth w.mark) ws)

-- the last of some words
last-split : (w : Word) (ws : List Word)
    → (inner : List Word) × (c : Word) × (w ∷ ws ≡ inner ++ c ∷ [])
last-split w [] = ([], w, refl)
last-split w (v ∷ vs) =
    let more = last-split v vs in
    (w ∷ more.0, more.1, ap (λ us. w ∷ us) more.2)

-- the braces of a body after a word, and what they enclose, are all words
abbrev Braces : Word → List Word → Type 0
Braces before ws = (o : Word) × (inner : List Word) × (c : Word) × (ws ≡ o ∷ inner ++ c ∷ [])
    × (takes_braces before ≡ false) × (o.mark ≡ m.OpenBrace) × (c.mark ≡ m.CloseBrace)
    × Nests 0 inner

nothing-left : (inner : List Word) (c : Word) → [] ≡ inner ++ c ∷ [] → ⊥
nothing-left [] c e = absurd (cc e)
nothing-left (w ∷ inner) c e = absurd (cc e)

braces-or-not : (before : Word) (ws : List Word) → Braces before ws ⊎ (Braces before ws → ⊥)
braces-or-not before [] = inr (λ b. absurd (cc b.3))
braces-or-not before (o ∷ []) = inr (λ b. nothing-left b.1 b.2 (ap (drop 1) b.3))
braces-or-not before (o ∷ u ∷ us) = ⊎_elim
    (λ p. inl (o, last.0, last.1, ap (λ vs. o ∷ vs) last.2, p.0, p.1.0, p.1.1.0, p.1.1.1))
    (λ n. inr (λ b.
    let first : o ≡ b.0 = ap (λ vs. get_or vs 0 o) b.3 in
    let same = snoc-same last.0 b.1 last.1 b.2 (sym last.2 ∙ ap (drop 1) b.3) in
    n (
      b.4,
      (
        ap (λ v. v.mark) first ∙ b.5,
        (
          ap (λ v. v.mark) same.1 ∙ b.6,
          subst (Nests 0) (sym same.0) b.7,
        ),
      ),
    )))
    (both (false-or-not (takes_braces before)) (both (mark-or-not o.mark m.OpenBrace)
    (both (mark-or-not last.1.mark m.CloseBrace) (nests-or-not 0 last.0))))
  where
    last : (inner : List Word) × (c : Word) × (u ∷ us ≡ inner ++ c ∷ [])
    last = last-split u us

-- whether words end in a body
abbrev HaveBody : List Word → Type 0
HaveBody ws = (front : List Word) × (tokens : TokenRange) × EndsInBody ws front tokens

not-empty : (us front : List Word) (tokens : TokenRange) → EndsInBody us front tokens → us ≡ [] → ⊥
not-empty _ _ _ (g.braces [] before o inner c t p q n) e = absurd (cc e)
not-empty _ _ _ (g.braces (x ∷ front) before o inner c t p q n) e = absurd (cc e)

longer : (w : Word) (us front : List Word) (tokens : TokenRange) → EndsInBody us front tokens
    → EndsInBody (w ∷ us) (w ∷ front) tokens
longer w _ _ _ (g.braces front before o inner c t p q n) =
    g.braces (w ∷ front) before o inner c t p q n

at-once : (w : Word) (ws : List Word) → Braces w ws → HaveBody (w ∷ ws)
at-once w ws b = (
  w ∷ [],
  range_of b.0 (b.1 ++ b.2 ∷ []),
  subst (λ us. EndsInBody us (w ∷ []) (range_of b.0 (b.1 ++ b.2 ∷ [])))
      (sym (ap (λ us. w ∷ us) b.3)) (g.braces [] w b.0 b.1 b.2 b.4 b.5 b.6 b.7),
)

neither : (w : Word) (ws us front : List Word) (tokens : TokenRange) → EndsInBody us front tokens
    → us ≡ w ∷ ws → (Braces w ws → ⊥) → (HaveBody ws → ⊥) → ⊥
neither w ws _ _ _ (g.braces [] before o inner c t p q n) e here there =
    let first : before ≡ w = ap (λ us. get_or us 0 w) e in
    here (o, inner, c, sym (ap (drop 1) e), ap takes_braces (sym first) ∙ t, p, q, n)
neither w ws _ _ _ (g.braces (x ∷ front) before o inner c t p q n) e here there =
    there (
      front ++ before ∷ [],
      range_of o (inner ++ c ∷ []),
      subst (λ us. EndsInBody us (front ++ before ∷ []) (range_of o (inner ++ c ∷ [])))
          (ap (drop 1) e) (g.braces front before o inner c t p q n),
    )

body-or-not : (ws : List Word) → HaveBody ws ⊎ (HaveBody ws → ⊥)
body-or-not [] = inr (λ b. not-empty [] b.0 b.1 b.2 refl)
body-or-not (w ∷ ws) = ⊎_elim (λ b. inl (at-once w ws b))
    (λ here. ⊎_elim (λ b. inl (w ∷ b.0, b.1, longer w ws b.0 b.1 b.2))
    (λ there. inr (λ b. neither w ws (w ∷ ws) b.0 b.1 b.2 refl here there)) (body-or-not ws))
    (braces-or-not w ws)

pub precedes-of : (ws : List Word)
    → (front : List Word) × (body : Option TokenRange) × Precedes ws front body
precedes-of ws = ⊎_elim (λ b. (b.0, Some b.1, g.with_body b.2))
    (λ n. (ws, None, g.without_body (λ front tokens b. n (front, tokens, b)))) (body-or-not ws)

-- whether words are a declaration
pub decl-or-not : (ws : List Word) → ((x : Decl) × IsDecl ws x) ⊎ ((x : Decl) → IsDecl ws x → ⊥)
unfolding read_decl
decl-or-not ws = go ws (precedes-of ws).0 (precedes-of ws).1 (precedes-of ws).2
    (read_decl ws (precedes-of ws).0 (precedes-of ws).1) refl
  where
    go : (us front : List Word) (body : Option TokenRange) → Precedes us front body
        → (o : Option Decl) → read_decl us front body ≡ o
        → ((x : Decl) × IsDecl us x) ⊎ ((x : Decl) → IsDecl us x → ⊥)
    go us front body p None e = inr (λ x d. absurd (cc (e, decl-complete us front body x p d)))
    go [] front body p (Some x) e = absurd (cc e)
    go (w ∷ us) front body p (Some x) e = inl (x, decl-sound w us front body x (λ is. p) e)

-- whether chunks are declarations, in their places
not-first : (c : List Word) (cs : List (List Word)) → ((x : Decl) → IsDecl c x → ⊥)
    → (ds : List Decl) → Each IsDecl (c ∷ cs) ds → ⊥
not-first c cs n [] a = absurd a
not-first c cs n (d ∷ ds) a = n d a.0

not-rest : (c : List Word) (cs : List (List Word)) → ((ds : List Decl) → Each IsDecl cs ds → ⊥)
    → (ds : List Decl) → Each IsDecl (c ∷ cs) ds → ⊥
not-rest c cs n [] a = absurd a
not-rest c cs n (d ∷ ds) a = n ds a.1

each-or-not : (cs : List (List Word))
    → ((ds : List Decl) × Each IsDecl cs ds) ⊎ ((ds : List Decl) → Each IsDecl cs ds → ⊥)
each-or-not [] = inl ([], tt)
each-or-not (c ∷ cs) = ⊎_elim
    (λ d. ⊎_elim (λ r. inl (d.0 ∷ r.0, (d.1, r.1))) (λ n. inr (not-rest c cs n)) (each-or-not cs))
    (λ n. inr (not-first c cs n)) (decl-or-not c)

decls-or-not : (cs : List (List Word))
    → ((ds : List Decl) × AreDecls cs ds) ⊎ ((ds : List Decl) → AreDecls cs ds → ⊥)
decls-or-not cs = ⊎_elim (λ d. go d.0 d.1 (imports_come_first d.0) refl)
    (λ n. inr (λ ds a. n ds a.0)) (each-or-not cs)
  where
    go : (ds : List Decl) → Each IsDecl cs ds → (b : Bool) → imports_come_first ds ≡ b
        → ((es : List Decl) × AreDecls cs es) ⊎ ((es : List Decl) → AreDecls cs es → ⊥)
    go ds each true is = inl (ds, (each, is))
    go ds each false is = inr (λ es a.
        absurd (cc (ap imports_come_first (decls-one cs ds es each a.0), is, a.1)))

-- whether words are a package clause
two-words : (source : List ℕ) (ws : List Word) (name : Span) → IsPackageClause source ws name
    → length ws ≡ 2
two-words source _ _ (files.names_package word name a b c) = refl

abbrev Names : List ℕ → Word → Word → Type 0
Names source w v = (w.mark ≡ m.Package) × ((v.mark ≡ m.Ident)
    × (bytes_eq (text_of source v.span) (codes "_") ≡ false))

names-it : (source : List ℕ) (w v : Word) (ws : List Word) (name : Span)
    → IsPackageClause source ws name → ws ≡ w ∷ v ∷ [] → Names source w v
names-it source w v _ _ (files.names_package word name a b c) e =
    let first : word ≡ w = ap (λ us. get_or us 0 w) e in
    let second : name ≡ v = ap (λ us. get_or us 1 v) e in (
      ap (λ u. u.mark) (sym first) ∙ a,
      (
        ap (λ u. u.mark) (sym second) ∙ b,
        ap (λ u. bytes_eq (text_of source u.span) (codes "_")) (sym second) ∙ c,
      ),
    )

clause-or-not : (source : List ℕ) (ws : List Word)
    → ((name : Span) × IsPackageClause source ws name)
    ⊎ ((name : Span) → IsPackageClause source ws name → ⊥)
clause-or-not source [] = inr (λ name c.
    let two = two-words source [] name c in absurd (omega (arith, two)))
clause-or-not source (w ∷ []) = inr (λ name c.
    let two = two-words source (w ∷ []) name c in absurd (omega (arith, two)))
clause-or-not source (w ∷ v ∷ []) = ⊎_elim
    (λ p. inl (v.span, files.names_package w v p.0 p.1.0 p.1.1))
    (λ n. inr (λ name c. n (names-it source w v (w ∷ v ∷ []) name c refl)))
    (both (mark-or-not w.mark m.Package) (both (mark-or-not v.mark m.Ident)
    (false-or-not (bytes_eq (text_of source v.span) (codes "_")))))
clause-or-not source (w ∷ v ∷ u ∷ us) = inr (λ name c.
    let two = two-words source (w ∷ v ∷ u ∷ us) name c in absurd (omega (arith, two)))

-- whether chunks are a file
no-clause : (source : List ℕ) (c : List Word) (cs : List (List Word))
    → ((name : Span) → IsPackageClause source c name → ⊥) → (x : File)
    → IsFile source (c ∷ cs) x → ⊥
no-clause source c cs n _ (files.file {name} a b) = n name a

no-decls : (source : List ℕ) (c : List Word) (cs : List (List Word))
    → ((ds : List Decl) → AreDecls cs ds → ⊥) → (x : File) → IsFile source (c ∷ cs) x → ⊥
no-decls source c cs n _ (files.file {ds} a b) = n ds b

file-or-not : (source : List ℕ) (cs : List (List Word))
    → ((x : File) × IsFile source cs x) ⊎ ((x : File) → IsFile source cs x → ⊥)
file-or-not source [] = inr (λ x s. elim s [ ])
file-or-not source (c ∷ cs) = ⊎_elim
    (λ a. ⊎_elim (λ b. inl (file_of a.0 b.0, files.file a.1 b.1))
    (λ n. inr (no-decls source c cs n)) (decls-or-not cs))
    (λ n. inr (no-clause source c cs n)) (clause-or-not source c)

-- the tokens of a source spell a file, or none
pub spelled_or_not : (source : List ℕ) (tokens : List Token)
    → ((x : File) × SpellsFile source tokens x) ⊎ ((x : File) → SpellsFile source tokens x → ⊥)
spelled_or_not source tokens = ⊎_elim
    (λ nests. ⊎_elim (λ s. inl (s.0, (nests, s.1))) (λ n. inr (λ x s. n x s.1))
    (file-or-not source (chunks (all_words source tokens))))
    (λ u. inr (λ x s. not-both (all_words source tokens) u.0 s.0 u.1))
    (nested-or-not (all_words source tokens))
