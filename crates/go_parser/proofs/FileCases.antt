-- Any tokens spell a file or have a fault.
use Rattle.std.proofs.Common.{◌≡◌, ◌∙◌, ap, sym, refl, subst, ℕ, ◌+◌, Bool, true, false, ◌&&◌, List}
use Rattle.std.proofs.Common.{[]}
use Rattle.std.proofs.Common.{◌∷◌, ◌++◌, length, filter, cond, append_assoc, append-nil, Option}
use Rattle.std.proofs.Common.{Some}
use Rattle.std.proofs.Common.{None, ◌⊎◌, inl, inr, ⊎_elim}
use Rattle.std.specs.List.{list_all, list_any}
use Rattle.go_ast.specs.declared.declaration.Decl.{Decl}
use Rattle.go_ast.specs.declared.declaration.File.{File}
use Rattle.go_ast.specs.declared.fault.Fault.{Fault}
use Rattle.go_ast.specs.declared.fault.Fault.TheVariants as faults
use Rattle.go_ast.specs.declared.token.Span.{Span}
use Rattle.go_ast.specs.declared.token.Token.{Token}
use Rattle.go_ast.specs.declared.word.Word.{Word}
use Rattle.go_ast.specs.declared.word.Mark.TheVariants as m
use Rattle.go_ast.specs.Chunks.{AreNested, chunks, has_words}
use Rattle.go_ast.specs.Cutting.{pieces}
use Rattle.go_ast.specs.Declarations.{IsDecl}
use Rattle.go_ast.specs.Files as files
use Rattle.go_ast.specs.Files.{AreDecls, FileFault, IsBadChunk, IsFile, LacksClause, SpellsFile}
use Rattle.go_ast.specs.Files.{all_words, file_of, is_import}
use Rattle.go_ast.specs.Position.{line_of}
use Rattle.go_parser.specs.Parsing.{IsInPlace, read_clause}
use Rattle.go_parser.proofs.BracketLaws.{nested-or-not}
use Rattle.go_parser.proofs.Clauses.{clause-lacks, clause-sound}
use Rattle.go_parser.proofs.Decisions.{decl-or-not}
use Rattle.go_parser.proofs.DeclLaws.{one-decl}
use Rattle.go_parser.proofs.DeclLists.{decls-add, decls-stop, is_other}

abbrev Place : Bool → List Word → Type 0
Place others ws = ((x : Decl) × IsInPlace others ws x) ⊎ ((x : Decl) → IsInPlace others ws x → ⊥)

place-or-not : (others : Bool) (ws : List Word) → Place others ws
place-or-not others ws = ⊎_elim
    (λ p. go others (is_import p.0) p.0 p.1 refl)
    (λ none. inr (λ x p. none x p.0)) (decl-or-not ws)
  where
    go : (t i : Bool) (x : Decl) → IsDecl ws x → is_import x ≡ i → Place t ws
    go false i x d e = inl (x, (d, λ f. absurd (cc f)))
    go true false x d e = inl (x, (d, λ f. e))
    go true true x d e = inr (λ y p.
        let same = one-decl ws y x p.0 d in
        let other = p.1 refl in
        absurd (cc (same, other, e)))

-- chunks are declarations, or one is the first that is none in its place
abbrev Outcome : List (List Word) → Type 0
Outcome cs = ((ds : List Decl) × AreDecls cs ds)
    ⊎ ((front : List (List Word)) × (w : Word) × (ws : List Word) × (rest : List (List Word))
    × (ds : List Decl) × (cs ≡ front ++ (w ∷ ws) ∷ rest) × AreDecls front ds
    × ((more : List Decl) → AreDecls (front ++ (w ∷ ws) ∷ []) more → ⊥))

outcome : (front cs : List (List Word)) (ds : List Decl) → AreDecls front ds
    → list_all has_words cs ≡ true → Outcome (front ++ cs)
outcome front [] ds a h = inl (ds, subst (λ us. AreDecls us ds) (sym (append-nil front)) a)
outcome front ([] ∷ cs) ds a h = absurd (cc h)
outcome front ((w ∷ ws) ∷ cs) ds a h = ⊎_elim
    (λ p. subst Outcome (append_assoc front ((w ∷ ws) ∷ []) cs)
    (outcome (front ++ (w ∷ ws) ∷ []) cs (ds ++ p.0 ∷ [])
    (decls-add front ds (w ∷ ws) p.0 a p.1) h))
    (λ none. inr (
      front,
      w,
      ws,
      cs,
      ds,
      refl,
      a,
      λ more b. decls-stop front ds (w ∷ ws) more a none b,
    ))
    (place-or-not (list_any is_other ds) (w ∷ ws))

all-kept : (ps : List (List Word)) → list_all has_words (filter has_words ps) ≡ true
all-kept [] = refl
all-kept ([] ∷ ps) = all-kept ps
all-kept ((w ∷ ws) ∷ ps) = all-kept ps

chunks-filled : (ws : List Word) → list_all has_words (chunks ws) ≡ true
unfolding chunks
chunks-filled ws = all-kept (pieces m.Semi ws)

abbrev Answer : List ℕ → List (List Word) → Type 0
Answer source cs = ((f : File) × IsFile source cs f)
    ⊎ (LacksClause source cs ⊎ ((n : ℕ) × (w : Word) × IsBadChunk source cs n w))

answer : (source : List ℕ) (cs : List (List Word)) → list_all has_words cs ≡ true
    → Answer source cs
answer source [] h = inr (inl tt)
answer source ([] ∷ cs) h = absurd (cc h)
answer source ((v ∷ vs) ∷ cs) h = go (read_clause source (v ∷ vs)) refl
  where
    go : (o : Option Span) → read_clause source (v ∷ vs) ≡ o → Answer source ((v ∷ vs) ∷ cs)
    go None e = inr (inl (clause-lacks source (v ∷ vs) cs e))
    go (Some name) e =
        let clause = clause-sound source (v ∷ vs) name e in
        ⊎_elim
        (λ p. inl (file_of name p.0, files.file clause p.1))
        (λ p. inr (inr (
          2 + length p.0,
          p.1,
          subst (λ us. IsBadChunk source ((v ∷ vs) ∷ us) (2 + length p.0) p.1) (sym p.5)
              (files.bad p.0 p.1 p.2 p.3 p.4 clause p.6 p.7),
        )))
        (outcome [] cs [] (tt, refl) h)

pub file-or-fault : (source : List ℕ) (tokens : List Token)
    → ((f : File) × SpellsFile source tokens f) ⊎ ((x : Fault) × FileFault source tokens x)
file-or-fault source tokens = ⊎_elim
    (λ nested. nested-case nested (answer source (chunks (all_words source tokens))
    (chunks-filled (all_words source tokens))))
    (λ p. inr (faults.Unbalanced p.0.span.start, (p.0, p.1, refl)))
    (nested-or-not (all_words source tokens))
  where
    nested-case : AreNested (all_words source tokens)
        → Answer source (chunks (all_words source tokens))
        → ((f : File) × SpellsFile source tokens f) ⊎ ((x : Fault) × FileFault source tokens x)
    nested-case nested a = ⊎_elim
        (λ p. inl (p.0, (nested, p.1)))
        (λ q. ⊎_elim
        (λ lacks. inr (faults.NoPackageClause, (nested, lacks)))
        (λ p. inr (
          faults.BadDeclaration p.0 (line_of source p.1.span.start),
          (p.1, nested, p.2, refl),
        )) q) a
