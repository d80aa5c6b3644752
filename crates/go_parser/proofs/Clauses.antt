-- Package clauses: what is read is spelled so, and what is spelled so is read.
use Rattle.std.proofs.Common.{◌≡◌, ◌≢◌, ◌∙◌, ap, sym, refl, subst, ℕ, suc, ◌+◌, ◌-◌, ◌<◌, ◌≤◌, Bool}
use Rattle.std.proofs.Common.{true, false, ◌&&◌, not, List, [], ◌∷◌, ◌++◌, length, Option, Some}
use Rattle.std.proofs.Common.{None}
use Rattle.std.proofs.Common.{arith, codes}
use Rattle.std.specs.Str.{bytes_eq}
use Rattle.go_ast.specs.declared.token.Span.{Span}
use Rattle.go_ast.specs.declared.token.Token.{Token}
use Rattle.go_ast.specs.declared.word.Word.{Word}
use Rattle.go_ast.specs.declared.word.Mark.TheVariants as m
use Rattle.go_ast.specs.Files as files
use Rattle.go_ast.specs.Files.{IsPackageClause, LacksClause}
use Rattle.go_ast.specs.Marks.{same_mark, text_of, words_of}
use Rattle.go_parser.specs.Parsing.{read_clause}
use Rattle.go_parser.proofs.WordRanges.{range, words-count, words-split}
use Rattle.type_parser.proofs.GrammarLaws.{guard_some, marks_are, marks_same, some-is}

and-three : (a b c : Bool) → (a && b && c) ≡ true → (a ≡ true) × (b ≡ true) × (c ≡ true)
and-three true true c e = (refl, refl, e)
and-three true false c e = absurd (cc)
and-three false b c e = absurd (cc)

not-true : (b : Bool) → not b ≡ true → b ≡ false
not-true true e = absurd (cc)
not-true false e = refl

pub clause-sound : (source : List ℕ) (ws : List Word) (name : Span)
    → read_clause source ws ≡ Some name → IsPackageClause source ws name
clause-sound source [] name e = absurd (cc)
clause-sound source (w ∷ []) name e = absurd (cc)
clause-sound source (w ∷ v ∷ []) name e =
    let test = guard_some (same_mark w.mark m.Package && same_mark v.mark m.Ident
    && not (bytes_eq (text_of source v.span) (codes "_"))) (Some v.span) name e in
    let all = and-three (same_mark w.mark m.Package) (same_mark v.mark m.Ident)
    (not (bytes_eq (text_of source v.span) (codes "_"))) test.0 in
    subst (IsPackageClause source (w ∷ v ∷ [])) (some-is v.span name test.1)
    (files.names_package w v (marks_are w.mark m.Package all.0) (marks_are v.mark m.Ident all.1)
    (not-true (bytes_eq (text_of source v.span) (codes "_")) all.2))
clause-sound source (w ∷ v ∷ u ∷ us) name e = absurd (cc)

pub clause-complete : (source : List ℕ) (ws : List Word) (name : Span)
    → IsPackageClause source ws name → read_clause source ws ≡ Some name
clause-complete source _ _ (files.names_package word name is is_name some) =
    rw (marks_same word.mark m.Package is, marks_same name.mark m.Ident is_name, some) refl

pub clause-lacks : (source : List ℕ) (ws : List Word) (cs : List (List Word))
    → read_clause source ws ≡ None → LacksClause source (ws ∷ cs)
clause-lacks source ws cs e = λ name c. absurd (cc (e, clause-complete source ws name c))

not-two : (source : List ℕ) (ws : List Word) → (length ws ≡ 2 → ⊥) → read_clause source ws ≡ None
not-two source [] h = refl
not-two source (w ∷ []) h = refl
not-two source (w ∷ v ∷ []) h = absurd (h refl)
not-two source (w ∷ v ∷ u ∷ us) h = refl

-- a chunk that hasn't two tokens
pub other-size : (source : List ℕ) (ts : List Token) (a b : ℕ) → a ≤ b → b ≤ length ts
    → (b - a ≡ 2 → ⊥) → read_clause source (words_of source ts (range a b)) ≡ None
other-size source ts a b h l k = not-two source (words_of source ts (range a b))
    (λ e. k (sym (words-count source ts a b h l) ∙ e))

-- one that has
pub two-words : (source : List ℕ) (ts : List Token) (a b : ℕ) (w v : Word) → a ≤ b → b ≤ length ts
    → b - a ≡ 2 → words_of source ts (range a (a + 1)) ≡ w ∷ []
    → words_of source ts (range (a + 1) ((a + 1) + 1)) ≡ v ∷ []
    → words_of source ts (range a b) ≡ w ∷ v ∷ []
two-words source ts a b w v h l k first second =
    let after : (a + 1) + 1 ≡ b = omega (arith, h, k) in
    words-split source ts a (a + 1) b (omega arith) (omega (arith, h, k)) l
    ∙ ap (λ us. us ++ words_of source ts (range (a + 1) b)) first
    ∙ ap (λ us. w ∷ us) (ap (λ n. words_of source ts (range (a + 1) n)) (sym after) ∙ second)
