-- Groups and imports: what is read is spelled so, and what is spelled so is read.
use Rattle.std.proofs.Common.{◌≡◌, ◌≢◌, refl, subst, true, false, List, [], ◌∷◌}
use Rattle.std.proofs.Common.{cond, Option, Some, None, ⊎_elim}
use Rattle.go_ast.specs.declared.declaration.Group.{Group}
use Rattle.go_ast.specs.declared.declaration.ImportName.TheVariants as locals
use Rattle.go_ast.specs.declared.declaration.ImportSpec.{ImportSpec}
use Rattle.go_ast.specs.declared.word.Word.{Word}
use Rattle.go_ast.specs.declared.word.Mark.{Mark}
use Rattle.go_ast.specs.declared.word.Mark.TheVariants as m
use Rattle.go_ast.specs.Cutting.{pieces, range_of}
use Rattle.go_ast.specs.Declarations as g
use Rattle.go_ast.specs.Declarations.{IsGroup, IsImportSpec, group, import_spec}
use Rattle.go_ast.specs.Marks.{same_mark}
use Rattle.go_parser.specs.Reading.{specs_in, read_group, read_import_spec}
use Rattle.type_parser.specs.Reading.{◌>>=◌, ◌<$>◌, alone}
use Rattle.type_parser.proofs.GrammarLaws.{marks_are, marks_same, marks_differ, some-is}
use Rattle.type_parser.proofs.GrammarLaws.{alone-sound, opens-with, alone-complete}
use Rattle.type_parser.proofs.GrammarLaws.{bind_some, map_some, guard_some, choice, each-sound}
use Rattle.type_parser.proofs.GrammarLaws.{each-complete}

module _ {A : Type 0} (read : List Word → Option A) (S : List Word → A → Type 0) where
  -- no spec is empty, or begins with a parenthesis
  pub record StandsAlone : Type 0 where
    pub nothing : read [] ≡ None
    pub no_paren : (w : Word) (ws : List Word) (x : A) → read (w ∷ ws) ≡ Some x
        → w.mark ≢ m.OpenParen

  pub group-sound : ((ws : List Word) (x : A) → read ws ≡ Some x → S ws x) → (keyword : Mark)
      (word : Word) (ws : List Word) (x : Group A) → word.mark ≡ keyword
      → read_group read (range_of word ws) ws ≡ Some x → IsGroup S keyword (word ∷ ws) x
  unfolding read_group specs_in
  group-sound h keyword word [] x is e = absurd (cc)
  group-sound h keyword word (w ∷ ws) x is e = ⊎_elim
      (λ p. let all = map_some (group (range_of word (w ∷ ws)) true)
      (alone m.CloseParen ws >>= specs_in read) x p.1 in
      let inner = bind_some (alone m.CloseParen ws) (specs_in read) all.0 all.1 in
      subst (IsGroup S keyword (word ∷ w ∷ ws)) all.2
      (g.listed word is
      (alone-sound m.OpenParen m.CloseParen w ws inner.0 (marks_are w.mark m.OpenParen p.0) inner.1)
      (each-sound read S h (pieces m.Semi inner.0) all.0 inner.2)))
      (λ p. let one = map_some (λ spec. group (range_of word (w ∷ ws)) false (spec ∷ []))
      (read (w ∷ ws)) x p.1 in
      subst (IsGroup S keyword (word ∷ w ∷ ws)) one.2
      (g.single word is (h (w ∷ ws) one.0 one.1)))
      (choice (same_mark w.mark m.OpenParen)
      (group (range_of word (w ∷ ws)) true <$> (alone m.CloseParen ws >>= specs_in read))
      ((λ spec. group (range_of word (w ∷ ws)) false (spec ∷ [])) <$> read (w ∷ ws)) (Some x) e)

  pub group-complete : ((ws : List Word) (x : A) → S ws x → read ws ≡ Some x) → StandsAlone
      → (keyword : Mark) (word : Word) (ws : List Word) (x : Group A)
      → IsGroup S keyword (word ∷ ws) x → read_group read (range_of word ws) ws ≡ Some x
  unfolding read_group specs_in
  group-complete h a keyword _ _ _ (g.single word {ws = []} {spec} is s) =
      absurd (cc (h [] spec s, a.nothing))
  group-complete h a keyword _ _ _ (g.single word {ws = w ∷ ws} {spec} is s) =
      rw (
        marks_differ w.mark m.OpenParen (a.no_paren w ws spec (h (w ∷ ws) spec s)),
        h (w ∷ ws) spec s,
      ) refl
  group-complete h a keyword _ _ _ (g.listed word {ws} {inner} {specs} is brackets s) =
      let begun = opens-with m.OpenParen m.CloseParen ws inner [] refl brackets in
      rw (
        begun.2,
        marks_same begun.0.mark m.OpenParen begun.3,
        alone-complete m.CloseParen begun.1 inner begun.4,
        each-complete read S h (pieces m.Semi inner) specs s,
      ) refl

pub import-sound : (ws : List Word) (x : ImportSpec) → read_import_spec ws ≡ Some x
    → IsImportSpec ws x
unfolding read_import_spec
import-sound [] x e = absurd (cc)
import-sound (path ∷ []) x e =
    let test = guard_some (same_mark path.mark m.Text)
    (Some (import_spec (range_of path []) locals.Plain path.span)) x e in
    subst (IsImportSpec (path ∷ [])) (some-is _ x test.1)
    (g.plain path (marks_are path.mark m.Text test.0))
import-sound (w ∷ path ∷ []) x e =
    let tokens = range_of w (path ∷ []) in
    let named = Some (import_spec tokens (locals.Named w.span) path.span) in
    let test = guard_some (same_mark path.mark m.Text)
    (cond (same_mark w.mark m.Dot) (Some (import_spec tokens locals.Dot path.span))
    (cond (same_mark w.mark m.Ident) named None)) x e in
    let text = marks_are path.mark m.Text test.0 in
    ⊎_elim
    (λ p. subst (IsImportSpec (w ∷ path ∷ [])) (some-is _ x p.1)
    (g.dot w path (marks_are w.mark m.Dot p.0) text))
    (λ p. let name = guard_some (same_mark w.mark m.Ident) named x p.1 in
    subst (IsImportSpec (w ∷ path ∷ [])) (some-is _ x name.1)
    (g.named w path (marks_are w.mark m.Ident name.0) text))
    (choice (same_mark w.mark m.Dot) (Some (import_spec tokens locals.Dot path.span))
    (cond (same_mark w.mark m.Ident) named None) (Some x) test.1)
import-sound (w ∷ v ∷ u ∷ us) x e = absurd (cc)

pub import-complete : (ws : List Word) (x : ImportSpec) → IsImportSpec ws x
    → read_import_spec ws ≡ Some x
unfolding read_import_spec
import-complete _ _ (g.plain path is) = rw (marks_same path.mark m.Text is) refl
import-complete _ _ (g.dot point path is text) =
    rw (marks_same path.mark m.Text text, marks_same point.mark m.Dot is) refl
import-complete _ _ (g.named name path is text) =
    rw (
      marks_same path.mark m.Text text,
      marks_differ name.mark m.Dot (λ e. absurd (cc (is, e))),
      marks_same name.mark m.Ident is,
    ) refl

pub import-alone : StandsAlone read_import_spec IsImportSpec
unfolding read_import_spec
import-alone = record {
  nothing = refl;
  no_paren = λ w ws x e. no-paren w ws x (import-sound _ x e);
}
  where
    no-paren : (w : Word) (ws : List Word) (x : ImportSpec) → IsImportSpec (w ∷ ws) x
        → w.mark ≢ m.OpenParen
    no-paren _ _ _ (g.plain path is) other = absurd (cc (is, other))
    no-paren _ _ _ (g.dot point path is text) other = absurd (cc (is, other))
    no-paren _ _ _ (g.named name path is text) other = absurd (cc (is, other))
