-- Type declarations: what is read is spelled so, and what is spelled so is read.
use Rattle.std.proofs.Common.{◌≡◌, ◌≢◌, refl, subst, ℕ, zero, suc, Bool, true, false}
use Rattle.std.proofs.Common.{List, [], ◌∷◌, Option, Some, None, ⊎_elim}
use Rattle.go_ast.specs.declared.declaration.TypeParam.{TypeParam}
use Rattle.go_ast.specs.declared.declaration.TypeSpec.{TypeSpec}
use Rattle.go_ast.specs.declared.token.Span.{Span}
use Rattle.go_ast.specs.declared.token.TokenRange.{TokenRange}
use Rattle.go_ast.specs.declared.tree.TheConstants.{MAX_TYPE_LEVELS}
use Rattle.go_ast.specs.declared.tree.TypeExpr.{TypeExpr}
use Rattle.go_ast.specs.declared.word.Word.{Word}
use Rattle.go_ast.specs.declared.word.Mark.TheVariants as m
use Rattle.go_ast.specs.Cutting.{Encloses, range_of}
use Rattle.go_ast.specs.Declarations as g
use Rattle.go_ast.specs.Declarations.{BeginWithParams, IsDeclaredType, IsTypeSpec, type_spec}
use Rattle.go_ast.specs.Marks.{same_mark}
use Rattle.go_ast.specs.TypeParameters.{AreTypeParams}
use Rattle.go_parser.specs.Reading.{params_of, read_declared_type, read_leading_params}
use Rattle.go_parser.specs.Reading.{read_named_type, read_spec_of, read_type_spec, type_in}
use Rattle.go_parser.proofs.GroupLaws.{StandsAlone}
use Rattle.type_parser.specs.Cut.{enclosed}
use Rattle.type_parser.specs.Reading.{◌>>=◌, ◌<$>◌, type_of}
use Rattle.type_parser.specs.Reading as reads
use Rattle.type_parser.specs.TypeParams.{read_type_params}
use Rattle.type_parser.proofs.GrammarLaws.{marks_are, marks_same, marks_differ}
use Rattle.type_parser.proofs.GrammarLaws.{enclosed-sound, opens-with}
use Rattle.type_parser.proofs.GrammarLaws.{bind_some, map_some, guard_some, choice}
use Rattle.type_parser.proofs.GrammarLaws.{type-sound, type-complete, type-reads}
use Rattle.type_parser.proofs.GrammarLaws.{read_type_params-sound, read_type_params-complete}

-- no type begins with `=`
equal-ends : (levels : ℕ) (w : Word) (ws : List Word) (x : TypeExpr)
    → type_of levels (w ∷ ws) ≡ Some x → w.mark ≢ m.Equal
unfolding type_of
equal-ends zero w ws x e is = cc e
equal-ends (suc levels) w ws x e is =
    let none = subst (λ v. reads.by_mark (type_of levels) v w ws ≡ Some x) is e in cc none

-- the parameters that words begin with, as they are read
leading-sound : (ws : List Word) (y : List TypeParam × List Word)
    → read_leading_params ws ≡ Some y
    → (inner : List Word) × Encloses m.OpenBracket m.CloseBracket ws inner y.1
    × AreTypeParams inner y.0
unfolding read_leading_params
leading-sound [] y e = absurd (cc)
leading-sound (w ∷ ws) y e =
    let test = guard_some (same_mark w.mark m.OpenBracket)
    (enclosed m.CloseBracket ws >>= params_of) y e in
    let parts = bind_some (enclosed m.CloseBracket ws) params_of y test.1 in
    let read = map_some (λ params. (params, parts.0.1))
    (read_type_params (type_of MAX_TYPE_LEVELS) parts.0.0) y parts.2 in
    let brackets = enclosed-sound m.OpenBracket m.CloseBracket w ws parts.0.0 parts.0.1
    (marks_are w.mark m.OpenBracket test.0) parts.1 in
    subst (λ z. (inner : List Word) × Encloses m.OpenBracket m.CloseBracket (w ∷ ws) inner z.1
    × AreTypeParams inner z.0) read.2
    (parts.0.0, brackets, read_type_params-sound parts.0.0 read.0 read.1)

leading-complete : (ws inner rest : List Word) (params : List TypeParam)
    → Encloses m.OpenBracket m.CloseBracket ws inner rest → AreTypeParams inner params
    → read_leading_params ws ≡ Some (params, rest)
unfolding read_leading_params
leading-complete ws inner rest params brackets spelled =
    let begun = opens-with m.OpenBracket m.CloseBracket ws inner rest refl brackets in
    rw (
      begun.2,
      marks_same begun.0.mark m.OpenBracket begun.3,
      begun.4,
      read_type_params-complete inner params spelled,
    ) refl

leading-none : (ws : List Word) → ¬ (BeginWithParams ws) → read_leading_params ws ≡ None
leading-none ws none = go (read_leading_params ws) refl
  where
    go : (o : Option (List TypeParam × List Word)) → read_leading_params ws ≡ o
        → read_leading_params ws ≡ None
    go None e = e
    go (Some y) e = let found = leading-sound ws y e in
        absurd (none (found.0, y.1, y.0, found.1, found.2))

-- what the words after a name and its type parameters declare, as it is read
declared-sound : (tokens : TokenRange) (name : Span) (params : List TypeParam) (ws : List Word)
    (x : TypeSpec) → read_declared_type tokens name params ws ≡ Some x
    → (alias : Bool) × (y : TypeExpr) × IsDeclaredType ws alias y
    × (type_spec tokens name params alias y ≡ x)
declared-sound tokens name params [] x e = absurd (cc e)
declared-sound tokens name params (w ∷ ws) x e =
    ⊎_elim
    (λ p. let read = map_some (type_spec tokens name params true) (type_in ws) x p.1 in (
      true,
      read.0,
      g.aliased w (marks_are w.mark m.Equal p.0)
          (type-sound MAX_TYPE_LEVELS ws read.0 read.1),
      read.2,
    ))
    (λ p. let read = map_some (type_spec tokens name params false) (type_in (w ∷ ws)) x p.1 in
    (false, read.0, g.defined (type-sound MAX_TYPE_LEVELS (w ∷ ws) read.0 read.1), read.2))
    (choice (same_mark w.mark m.Equal) (read_spec_of tokens name params true ws)
    (read_spec_of tokens name params false (w ∷ ws)) (Some x) e)

declared-complete : (tokens : TokenRange) (name : Span) (params : List TypeParam) (ws : List Word)
    (alias : Bool) (x : TypeExpr) → IsDeclaredType ws alias x
    → read_declared_type tokens name params ws ≡ Some (type_spec tokens name params alias x)
declared-complete tokens name params [] _ x (g.defined s) =
    absurd (cc (type-complete MAX_TYPE_LEVELS [] x s, (type-reads MAX_TYPE_LEVELS).nothing))
declared-complete tokens name params (w ∷ ws) _ x (g.defined s) =
    let read = type-complete MAX_TYPE_LEVELS (w ∷ ws) x s in
    rw (marks_differ w.mark m.Equal (equal-ends MAX_TYPE_LEVELS w ws x read), read) refl
declared-complete tokens name params _ _ x (g.aliased equal {ws} is s) =
    rw (marks_same equal.mark m.Equal is, type-complete MAX_TYPE_LEVELS ws x s) refl

named-sound : (name : Word) (ws : List Word) (x : TypeSpec)
    (o : Option (List TypeParam × List Word)) → name.mark ≡ m.Ident
    → read_leading_params ws ≡ o
    → read_named_type (range_of name ws) name.span ws o ≡ Some x
    → IsTypeSpec (name ∷ ws) x
named-sound name ws x None is none e =
    let found = declared-sound (range_of name ws) name.span [] ws x e in
    subst (IsTypeSpec (name ∷ ws)) found.3
    (g.plain name is (λ p. absurd (cc (none, leading-complete ws p.0 p.1 p.2 p.3 p.4))) found.2)
named-sound name ws x (Some (params, rest)) is some e =
    let found = declared-sound (range_of name ws) name.span params rest x e in
    let leading = leading-sound ws (params, rest) some in
    subst (IsTypeSpec (name ∷ ws)) found.3
    (g.generic name is leading.1 leading.2 found.2)

pub type_spec-sound : (ws : List Word) (x : TypeSpec) → read_type_spec ws ≡ Some x
    → IsTypeSpec ws x
unfolding read_type_spec
type_spec-sound [] x e = absurd (cc)
type_spec-sound (name ∷ ws) x e =
    let test = guard_some (same_mark name.mark m.Ident)
    (read_named_type (range_of name ws) name.span ws (read_leading_params ws)) x e in
    named-sound name ws x (read_leading_params ws) (marks_are name.mark m.Ident test.0) refl test.1

pub type_spec-complete : (ws : List Word) (x : TypeSpec) → IsTypeSpec ws x
    → read_type_spec ws ≡ Some x
unfolding read_type_spec
type_spec-complete _ _ (g.plain name {ws} {alias} {x} is none s) =
    rw (
      marks_same name.mark m.Ident is,
      leading-none ws none,
      declared-complete (range_of name ws) name.span [] ws alias x s,
    ) refl
type_spec-complete _ _ (g.generic name {ws} {inner} {rest} {params} {alias} {x} is brackets spelled
    s) =
    rw (
      marks_same name.mark m.Ident is,
      leading-complete ws inner rest params brackets spelled,
      declared-complete (range_of name ws) name.span params rest alias x s,
    ) refl

pub type_spec-alone : StandsAlone read_type_spec IsTypeSpec
unfolding read_type_spec
type_spec-alone = record {
  nothing = refl;
  no_paren = λ w ws x e paren.
      let test = guard_some (same_mark w.mark m.Ident)
      (read_named_type (range_of w ws) w.span ws (read_leading_params ws)) x e in
      absurd (cc (marks_are w.mark m.Ident test.0, paren));
}
