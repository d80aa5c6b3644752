-- Constants and variables: what is read is spelled so, and what is spelled so is read.
use Rattle.std.proofs.Common.{◌≡◌, ◌∙◌, ap, sym, refl, subst, Bool, true, false}
use Rattle.std.proofs.Common.{cond, List, [], ◌∷◌, Option, Some, None, ⊎_elim, ◌⊎◌, inl}
use Rattle.std.proofs.Common.{inr}
use Rattle.go_ast.specs.declared.declaration.ValueSpec.{ValueSpec}
use Rattle.go_ast.specs.declared.token.Span.{Span}
use Rattle.go_ast.specs.declared.tree.TheConstants.{MAX_TYPE_LEVELS}
use Rattle.go_ast.specs.declared.tree.TypeExpr.{TypeExpr}
use Rattle.go_ast.specs.declared.word.Word.{Word}
use Rattle.go_ast.specs.declared.word.Mark.{Mark}
use Rattle.go_ast.specs.declared.word.Mark.TheVariants as m
use Rattle.go_ast.specs.Cutting.{depth_after, in_front, range_of, split_from, split_once}
use Rattle.go_ast.specs.Declarations as g
use Rattle.go_ast.specs.Declarations.{AreNames, AreTyped, IsConstSpec, IsVarSpec, value_spec}
use Rattle.go_ast.specs.Marks.{opens, closes, same_mark}
use Rattle.go_ast.specs.Types as types
use Rattle.go_ast.specs.Types.{Spells}
use Rattle.go_parser.specs.Reading.{Typed, with_name, one_name, read_typed, unassigned, assigned}
use Rattle.go_parser.specs.Reading.{read_value_by, read_value_spec, type_in}
use Rattle.go_parser.proofs.GroupLaws.{StandsAlone}
use Rattle.type_parser.specs.Reading.{◌<$>◌}
use Rattle.type_parser.proofs.GrammarLaws.{marks_are, marks_same, marks_differ, pair-is, some-is}
use Rattle.type_parser.proofs.GrammarLaws.{bind_some, map_some, guard_some, choice}
use Rattle.type_parser.proofs.GrammarLaws.{type-sound, type-complete, type-reads}

typed-more : (name comma : Word) (ws : List Word) (names : List Span) (x : Option TypeExpr)
    → name.mark ≡ m.Ident → comma.mark ≡ m.Comma → AreTyped ws names x
    → AreTyped (name ∷ comma ∷ ws) (name.span ∷ names) x
typed-more name comma _ _ _ is is_comma (g.untyped n) = g.untyped (g.more name comma is is_comma n)
typed-more name comma _ _ _ is is_comma (g.typed d) =
    g.typed (types.more name comma is is_comma d)

pub typed-sound : (ws : List Word) (y : Typed) → read_typed ws ≡ Some y → AreTyped ws y.0 y.1
typed-sound [] y e = absurd (cc)
typed-sound (name ∷ []) y e =
    let test = guard_some (same_mark name.mark m.Ident) (Some (name.span ∷ [], None)) y e in
    subst (λ z. AreTyped (name ∷ []) z.0 z.1) (some-is _ y test.1)
    (g.untyped (g.one name (marks_are name.mark m.Ident test.0)))
typed-sound (name ∷ v ∷ vs) y e =
    let test = guard_some (same_mark name.mark m.Ident)
    (cond (same_mark v.mark m.Comma) (with_name name.span <$> read_typed vs)
    (one_name name.span <$> type_in (v ∷ vs))) y e in
    let is = marks_are name.mark m.Ident test.0 in
    ⊎_elim
    (λ p. let read = map_some (with_name name.span) (read_typed vs) y p.1 in
    subst (λ z. AreTyped (name ∷ v ∷ vs) z.0 z.1) read.2
    (typed-more name v vs read.0.0 read.0.1 is (marks_are v.mark m.Comma p.0)
    (typed-sound vs read.0 read.1)))
    (λ p. let read = map_some (one_name name.span) (type_in (v ∷ vs)) y p.1 in
    subst (λ z. AreTyped (name ∷ v ∷ vs) z.0 z.1) read.2
    (g.typed (types.one name is (type-sound MAX_TYPE_LEVELS (v ∷ vs) read.0 read.1))))
    (choice (same_mark v.mark m.Comma) (with_name name.span <$> read_typed vs)
    (one_name name.span <$> type_in (v ∷ vs)) (Some y) test.1)

names-complete : (ws : List Word) (names : List Span) → AreNames ws names
    → read_typed ws ≡ Some (names, None)
names-complete _ _ (g.one name is) = rw (marks_same name.mark m.Ident is) refl
names-complete _ _ (g.more name comma {ws} {names} is is_comma n) =
    rw (
      marks_same name.mark m.Ident is,
      marks_same comma.mark m.Comma is_comma,
      names-complete ws names n,
    ) refl

declared-complete : (ws : List Word) (names : List Span) (x : TypeExpr)
    → types.Declared (Spells MAX_TYPE_LEVELS) ws names x → read_typed ws ≡ Some (names, Some x)
declared-complete _ _ x (types.one name {ws = []} is s) =
    absurd (cc (type-complete MAX_TYPE_LEVELS [] x s, (type-reads MAX_TYPE_LEVELS).nothing))
declared-complete _ _ x (types.one name {ws = w ∷ ws} is s) =
    let read = type-complete MAX_TYPE_LEVELS (w ∷ ws) x s in
    rw (
      marks_same name.mark m.Ident is,
      marks_differ w.mark m.Comma ((type-reads MAX_TYPE_LEVELS).no_comma w ws x read),
      read,
    ) refl
declared-complete _ _ x (types.more name comma {ws} {names} is is_comma d) =
    rw (
      marks_same name.mark m.Ident is,
      marks_same comma.mark m.Comma is_comma,
      declared-complete ws names x d,
    ) refl

typed-complete : (ws : List Word) (names : List Span) (x : Option TypeExpr) → AreTyped ws names x
    → read_typed ws ≡ Some (names, x)
typed-complete _ _ _ (g.untyped {ws} {names} n) = names-complete ws names n
typed-complete _ _ _ (g.typed {ws} {names} {x} d) = declared-complete ws names x d

abbrev pub IsValueSpec : Bool → List Word → ValueSpec → Type 0
IsValueSpec true ws spec = IsConstSpec ws spec
IsValueSpec false ws spec = IsVarSpec ws spec

unassigned-sound : (constant : Bool) (w : Word) (ws : List Word) (y : Typed) (spec : ValueSpec)
    → split_once m.Equal (w ∷ ws) ≡ None → AreTyped (w ∷ ws) y.0 y.1
    → unassigned constant (range_of w ws) y ≡ Some spec → IsValueSpec constant (w ∷ ws) spec
unassigned-sound true w ws (names, None) spec none (g.untyped n) e =
    subst (IsConstSpec (w ∷ ws)) (some-is _ spec e) (g.repeated w n)
unassigned-sound true w ws (names, Some x) spec none t e = absurd (cc)
unassigned-sound false w ws (names, None) spec none t e = absurd (cc)
unassigned-sound false w ws (names, Some x) spec none (g.typed d) e =
    subst (IsVarSpec (w ∷ ws)) (some-is _ spec e) (g.zeroed w none d)

assigned-either : (constant : Bool) (ws : List Word) (spec : ValueSpec) → g.IsAssigned ws spec
    → IsValueSpec constant ws spec
assigned-either true ws spec a = g.assigned a
assigned-either false ws spec a = g.assigned a

value-by-sound : (constant : Bool) (w : Word) (ws : List Word) (spec : ValueSpec)
    (o : Option (List Word × List Word)) → split_once m.Equal (w ∷ ws) ≡ o
    → read_value_by constant (range_of w ws) (w ∷ ws) o ≡ Some spec
    → IsValueSpec constant (w ∷ ws) spec
value-by-sound constant w ws spec None is e =
    let read = bind_some (read_typed (w ∷ ws)) (unassigned constant (range_of w ws)) spec e in
    unassigned-sound constant w ws read.0 spec is (typed-sound (w ∷ ws) read.0 read.1) read.2
value-by-sound constant w ws spec (Some (front, [])) is e = absurd (cc)
value-by-sound constant w ws spec (Some (front, v ∷ vs)) is e =
    let read = map_some (assigned (range_of w ws) (range_of v vs)) (read_typed front) spec e in
    assigned-either constant (w ∷ ws) spec
    (subst (g.IsAssigned (w ∷ ws)) read.2
    (g.assigned w v vs is (typed-sound front read.0 read.1)))

pub value-sound : (constant : Bool) (ws : List Word) (spec : ValueSpec)
    → read_value_spec constant ws ≡ Some spec → IsValueSpec constant ws spec
unfolding read_value_spec
value-sound constant [] spec e = absurd (cc)
value-sound constant (w ∷ ws) spec e =
    value-by-sound constant w ws spec (split_once m.Equal (w ∷ ws)) refl e

-- names alone have no `=`
flat : (w : Word) (mark : Mark) (ws : List Word) → w.mark ≡ mark → opens mark ≡ false
    → closes mark ≡ false → same_mark mark m.Equal ≡ false → split_from m.Equal 0 ws ≡ None
    → split_from m.Equal 0 (w ∷ ws) ≡ None
flat w mark ws is o c other none = rw (is, other, o, c, none) refl

names-unsplit : (ws : List Word) (names : List Span) → AreNames ws names
    → split_from m.Equal 0 ws ≡ None
unfolding same_mark
names-unsplit _ _ (g.one name is) = flat name m.Ident [] is refl refl refl refl
names-unsplit _ _ (g.more name comma {ws} {names} is is_comma n) =
    flat name m.Ident (comma ∷ ws) is refl refl refl
    (flat comma m.Comma ws is_comma refl refl refl (names-unsplit ws names n))

assigned-complete : (constant : Bool) (ws : List Word) (spec : ValueSpec) → g.IsAssigned ws spec
    → read_value_spec constant ws ≡ Some spec
unfolding read_value_spec
assigned-complete constant _ _ (g.assigned w {ws} {front} first run {names} {x} is t) =
    rw (is, typed-complete front names x t) refl

pub value-complete : (constant : Bool) (ws : List Word) (spec : ValueSpec)
    → IsValueSpec constant ws spec → read_value_spec constant ws ≡ Some spec
unfolding read_value_spec split_once
value-complete true _ _ (g.repeated w {ws} {names} n) =
    rw (names-unsplit (w ∷ ws) names n, names-complete (w ∷ ws) names n) refl
value-complete true _ _ (g.assigned {ws} {spec} a) = assigned-complete true ws spec a
value-complete false _ _ (g.zeroed w {ws} {names} {x} none d) =
    rw (none, declared-complete (w ∷ ws) names x d) refl
value-complete false _ _ (g.assigned {ws} {spec} a) = assigned-complete false ws spec a

typed-begins : (w : Word) (ws : List Word) (y : Typed) → read_typed (w ∷ ws) ≡ Some y
    → w.mark ≡ m.Ident
typed-begins w [] y e = marks_are w.mark m.Ident
    (guard_some (same_mark w.mark m.Ident) (Some (w.span ∷ [], None)) y e).0
typed-begins w (v ∷ vs) y e = marks_are w.mark m.Ident
    (guard_some (same_mark w.mark m.Ident)
    (cond (same_mark v.mark m.Comma) (with_name w.span <$> read_typed vs)
    (one_name w.span <$> type_in (v ∷ vs))) y e).0

-- what stands before the first `=` begins with the first word
front-begins : (w : Word) (ws front back : List Word)
    → split_once m.Equal (w ∷ ws) ≡ Some (front, back)
    → (front ≡ []) ⊎ ((us : List Word) × (front ≡ w ∷ us))
unfolding split_once
front-begins w ws front back e = go (same_mark w.mark m.Equal) refl
  where
    go : (t : Bool) → same_mark w.mark m.Equal ≡ t
        → (front ≡ []) ⊎ ((us : List Word) × (front ≡ w ∷ us))
    go true h = let same : ◌≡◌ {A = Option (List Word × List Word)} (Some ([], ws))
        (Some (front, back)) = rw h at e in
        inl (sym (pair-is [] front ws back same).0)
    go false h = tail (split_from m.Equal (depth_after 0 w.mark) ws) (rw h at e)
      where
        tail : (o : Option (List Word × List Word)) → in_front w o ≡ Some (front, back)
            → (front ≡ []) ⊎ ((us : List Word) × (front ≡ w ∷ us))
        tail None f = absurd (cc)
        tail (Some (us, vs)) f = inr (us, sym (pair-is (w ∷ us) front vs back f).0)

value-begins : (constant : Bool) (w : Word) (ws : List Word) (spec : ValueSpec)
    (o : Option (List Word × List Word)) → split_once m.Equal (w ∷ ws) ≡ o
    → read_value_by constant (range_of w ws) (w ∷ ws) o ≡ Some spec → w.mark ≡ m.Ident
value-begins constant w ws spec None is e =
    let read = bind_some (read_typed (w ∷ ws)) (unassigned constant (range_of w ws)) spec e in
    typed-begins w ws read.0 read.1
value-begins constant w ws spec (Some (front, [])) is e = absurd (cc)
value-begins constant w ws spec (Some (front, v ∷ vs)) is e =
    let read = map_some (assigned (range_of w ws) (range_of v vs)) (read_typed front) spec e in
    ⊎_elim
    (λ none. absurd (cc (none, read.1)))
    (λ more. typed-begins w more.0 read.0 (ap read_typed (sym more.1) ∙ read.1))
    (front-begins w ws front (v ∷ vs) is)

pub value-alone : (constant : Bool) → StandsAlone (read_value_spec constant) (IsValueSpec constant)
unfolding read_value_spec
value-alone constant = record {
  nothing = refl;
  no_paren = λ w ws x e paren.
      let is = value-begins constant w ws x (split_once m.Equal (w ∷ ws)) refl e in
      absurd (cc (is, paren));
}
