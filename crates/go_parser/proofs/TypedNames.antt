-- Names before others, as a loop finds them.
use Rattle.std.proofs.Common.{◌≡◌, ◌∙◌, ap, refl, true, false, List, [], ◌∷◌, ◌++◌}
use Rattle.std.proofs.Common.{append_assoc, Option, Some, None}
use Rattle.go_ast.specs.declared.token.Span.{Span}
use Rattle.go_ast.specs.declared.tree.TypeExpr.{TypeExpr}
use Rattle.go_ast.specs.declared.word.Word.{Word}
use Rattle.go_ast.specs.declared.word.Mark.TheVariants as m
use Rattle.go_ast.specs.Marks.{same_mark}
use Rattle.go_parser.specs.Reading.{Typed, after_names, one_name, read_typed, type_in, with_name}
use Rattle.type_parser.specs.Reading.{◌<$>◌}

abbrev pub GoesOn : List Word → List Span → List Word → Type 0
GoesOn ws names rest = read_typed ws ≡ after_names names <$> read_typed rest

pub no-names-yet : (o : Option Typed) → o ≡ (after_names [] <$> o)
no-names-yet None = refl
no-names-yet (Some (names, x)) = refl

shifted : (names : List Span) (name : Span) (o : Option Typed)
    → (after_names names <$> (with_name name <$> o)) ≡ (after_names (names ++ name ∷ []) <$> o)
shifted names name None = refl
shifted names name (Some (others, x)) = rw append_assoc refl

pub name-more : (ws : List Word) (names : List Span) (rest after others : List Word)
    (name next : Word) → GoesOn ws names rest → rest ≡ name ∷ after → after ≡ next ∷ others
    → same_mark name.mark m.Ident ≡ true → same_mark next.mark m.Comma ≡ true
    → GoesOn ws (names ++ name.span ∷ []) others
name-more ws names rest after others name next h r a is comma =
    h ∙ (rw (r, a, is, comma) (shifted names name.span (read_typed others)))

pub name-typed : (ws : List Word) (names : List Span) (rest after others : List Word)
    (name next : Word) (o : Option TypeExpr) → GoesOn ws names rest
    → rest ≡ name ∷ after → after ≡ next ∷ others → same_mark name.mark m.Ident ≡ true
    → same_mark next.mark m.Comma ≡ false → o ≡ type_in after
    → read_typed ws ≡ ((λ x. (names ++ name.span ∷ [], Some x)) <$> o)
name-typed ws names rest after others name next o h r a is off e = h
    ∙ (rw (r, a, is, off) (go (type_in (next ∷ others)) o (e ∙ ap type_in a)))
  where
    go : (read out : Option TypeExpr) → out ≡ read
        → (after_names names <$> (one_name name.span <$> read))
        ≡ ((λ x. (names ++ name.span ∷ [], Some x)) <$> out)
    go None out e = rw e refl
    go (Some x) out e = rw e refl

pub name-alone : (ws : List Word) (names : List Span) (rest after : List Word) (name : Word)
    → GoesOn ws names rest → rest ≡ name ∷ after → after ≡ []
    → same_mark name.mark m.Ident ≡ true → read_typed ws ≡ Some (names ++ name.span ∷ [], None)
name-alone ws names rest after name h r a is = h ∙ (rw (r, a, is) refl)
