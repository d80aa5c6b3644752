-- Cited by public clauses. Type parameters, and which brackets after the name of a type declaration
-- hold them rather than the length of an array (The Go Programming Language Specification, "Type
-- parameter declarations").
use Rattle.std.specs.Prelude.{◌≡◌, Bool, true, false, ◌&&◌, ◌||◌, not, List, [], ◌∷◌}
use Rattle.std.specs.List.{list_any}
use Rattle.go_ast.specs.declared.declaration.TypeParam.{TypeParam}
use Rattle.go_ast.specs.declared.tree.Term.{Term}
use Rattle.go_ast.specs.declared.tree.TheConstants.{MAX_TYPE_LEVELS}
use Rattle.go_ast.specs.declared.token.Span.{Span}
use Rattle.go_ast.specs.declared.word.Word.{Word}
use Rattle.go_ast.specs.declared.word.Mark.TheVariants as m
use Rattle.go_ast.specs.Marks.{same_mark}
use Rattle.go_ast.specs.Cutting.{pieces}
use Rattle.go_ast.specs.Types.{AreTerms, Spells}

-- a type parameter whose entry has a bound
abbrev pub type_param : Span → List Term → TypeParam
type_param name bound = record { name = name; bound = bound; shares = false }

-- a type parameter whose name stands alone in its entry, with the bound of the next
abbrev pub sharing_type_param : Span → List Term → TypeParam
sharing_type_param name bound = record { name = name; bound = bound; shares = true }

-- entries of names, where a name alone shares the bound of the next
pub data Entries : List (List Word) → List TypeParam → Type 0 where
  final : (name : Word) {ws : List Word} {xs : List Term} → name.mark ≡ m.Ident
      → AreTerms (Spells MAX_TYPE_LEVELS) ws xs
      → Entries ((name ∷ ws) ∷ []) (type_param name.span xs ∷ [])
  bounded : (name : Word) {ws : List Word} {xs : List Term} {es : List (List Word)}
      {ps : List TypeParam} → name.mark ≡ m.Ident
      → AreTerms (Spells MAX_TYPE_LEVELS) ws xs → Entries es ps
      → Entries ((name ∷ ws) ∷ es) (type_param name.span xs ∷ ps)
  shared : (name : Word) {es : List (List Word)} {p : TypeParam} {ps : List TypeParam}
      → name.mark ≡ m.Ident → Entries es (p ∷ ps)
      → Entries ((name ∷ []) ∷ es) (sharing_type_param name.span p.bound ∷ p ∷ ps)

-- a token that no expression for a length in this place has
abbrev pub shows_bound : Word → Bool
shows_bound w = list_any (same_mark w.mark)
    (m.Tilde ∷ m.Interface ∷ m.Struct ∷ m.Func ∷ m.Map ∷ m.Chan ∷ m.OpenBracket ∷ [])

abbrev pub ends_with_comma : List Word → Bool
ends_with_comma [] = false
ends_with_comma (w ∷ []) = same_mark w.mark m.Comma
ends_with_comma (w ∷ v ∷ vs) = ends_with_comma (v ∷ vs)

-- no comma stands outside brackets
abbrev pub is_one_piece : List (List Word) → Bool
is_one_piece (p ∷ []) = true
is_one_piece _ = false

abbrev pub second_is_star_or_paren : List Word → Bool
second_is_star_or_paren (w ∷ v ∷ vs) = same_mark v.mark m.Star || same_mark v.mark m.OpenParen
second_is_star_or_paren _ = false

-- the words could be a product or a call, as the length of an array is, and nothing shows that they
-- are none
unfoldable pub is_array_like : List Word → Bool
is_array_like ws = is_one_piece (pieces m.Comma ws) && not (ends_with_comma ws)
    && second_is_star_or_paren ws && not (list_any shows_bound ws)

-- the words between the brackets after the name of a type declaration are type parameters
pub record AreTypeParams (ws : List Word) (params : List TypeParam) : Type 0 where
  pub entries : Entries (pieces m.Comma ws) params
  pub not_array : is_array_like ws ≡ false
